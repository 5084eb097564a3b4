-- One bucket whose span is the whole body: every word stands in it, whichever it is. Assumes nothing.
use Rattle.canonicalize.proofs.SpansBuilt.{whole_built}
use Rattle.canonicalize.proofs.spans.one_bucket.Goals as goal

pub returns : goal.returns
returns c = whole_built c.requires c.put_all.ensures.1
