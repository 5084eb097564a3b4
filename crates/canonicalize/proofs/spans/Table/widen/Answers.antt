-- Widening the span of the bucket of a word: both words of that span are put as `widened` has them, and nothing else is. Assumes nothing.
use native.Mathlib.Omega.{arith}
use Rattle.octets.proofs.Words.{length_words}
use Rattle.canonicalize.proofs.SpansBuilt.{fallen, widen_is}
use Rattle.canonicalize.proofs.spans.Table.widen.Goals as goal

pub returns : goal.returns
returns c =
    let at_bucket = fallen c.requires (omega (arith, length_words c.args.s.now, c.well_formed)) c.get.ensures.is c.bucket.ensures in
    widen_is at_bucket c.get-first.ensures.is c.min.ensures c.put.ensures c.put-2.ensures
