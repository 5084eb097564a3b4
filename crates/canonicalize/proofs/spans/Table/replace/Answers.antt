-- Replacing x by y over the span of x: every x stands in its span, so that run is as good as one over all words; and y may then stand wherever x did, so its
-- span takes in that of x. With one bucket the span is the whole body. Assumes nothing.
use native.Mathlib.Omega.{arith}
use Rattle.octets.proofs.Words.{length_words}
use Rattle.canonicalize.proofs.SpansUsed.{buckets_found, passed, replaced, replaced_whole, seen}
use Rattle.canonicalize.proofs.spans.Table.replace.Goals as goal

pub returns-then-self-eq1 : goal.returns-then-self-eq1
returns-then-self-eq1 c =
    replaced_whole c.requires _ _ c.if-self-eq1.true c.replace.ensures

pub replace_between-requires : goal.replace_between-requires
replace_between-requires c =
    let at_buckets = buckets_found c.requires c.bucket.ensures.0 c.bucket-2.ensures (omega (arith, length_words c.args.s.now, c.well_formed)) in
    let at_span = seen at_buckets c.get-low.ensures.is c.get-high.ensures.is in
    at_span.inside

pub returns : goal.returns
returns c =
    let at_buckets = buckets_found c.requires c.bucket.ensures.0 c.bucket-2.ensures (omega (arith, length_words c.args.s.now, c.well_formed)) in
    let at_span = seen at_buckets c.get-low.ensures.is c.get-high.ensures.is in
    let at_between = passed at_span c.max.ensures c.replace_between.ensures in
    replaced at_between c.get-first.ensures.is c.get-end.ensures.is
    c.min.ensures c.max-2.ensures c.put.ensures c.put-2.ensures
