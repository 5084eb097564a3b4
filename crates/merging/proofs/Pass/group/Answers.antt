-- Each link leads to the next atom of the bucket, and those between are of other buckets, so all that are alike to the first are met, in order.
use mathlib.Core.Path.{◌∙◌, ap, refl}
use native.Mathlib.Omega.{arith}
use Rattle.octets.proofs.Words.{length_words}
use Rattle.merging.specs.Chains.{link_of}
use Rattle.merging.proofs.Following.{begun, follow_start, met, stepped, follow_falls, follow_next}
use Rattle.merging.proofs.Following.{followed, follow_none, follow_some}
use Rattle.merging.proofs.Pass.group.Goals as goal

pub loop-next-init : goal.loop-next-init
loop-next-init c =
    let at_start = begun c.requires (omega (arith, length_words c.args.s.now, c.well_formed)) in
    (refl, follow_start at_start c.linked-next.ensures)

pub overflow_add-later : goal.overflow_add-later
overflow_add-later c = let at_in = met c.loop-next.invariant.1 (ap link_of c.in-Some.is) in omega (arith, at_in)

pub overflow_add-link : goal.overflow_add-link
overflow_add-link c = let at_in = met c.loop-next.invariant.1 (ap link_of c.in-Some.is) in omega (arith, at_in)

pub overflow_add-link-in-Some : goal.overflow_add-link-in-Some
overflow_add-link-in-Some c = let at_in = met c.loop-next.invariant.1 (ap link_of c.in-Some.is) in omega (arith, at_in)

pub overflow_add-mark : goal.overflow_add-mark
overflow_add-mark c = let at_in = met c.loop-next.invariant.1 (ap link_of c.in-Some.is) in omega (arith, at_in)

pub overflow_add-mark-in-Some : goal.overflow_add-mark-in-Some
overflow_add-mark-in-Some c = let at_in = met c.loop-next.invariant.1 (ap link_of c.in-Some.is) in omega (arith, at_in)

pub member-k-requires : goal.member-k-requires
member-k-requires c =
    let at_in = met c.loop-next.invariant.1 (ap link_of c.in-Some.is) in
    at_in.asks

pub linked-next-requires-in-Some : goal.linked-next-requires-in-Some
linked-next-requires-in-Some c =
    let at_in = met c.loop-next.invariant.1 (ap link_of c.in-Some.is) in
    let at_member = stepped at_in c.member-k.ensures in
    at_member.link

pub loop-next-smaller : goal.loop-next-smaller
loop-next-smaller c =
    let at_in = met c.loop-next.invariant.1 (ap link_of c.in-Some.is) in
    let at_member = stepped at_in c.member-k.ensures in
    follow_falls at_member c.linked-next-in-Some.ensures

pub loop-next-preserved : goal.loop-next-preserved
loop-next-preserved c =
    let at_in = met c.loop-next.invariant.1 (ap link_of c.in-Some.is) in
    let at_member = stepped at_in c.member-k.ensures in
    (c.member-k.auto.s ∙ c.loop-next.invariant.0, follow_next at_member c.linked-next-in-Some.ensures)

pub returns-then-k-eq0 : goal.returns-then-k-eq0
returns-then-k-eq0 c =
    let at_end = followed c.loop-next.invariant.1 (ap link_of c.in_default.is) in
    follow_none at_end c.if-k-eq0.true

pub output-left-requires : goal.output-left-requires
output-left-requires c =
    let at_end = followed c.loop-next.invariant.1 (ap link_of c.in_default.is) in
    at_end.first

pub overflow_cast-k : goal.overflow_cast-k
overflow_cast-k c = let at_end = followed c.loop-next.invariant.1 (ap link_of c.in_default.is) in omega (arith, at_end)

pub returns : goal.returns
returns c =
    let at_end = followed c.loop-next.invariant.1 (ap link_of c.in_default.is) in
    follow_some at_end c.if-k-eq0.false c.output-left.ensures c.put_all.ensures.1
