-- The mark tells whether an atom before it is alike: a marked one goes, with the run before it carried down, and an unmarked one stays, with its group.
use native.Mathlib.Omega.{arith}
use Rattle.octets.proofs.Words.{length_words}
use Rattle.merging.proofs.MergingOne.{begun, one_dropped, unmarked, one_kept}
use Rattle.merging.proofs.Pass.merge_one.Goals as goal

-- ---- it is marked

pub overflow_add-result : goal.overflow_add-result
overflow_add-result c =
    let at_start = begun c.requires (omega (arith, length_words c.args.s.now, c.well_formed)) in
    omega (arith, at_start, c.size-z.ensures)

pub returns-then-get-ne0 : goal.returns-then-get-ne0
returns-then-get-ne0 c =
    let at_start = begun c.requires (omega (arith, length_words c.args.s.now, c.well_formed)) in
    let e = c.end_run-kept.ensures in
    one_dropped at_start c.get.ensures.is c.if-get-ne0.true c.size-z.ensures (omega (arith, e.0), e.1)

pub group-e-requires : goal.group-e-requires
group-e-requires c =
    let at_start = begun c.requires (omega (arith, length_words c.args.s.now, c.well_formed)) in
    let at_else = unmarked at_start c.get.ensures.is c.if-get-ne0.false in
    at_else.group

pub overflow_add-free : goal.overflow_add-free
overflow_add-free c =
    let at_start = begun c.requires (omega (arith, length_words c.args.s.now, c.well_formed)) in
    let at_else = unmarked at_start c.get.ensures.is c.if-get-ne0.false in
    omega (arith, at_else)

pub returns : goal.returns
returns c =
    let at_start = begun c.requires (omega (arith, length_words c.args.s.now, c.well_formed)) in
    let at_else = unmarked at_start c.get.ensures.is c.if-get-ne0.false in
    one_kept at_else c.group-e.ensures
