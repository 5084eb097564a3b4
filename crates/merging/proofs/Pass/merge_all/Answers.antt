-- Each turn merges one atom, so behind the loop the groups are written and every kept atom is held in front or in the last run, which then moves.
use mathlib.Core.Path.{◌∙◌, ap, refl}
use Prim.Native.Nat.{◌+◌, ℕ}
use native.Mathlib.Omega.{arith}
use Rattle.octets.proofs.Words.{length_words}
use Rattle.merging.proofs.MergingAll.{merging_start, going, one_asks, merging_next, at_last, merging_end}
use Rattle.merging.proofs.Pass.merge_all.Goals as goal

pub loop-i-init : goal.loop-i-init
loop-i-init c = (refl, merging_start c.requires (omega (arith, length_words c.args.s.now, c.well_formed)))

pub size-z-requires : goal.size-z-requires
size-z-requires c =
    let at_in = going c.loop-i.invariant.1 c.loop-i-test.true in
    at_in.begins

pub merge_one-t-requires : goal.merge_one-t-requires
merge_one-t-requires c =
    let at_in = going c.loop-i.invariant.1 c.loop-i-test.true in
    one_asks at_in

pub overflow_add-i : goal.overflow_add-i
overflow_add-i c =
    let at_in = going c.loop-i.invariant.1 c.loop-i-test.true in
    omega (arith, at_in, c.size-z.ensures)

pub loop-i-smaller : goal.loop-i-smaller
loop-i-smaller c =
    let at_in = going c.loop-i.invariant.1 c.loop-i-test.true in
    omega (arith, at_in.some, c.size-z.ensures)

pub loop-i-preserved : goal.loop-i-preserved
loop-i-preserved c =
    let at_in = going c.loop-i.invariant.1 c.loop-i-test.true in
    let p = c.loop-i in
    (c.merge_one-t.auto.s ∙ p.invariant.0, merging_next at_in (ap (λ (x : ℕ). p.i + x) c.size-z.ensures) c.merge_one-t.ensures)

pub returns : goal.returns
returns c =
    let at_end = at_last c.loop-i.invariant.1 c.loop-i-test.false in
    merging_end at_end c.end_run-kept.ensures
