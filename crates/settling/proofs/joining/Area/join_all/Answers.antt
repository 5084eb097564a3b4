-- Each turn joins the group in front: `Joining` says that the groups behind it and the atoms, with the replacements made so far, canonicalize to the rest of
-- what all of them do. Assumes nothing.
use mathlib.Core.Path.{◌∙◌, refl}
use native.Mathlib.Omega.{arith}
use Rattle.octets.proofs.Words.{length_words}
use Rattle.settling.proofs.JoinAll.{all_turn, group_read, joining_end, joining_next, joining_start}
use Rattle.settling.proofs.joining.Area.join_all.Goals as goal

pub loop-i-init : goal.loop-i-init
loop-i-init c = (refl, joining_start c.requires)

pub overflow_sub-e-in-loop-i : goal.overflow_sub-e-in-loop-i
overflow_sub-e-in-loop-i c =
    let at_turn = all_turn c.loop-i.invariant.1 c.loop-i-test.true (omega (arith, length_words c.args.s.now, c.well_formed)) in
    let at_read = group_read at_turn c.get-left.ensures.is c.get-m.ensures.is in
    omega (arith, at_read)

pub join_group-one-requires : goal.join_group-one-requires
join_group-one-requires c =
    let at_turn = all_turn c.loop-i.invariant.1 c.loop-i-test.true (omega (arith, length_words c.args.s.now, c.well_formed)) in
    let at_read = group_read at_turn c.get-left.ensures.is c.get-m.ensures.is in
    at_read.asks

pub loop-i-preserved : goal.loop-i-preserved
loop-i-preserved c =
    let at_turn = all_turn c.loop-i.invariant.1 c.loop-i-test.true (omega (arith, length_words c.args.s.now, c.well_formed)) in
    let at_read = group_read at_turn c.get-left.ensures.is c.get-m.ensures.is in
    (c.join_group-one.auto.s ∙ c.loop-i.invariant.0, joining_next at_read c.join_group-one.ensures)

pub returns : goal.returns
returns c = joining_end c.loop-i.invariant.1 c.loop-i-test.false
