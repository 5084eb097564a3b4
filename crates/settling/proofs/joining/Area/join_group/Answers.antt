-- Each turn takes the next equality of the group: `Grouping` says that what is left of the group, with the replacements made so far, canonicalizes to the
-- rest of what the whole group does. Assumes nothing.
use mathlib.Core.Path.{◌∙◌, refl}
use native.Mathlib.Omega.{arith}
use Rattle.octets.proofs.Words.{length_words}
use Rattle.octets.specs.Words.{words}
use Rattle.settling.proofs.JoinGroup.{Going, GroupTurn, group_turn, grouping_end, grouping_next, grouping_start}
use Rattle.settling.proofs.joining.Area.join_group.Goals as goal

pub loop-i-init : goal.loop-i-init
loop-i-init c = (refl, grouping_start c.requires)

pub join_one-one-requires : goal.join_one-one-requires
join_one-one-requires c =
    let at_turn : GroupTurn c.loop-i.invariant.1 = group_turn _ c.loop-i-test.true (omega (arith, length_words c.args.s.now, c.well_formed)) in
    at_turn.one

pub loop-i-preserved : goal.loop-i-preserved
loop-i-preserved c =
    let at_turn : GroupTurn c.loop-i.invariant.1 = group_turn _ c.loop-i-test.true (omega (arith, length_words c.args.s.now, c.well_formed)) in
    let at_next : Going at_turn (words c.join_one-one.new.s) c.join_one-one.result =
    grouping_next at_turn c.args.self.sign.known_equals c.join_one-one.ensures in
    (c.join_one-one.auto.s ∙ c.loop-i.invariant.0, at_next)

pub returns : goal.returns
returns c = grouping_end c.loop-i.invariant.1 c.loop-i-test.false
