-- Making all replacements: no atom that was passed asks again, so one sweep, in which each atom is tried where it stands, makes those of `replace_all`.
-- Assumes nothing.
use mathlib.Core.Path.{◌∙◌, refl}
use Rattle.canonicalize.proofs.Replacing.{next_atom, replacing_end, replacing_next, replacing_start}
use Rattle.canonicalize.proofs.Sweep.replace_all.Goals as goal

pub loop-p-init : goal.loop-p-init
loop-p-init c = (refl, replacing_start c.requires)

pub good_atom_at-atom-requires : goal.good_atom_at-atom-requires
good_atom_at-atom-requires c =
    let at_next = next_atom c.loop-p.invariant.1 c.loop-p-test.true in
    at_next.asks.begins

pub replace_step-requires : goal.replace_step-requires
replace_step-requires c =
    let at_next = next_atom c.loop-p.invariant.1 c.loop-p-test.true in
    at_next.asks

pub loop-p-preserved : goal.loop-p-preserved
loop-p-preserved c =
    let at_next = next_atom c.loop-p.invariant.1 c.loop-p-test.true in
    let at_place = at_next.next c.good_atom_at-atom.ensures in
    let w = c.loop-p.invariant in
    let k = c.replace_step.ensures in
    (c.replace_step.auto.s ∙ w.0, replacing_next w.1 at_next at_place c.unwrap_or-e.ensures k.0 k.1)

pub returns : goal.returns
returns c = replacing_end c.loop-p.invariant.1 c.loop-p-test.false
