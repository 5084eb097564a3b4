-- Each turn links one atom more, so the atoms before the loop's offset are linked, and behind the loop all of them are. Assumes nothing.
use mathlib.Core.Path.{◌∙◌, refl}
use native.Mathlib.Omega.{arith}
use Rattle.merging.proofs.Linking.{linking_asks, linking_end, linking_next, linking_size, linking_start}
use Rattle.merging.proofs.Pass.link.Goals as goal

pub loop-i-init : goal.loop-i-init
loop-i-init c = (refl, linking_start c.requires c.fill.ensures)

-- ---- an atom is left

pub link_one-i-requires : goal.link_one-i-requires
link_one-i-requires c = linking_asks c.loop-i.invariant.1 c.loop-i-test.true

pub overflow_add-i : goal.overflow_add-i
overflow_add-i c =
    omega (arith, c.link_one-i.ensures.0, linking_size c.loop-i.invariant.1 c.loop-i-test.true)

pub loop-i-smaller : goal.loop-i-smaller
loop-i-smaller c =
    omega (arith, c.link_one-i.ensures.0, linking_size c.loop-i.invariant.1 c.loop-i-test.true)

pub loop-i-preserved : goal.loop-i-preserved
loop-i-preserved c =
    let o = c.link_one-i in
    (o.auto.s ∙ c.loop-i.invariant.0, linking_next c.loop-i.invariant.1 c.loop-i-test.true o.ensures.1 o.ensures.0)

pub returns : goal.returns
returns c = linking_end c.requires c.fill.ensures c.loop-i.invariant.1 (omega arith)
