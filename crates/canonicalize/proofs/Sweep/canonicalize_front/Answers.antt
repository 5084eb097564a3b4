-- Canonicalizing the equalities in front: each turn leaves what its equality becomes and a rest in which it is done with, and canonicalizing that rest comes to
-- the same as canonicalizing the whole. Assumes nothing.
use mathlib.Core.Path.{◌∙◌, refl, ap}
use Prim.Native.Nat.{ℕ, ◌+◌}
use native.Mathlib.Omega.{arith}
use Rattle.octets.proofs.Words.{length_words}
use Rattle.canonicalize.proofs.Fronting.{front_one_asks, fronting_end, fronting_next, fronting_start}
use Rattle.canonicalize.proofs.Sweep.canonicalize_front.Goals as goal

pub loop-i-init : goal.loop-i-init
loop-i-init c = (refl, fronting_start c.requires)

pub front_one-one-requires : goal.front_one-one-requires
front_one-one-requires c = front_one_asks c.requires c.loop-i.invariant.1 c.loop-i-test.true

pub overflow_add-t : goal.overflow_add-t
overflow_add-t c =
    let next = fronting_next c.requires c.loop-i.invariant.1 c.loop-i-test.true c.args.self.sign.known_equals c.front_one-one.ensures refl in
    omega (arith, next.tabs.within, next.only.size, length_words, c.well_formed)

pub loop-i-preserved : goal.loop-i-preserved
loop-i-preserved c =
    let next = fronting_next c.requires c.loop-i.invariant.1 c.loop-i-test.true c.args.self.sign.known_equals c.front_one-one.ensures in
    (c.front_one-one.auto.s ∙ c.loop-i.invariant.0, next (ap (λ (n : ℕ). c.loop-i.i + n) c.past_equality-i-step.ensures))

-- behind the last one, and where there is none
pub returns-2 : goal.returns-2
returns-2 c =
    let next = fronting_next c.requires c.loop-i.invariant.1 c.loop-i-test.true c.args.self.sign.known_equals c.front_one-one.ensures refl in
    fronting_end next (omega arith)

pub returns : goal.returns
returns c = fronting_end c.loop-i.invariant.1 c.loop-i-test.false
