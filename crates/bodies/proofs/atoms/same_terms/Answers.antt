-- Terms are compared in pairs: where a pair differs the rows do, and where none is left they agree. Assumes nothing.
use mathlib.Core.Path.{◌∙◌, sym}
use native.Mathlib.Omega.{arith}
use Rattle.bodies.proofs.Alike.{agreeing_next, agreeing_not}
use Rattle.bodies.proofs.atoms.same_terms.Goals as goal

-- ---- a pair is read

pub returns-then-not-same_term : goal.returns-then-not-same_term
returns-then-not-same_term c =
    agreeing_not c.loop-i.invariant c.get.ensures.is c.get-in-loop-i.ensures.is (sym c.same_term.ensures ∙ c.if-not-same_term.true)

pub loop-i-preserved : goal.loop-i-preserved
loop-i-preserved c =
    agreeing_next c.loop-i.invariant c.get.ensures.is c.get-in-loop-i.ensures.is (omega arith) c.requires (sym c.same_term.ensures ∙ c.if-not-same_term.false)
