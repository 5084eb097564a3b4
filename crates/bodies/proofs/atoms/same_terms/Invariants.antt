use Rattle.octets.specs.Words.{words}
use Rattle.bodies.proofs.Alike.{Agreeing}
use Rattle.bodies.proofs.atoms.same_terms.Given as goal

abbrev pub invariant-loop-i : goal.invariant-loop-i
invariant-loop-i l = Agreeing (words l.a) (words l.b) l.i
