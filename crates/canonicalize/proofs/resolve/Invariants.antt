use mathlib.Core.Path.{◌≡◌}
use Prim.Native.Nat.{◌-◌}
use lib.ListN.{length}
use Rattle.octets.specs.Words.{words}
use Rattle.bodies.specs.Terms.{sig}
use Rattle.canonicalize.proofs.Resolving.{Resolving}
use Rattle.canonicalize.proofs.resolve.Given as goal

abbrev pub invariant-loop-i : goal.invariant-loop-i
invariant-loop-i l = (length l.s ≡ length l.initial.s) × Resolving (sig l.q) (words l.initial.s) (words l.s) l.from l.n l.to l.i l.k

abbrev pub decreases-loop-i : goal.decreases-loop-i
decreases-loop-i l = l.n - l.i
