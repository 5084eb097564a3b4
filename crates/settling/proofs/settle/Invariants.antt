use mathlib.Core.Path.{◌≡◌}
use Prim.Native.Nat.{◌+◌, ◌-◌}
use lib.ListN.{length}
use Rattle.octets.specs.Words.{words}
use Rattle.bodies.specs.Terms.{sig}
use Rattle.settling.proofs.Settling.{Settling}
use Rattle.settling.proofs.settle.Given as goal

abbrev pub invariant-loop-q : goal.invariant-loop-q
invariant-loop-q l = (length l.s ≡ length l.fn.s) × Settling (sig l.q) (words l.fn.s) (words l.s) l.at l.n l.c l.passes

abbrev pub decreases-loop-q : goal.decreases-loop-q
decreases-loop-q l = l.n + 1 - l.passes
