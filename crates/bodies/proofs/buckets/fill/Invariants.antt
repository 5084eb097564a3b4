use Prim.Native.Nat.{ℕ}
use lib.ListN.{replicate}
use Rattle.octets.proofs.Filling.{Filled}
use Rattle.bodies.proofs.buckets.fill.Given as goal

abbrev pub invariant-loop-i : goal.invariant-loop-i
invariant-loop-i l = Filled (λ (k : ℕ). replicate k l.w) l.initial.s l.s l.p l.n l.i
