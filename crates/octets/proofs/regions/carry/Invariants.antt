use Prim.Native.Nat.{ℕ, ◌-◌}
use Rattle.octets.specs.Regions.{part}
use Rattle.octets.specs.Words.{words}
use Rattle.octets.proofs.Filling.{Filled}
use Rattle.octets.proofs.regions.carry.Given as goal

abbrev pub invariant-loop-i : goal.invariant-loop-i
invariant-loop-i l = Filled (λ (k : ℕ). part (words l.initial.buf) l.from k) l.initial.buf l.buf l.to l.n l.i

abbrev pub decreases-loop-i : goal.decreases-loop-i
decreases-loop-i l = l.n - l.i
