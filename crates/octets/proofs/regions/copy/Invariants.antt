use Prim.Native.Nat.{ℕ}
use lib.ListN.{length}
use Rattle.octets.specs.Regions.{part}
use Rattle.octets.specs.Words.{words}
use Rattle.octets.proofs.Filling.{Filled}
use Rattle.octets.proofs.regions.copy.Given as goal

abbrev pub invariant-loop-i : goal.invariant-loop-i
invariant-loop-i l = Filled (λ (k : ℕ). part (words l.src) 0 k) l.initial.out l.out l.at (length (words l.src)) l.i
