use Prim.Native.Nat.{ℕ}
use Rattle.octets.specs.Regions.{part}
use Rattle.octets.specs.Words.{words}
use Rattle.octets.proofs.Filling.{Filled}
use Rattle.walks.proofs.LeavesUpTo.{Passed}
use Rattle.walks.proofs.leaves.Given as goal

abbrev pub invariant-loop-k : goal.invariant-loop-k
invariant-loop-k l = Filled (λ (i : ℕ). part (words l.row) 0 i) l.initial.scratch l.scratch l.to l.n l.k × Passed l.most (words l.row) l.k
