use mathlib.Core.Path.{◌≡◌}
use Prim.Native.Nat.{◌-◌}
use lib.ListN.{length}
use Rattle.octets.specs.Words.{words}
use Rattle.merging.proofs.MergingAll.{MergingAll}
use Rattle.merging.proofs.Pass.merge_all.Given as goal

abbrev pub invariant-loop-i : goal.invariant-loop-i
invariant-loop-i l = (length l.s ≡ length l.initial.s) × MergingAll (words l.initial.s) (words l.s) l.self.from l.self.n l.self.eqs l.self.links l.i l.t

abbrev pub decreases-loop-i : goal.decreases-loop-i
decreases-loop-i l = l.self.n - l.i
