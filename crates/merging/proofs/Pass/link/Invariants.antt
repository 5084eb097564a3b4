use mathlib.Core.Path.{◌≡◌}
use Prim.Native.Nat.{◌-◌}
use lib.ListN.{length}
use Rattle.octets.specs.Words.{words}
use Rattle.merging.proofs.Linking.{Linking}
use Rattle.merging.proofs.Pass.link.Given as goal

abbrev pub invariant-loop-i : goal.invariant-loop-i
invariant-loop-i l = (length l.s ≡ length l.initial.s) × Linking (words l.initial.s) (words l.s) l.self.from l.self.n l.self.links l.self.table l.count l.i

abbrev pub decreases-loop-i : goal.decreases-loop-i
decreases-loop-i l = l.self.n - l.i
