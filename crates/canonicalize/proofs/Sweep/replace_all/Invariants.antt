use mathlib.Core.Path.{◌≡◌}
use Prim.Native.Nat.{◌+◌, ◌-◌}
use lib.ListN.{length}
use Rattle.octets.specs.Words.{words}
use Rattle.bodies.specs.Terms.{sig}
use Rattle.canonicalize.proofs.Replacing.{Replacing}
use Rattle.canonicalize.proofs.Sweep.replace_all.Given as goal

abbrev pub invariant-loop-p : goal.invariant-loop-p
invariant-loop-p l =
    (length l.s ≡ length l.initial.s)
    × Replacing (sig l.self.sign) (words l.initial.s) (words l.s) l.at l.n l.d l.self.spans.at l.self.spans.count l.p l.e

abbrev pub decreases-loop-p : goal.decreases-loop-p
decreases-loop-p l = l.at + l.n - l.p
