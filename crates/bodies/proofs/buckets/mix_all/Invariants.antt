use mathlib.Core.Path.{◌≡◌}
use Prim.Native.Nat.{◌≤◌}
use lib.ListN.{length, take}
use Rattle.octets.specs.Words.{words}
use Rattle.bodies.specs.Buckets.{mix_all}
use Rattle.bodies.proofs.buckets.mix_all.Given as goal

abbrev pub invariant-loop-i : goal.invariant-loop-i
invariant-loop-i l = (l.i ≤ length (words l.ws)) × (l.k ≡ mix_all l.start (take l.i (words l.ws)))
