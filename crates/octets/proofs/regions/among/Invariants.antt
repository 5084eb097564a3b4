use mathlib.Core.Path.{◌≡◌}
use Prim.Native.Nat.{◌-◌, ◌≤◌}
use lib.ListN.{length, take}
use Rattle.octets.specs.Regions.{elem}
use Rattle.octets.specs.Words.{words}
use Rattle.octets.proofs.regions.among.Given as goal

abbrev pub invariant-loop-i : goal.invariant-loop-i
invariant-loop-i l = (l.i ≤ length (words l.ws)) × (l.found ≡ elem l.w (take l.i (words l.ws)))

abbrev pub decreases-loop-i : goal.decreases-loop-i
decreases-loop-i l = length (words l.ws) - l.i
