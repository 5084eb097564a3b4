use mathlib.Core.Path.{◌≡◌}
use Prim.Native.Nat.{◌-◌}
use lib.ListN.{length}
use Rattle.octets.specs.Words.{words}
use Rattle.signature.specs.Signature.{first_bad}
use Rattle.signature.proofs.find_bad.Given as goal

abbrev pub invariant-loop-i : goal.invariant-loop-i
invariant-loop-i l = first_bad (words l.kinds) (length (words l.kinds) - l.i) l.i ≡ first_bad (words l.kinds) (length (words l.kinds)) 0
