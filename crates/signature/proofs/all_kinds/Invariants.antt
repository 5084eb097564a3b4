use mathlib.Core.Path.{◌≡◌}
use Rattle.octets.specs.Words.{words}
use Rattle.signature.specs.Signature.{all_kinds}
use Rattle.signature.proofs.all_kinds.Given as goal

abbrev pub invariant-loop-i : goal.invariant-loop-i
invariant-loop-i l = l.good ≡ all_kinds (words l.kinds) l.i 0
