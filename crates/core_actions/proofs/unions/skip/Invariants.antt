use Prim.Native.Nat.{◌-◌}
use lib.ListN.{length}
use Rattle.octets.specs.Words.{words}
use Rattle.core_actions.proofs.Forests.{Passing}
use Rattle.core_actions.proofs.unions.skip.Given as goal

abbrev pub invariant-loop-left : goal.invariant-loop-left
invariant-loop-left l = Passing (words l.rule) l.at l.left l.next

abbrev pub decreases-loop-left : goal.decreases-loop-left
decreases-loop-left l = length (words l.rule) - l.next
