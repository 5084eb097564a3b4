use Prim.Native.Nat.{◌+◌, ◌-◌}
use lib.ListN.{length}
use Rattle.octets.specs.Words.{words}
use Rattle.written.specs.Written.{with_heads}
use Rattle.written.proofs.Laws.{Rest}
use Rattle.written.proofs.Record.+arguments_expression.Given as goal

-- ---- arguments: what is left to read answers as the whole does, and begins no lower and no deeper

abbrev pub invariant-arguments-loop-left : goal.invariant-arguments-loop-left
invariant-arguments-loop-left l = Rest (with_heads l.self.heads) (words l.self.rule.now) l.depth l.count l.at l.deep l.left l.next

-- each turn goes on by a word that is there
abbrev pub decreases-arguments-loop-left : goal.decreases-arguments-loop-left
decreases-arguments-loop-left l = length (words l.self.rule.now) - l.next

abbrev pub decreases-arguments : goal.decreases-arguments
decreases-arguments l = length (words l.self.now.rule.now) - l.at + l.depth + 1

abbrev pub decreases-expression : goal.decreases-expression
decreases-expression l = length (words l.self.now.rule.now) - l.at + l.depth
