use Prim.Native.Nat.{◌-◌}
use Rattle.octets.specs.Words.{words}
use Rattle.written.specs.Written.{with_heads}
use Rattle.written.proofs.Walking.{Left}
use Rattle.flat.proofs.Ends.{terms}
use Rattle.flat.proofs.Record.terms.Given as goal

-- what is left of them answers as the whole does
abbrev pub invariant-loop : goal.invariant-loop
invariant-loop l = Left (terms (with_heads l.self.heads) (words l.self.rule.now)) l.count l.at (l.count - l.counter) l.next
