use mathlib.Core.Path.{◌≡◌}
use Prim.Native.Nat.{◌-◌}
use lib.ListN.{length}
use Rattle.octets.specs.Words.{words}
use Rattle.core_actions.proofs.HeadRows.{head, Row}
use Rattle.core_actions.proofs.to_core_actions.Given as goal

-- no turn changes how long the slices are
abbrev pub invariant-loop : goal.invariant-loop
invariant-loop l =
    (length l.counters ≡ length l.initial.counters) × (length l.scratch ≡ length l.initial.scratch)
    × (Row (head (words l.signature) (words l.reading.rule.now) (words l.initial.scratch) (words l.initial.counters) l.at l.n l.to l.log l.reading.scope)
    (l.n - l.counter) (words l.scratch) (words l.counters) l.row)
