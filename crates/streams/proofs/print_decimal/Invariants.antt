-- The number's digits are those of what is left and, behind them, those that stand behind `at`; there is room for what is left.
use Rattle.std.proofs.Common.{◌≡◌, ◌+◌, ◌≤◌, ◌++◌, length, drop}
use Rattle.std.specs.Fmt.{decimal}
use Rattle.streams.proofs.print_decimal.Given as goal

abbrev pub invariant-loop-left : goal.invariant-loop-left
invariant-loop-left g l =
    (length (decimal l.left) ≤ l.at + 1) × (l.at ≤ 19) × (length l.digits ≡ 20) × (decimal l.n ≡ decimal l.left ++ drop (l.at + 1) l.digits)

abbrev pub decreases-loop-left : goal.decreases-loop-left
decreases-loop-left g l = l.left
