-- The lines passed are good and their words are written; what is left begins behind them.
use Prim.Native.Nat.{◌*◌}
use mathlib.Core.Path.{◌≡◌}
use lib.ListN.{drop}
use Rattle.lines.proofs.AllLines.{ReadTo}
use Rattle.lines.proofs.reading.read_lines.Given as goal

abbrev pub invariant-loop-line : goal.invariant-loop-line
invariant-loop-line l =
    ReadTo l.input l.initial.out l.out l.line-iterator.count × (l.line-iterator.iter.rest.now ≡ drop (l.line-iterator.count * 9) l.input)
    × (l.line-iterator.iter.size ≡ 9)
