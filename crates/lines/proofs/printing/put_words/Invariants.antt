-- The words passed are written, a line each.
use Rattle.octets.specs.Words.{words}
use Rattle.lines.proofs.Texts.{LinesTo}
use Rattle.lines.proofs.printing.put_words.Given as goal

abbrev pub invariant-loop-i : goal.invariant-loop-i
invariant-loop-i l = LinesTo l.initial.text l.at (words l.input) l.i l.text
