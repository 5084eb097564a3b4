-- The digits are written from the last to the first: with those of `rest` that are left the text is what it is to be.
use Rattle.lines.proofs.Texts.{LeftOf}
use Rattle.lines.proofs.printing.put_hexadecimal.Given as goal

abbrev pub invariant-loop-i : goal.invariant-loop-i
invariant-loop-i l = LeftOf l.initial.text l.text l.at l.w l.i l.rest
