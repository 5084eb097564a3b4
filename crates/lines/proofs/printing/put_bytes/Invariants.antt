-- The bytes passed are written.
use Rattle.lines.proofs.Texts.{BytesTo}
use Rattle.lines.proofs.printing.put_bytes.Given as goal

abbrev pub invariant-loop-i : goal.invariant-loop-i
invariant-loop-i l = BytesTo l.initial.text l.at l.bytes l.i l.text
