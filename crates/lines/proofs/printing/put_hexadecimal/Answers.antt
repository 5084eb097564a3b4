-- Printing a word from its last digit to its first. Assumes nothing.
use Rattle.lines.proofs.Texts.{left_next, left_end}
use native.Mathlib.Omega.{arith}
use Rattle.lines.proofs.printing.put_hexadecimal.Goals as goal

pub loop-i-preserved : goal.loop-i-preserved
loop-i-preserved c = left_next c.loop-i.invariant (omega arith) c.requires c.byte_of.result c.byte_of.ensures

pub returns : goal.returns
returns c = left_end c.loop-i.invariant (omega arith)
