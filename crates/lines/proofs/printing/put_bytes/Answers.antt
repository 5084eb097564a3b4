-- Printing bytes as they are: after i turns the first i of them are written. Assumes nothing.
use Rattle.lines.proofs.Texts.{bytes_start, bytes_next}
use Rattle.lines.proofs.printing.put_bytes.Goals as goal

pub loop-i-init : goal.loop-i-init
loop-i-init c = bytes_start _ _ _

pub loop-i-preserved : goal.loop-i-preserved
loop-i-preserved c = bytes_next c.loop-i.invariant c.loop-i-test.true c.requires
