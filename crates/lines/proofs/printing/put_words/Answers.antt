-- Printing words: those passed are written, nine bytes each, so that the next one's place is known. Assumes nothing.
use native.Mathlib.Omega.{arith}
use Rattle.lines.proofs.Texts.{lines_start, lines_next, lines_end}
use Rattle.lines.proofs.printing.put_words.Goals as goal

pub loop-i-init : goal.loop-i-init
loop-i-init c = lines_start _ _ _

pub loop-i-preserved : goal.loop-i-preserved
loop-i-preserved c =
    let p = c.put_hexadecimal in
    lines_next c.loop-i.invariant (omega (arith, c.loop-i-test.true, c.count-n.ensures)) c.requires c.get.ensures.is p.auto.text p.ensures

pub returns : goal.returns
returns c = lines_end c.loop-i.invariant (omega (arith, c.loop-i-test.false, c.count-n.ensures)) c.count-n.ensures
