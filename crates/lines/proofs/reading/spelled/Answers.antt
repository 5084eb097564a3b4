-- Reading a word's digits: those passed are good and spell w, which stays below 16 to the power of their number. Assumes nothing.
use mathlib.Core.Path.{ap, ◌∙◌}
use native.Mathlib.Omega.{arith}
use Rattle.lines.specs.Reading.{line_says}
use Rattle.lines.proofs.Spelling.{spelt_start, spelt_room, spelt_next, spelt_bad, spelt_end}
use Rattle.lines.proofs.reading.spelled.Goals as goal

pub loop-b-init : goal.loop-b-init
loop-b-init c = spelt_start _

pub returns-in_err-w : goal.returns-in_err-w
returns-in_err-w c =
    λ line. ap (λ r. line_says r line) c.from_residual.ensures
    ∙ spelt_bad c.loop-b.invariant (omega (arith, c.loop-b-test.true)) c.in_err-w.ensures line

pub overflow_mul-w : goal.overflow_mul-w
overflow_mul-w c = omega (arith, spelt_room c.loop-b.invariant (omega arith))

pub overflow_add-w : goal.overflow_add-w
overflow_add-w c = omega (arith, spelt_room c.loop-b.invariant (omega arith))

pub loop-b-preserved : goal.loop-b-preserved
loop-b-preserved c = spelt_next c.loop-b.invariant (omega (arith, c.loop-b-test.true)) c.in_ok-w.field-0 c.in_ok-w.ensures.0 c.in_ok-w.ensures.1

pub returns : goal.returns
returns c = λ line. spelt_end c.loop-b.invariant (omega arith) line
