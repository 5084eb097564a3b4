-- The digits passed are good and spell w.
use Rattle.lines.proofs.Spelling.{SpeltTo}
use Rattle.lines.proofs.reading.spelled.Given as goal

abbrev pub invariant-loop-b : goal.invariant-loop-b
invariant-loop-b l = SpeltTo l.digits l.b-index l.w
