-- Taking uses back from the last on: each turn stores the count that one more use says, so that what is left of the log takes the counters back to the
-- same. A head without a counter has nothing to store. Assumes nothing.
use native.Mathlib.Omega.{arith}
use Rattle.walks.proofs.Log.{taking_start, taking_next, taking_out, taking_end}
use Rattle.walks.proofs.restore.Goals as goal

pub loop-k-init : goal.loop-k-init
loop-k-init c = rw c.count-k.ensures taking_start

-- ---- the head has a counter

pub loop-k-preserved-then-h-count : goal.loop-k-preserved-then-h-count
loop-k-preserved-then-h-count c = taking_next c.loop-k.invariant c.loop-k-test.true c.get-v.ensures.is c.put.ensures

pub loop-k-preserved : goal.loop-k-preserved
loop-k-preserved c = taking_out c.loop-k.invariant c.loop-k-test.true c.get-v.ensures.is (omega (arith, c.count.ensures))

pub returns : goal.returns
returns c = taking_end c.loop-k.invariant c.loop-k-test.false
