-- The word was found just where it is among those passed, so behind the loop that is told of all of them. Assumes nothing.
use native.Mathlib.Omega.{arith}
use Rattle.octets.proofs.Search.{search_more}
use Rattle.octets.proofs.regions.among.Goals as goal

pub loop-i-preserved : goal.loop-i-preserved
loop-i-preserved c =
    let l = c.loop-i in
    (omega arith, search_more _ _ l.i _ (omega arith) c.get.ensures.is l.invariant.1)
