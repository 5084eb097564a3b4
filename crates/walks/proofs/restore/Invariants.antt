use Rattle.octets.specs.Words.{words}
use Rattle.walks.proofs.Log.{Taking}
use Rattle.walks.proofs.restore.Given as goal

abbrev pub invariant-loop-k : goal.invariant-loop-k
invariant-loop-k l = Taking (words l.log) (words l.initial.counters) l.k (words l.counters)
