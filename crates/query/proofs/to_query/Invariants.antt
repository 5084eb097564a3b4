use Rattle.octets.specs.Words.{words}
use Rattle.query.proofs.Spots.{spot_of}
use Rattle.query.proofs.FactRows.{Row}
use Rattle.query.proofs.to_query.Given as goal

abbrev pub invariant-loop : goal.invariant-loop
invariant-loop l =
    let p = spot_of (words l.rule) (words l.initial.scratch) (words l.initial.counters) l.at l.fn.tops in
    Row p l.n l.counter (words l.scratch) (words l.counters) l.walk
