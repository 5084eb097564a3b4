-- Taking a fresh variable: its word is made of the head and of what its counter says, so that the word, logged, says what the counter was. Assumes nothing.
use Rattle.octets.specs.Words.{words}
use Rattle.walks.proofs.Log.{Counter, took}
use Rattle.walks.proofs.take.Goals as goal

pub returns : goal.returns
returns c =
    let a = c.args in
    let q = c.requires in
    let at_get : Counter (words a.counters.now) a.h c.get-c.result = record { small = q.0; inside = q.1; is = c.get-c.ensures.is } in
    took at_get a.log (words a.scratch.now) c.if-c-ge-LIMIT_16.false c.put.ensures c.put-2.ensures a.place
