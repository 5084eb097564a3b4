use Prim.Native.Nat.{◌+◌, ◌-◌, ◌*◌}
use lib.ListN.{length}
use Rattle.octets.specs.Words.{words}
use Rattle.query.proofs.Spots.{spot_of}
use Rattle.query.proofs.Arguments.{Row}
use Rattle.query.proofs.+flatten_all_flatten_call.Given as goal

-- ---- flatten_all: what is left of the row makes the whole

abbrev pub invariant-flatten_all-loop-top : goal.invariant-flatten_all-loop-top
invariant-flatten_all-loop-top l =
    let p = spot_of (words l.rule) (words l.initial.scratch) (words l.initial.counters) l.at l.fn.tops in
    Row p l.depth l.n l.top (words l.scratch) (words l.counters) l.walk

abbrev pub decreases-flatten_all : goal.decreases-flatten_all
decreases-flatten_all l = length (words l.rule.now) - l.at + 2 * l.depth + 1

abbrev pub decreases-flatten_call : goal.decreases-flatten_call
decreases-flatten_call l = length (words l.rule.now) - l.at + 2 * l.depth
