use Prim.Native.Nat.{◌+◌, ◌*◌, ◌-◌}
use mathlib.Core.Path.{◌≡◌}
use lib.ListN.{length}
use Rattle.octets.specs.Words.{words}
use Rattle.head_exprs.specs.Sites.{site_of}
use Rattle.head_exprs.proofs.Arguments.{Row}
use Rattle.head_exprs.proofs.Reading.+lower_lower_all.Given as goal

-- ---- lower_all: what is left of the row makes the whole, and no turn changes how long the slices are

abbrev pub invariant-lower_all-loop-top : goal.invariant-lower_all-loop-top
invariant-lower_all-loop-top l =
    (length l.counters ≡ length l.initial.counters) × (length l.scratch ≡ length l.initial.scratch)
    × (Row (site_of (words l.self.rule.now) (words l.initial.scratch) (words l.initial.counters) l.at l.fn.tops l.self.scope) l.depth l.n
    (l.fn.tops.sp + l.n - l.top) l.top (words l.scratch) (words l.counters) l.walk)

abbrev pub decreases-lower : goal.decreases-lower
decreases-lower l = length (words l.self.now.rule.now) - l.at + 2 * l.depth

abbrev pub decreases-lower_all : goal.decreases-lower_all
decreases-lower_all l = length (words l.self.now.rule.now) - l.at + 2 * l.depth + 1
