-- The row that it fills is what it has read so far, mapped; it reads each word just before it writes there. Assumes nothing.
use mathlib.Core.Path.{refl, ap, ◌∙◌}
use Prim.Native.Nat.{◌+◌, ◌<◌}
use native.Mathlib.Omega.{arith}
use lib.ListN.{length}
use Rattle.octets.specs.Regions.{swap, below}
use Rattle.octets.specs.Words.{words}
use Rattle.octets.proofs.Words.{length_words}
use Rattle.octets.proofs.Filling.{filled_start, filled_next, filled_count, filled_clear, map_part_more}
use Rattle.octets.proofs.regions.replace.Goals as goal

pub loop-i-init : goal.loop-i-init
loop-i-init c = filled_start _ _ _ _ refl

pub overflow_add-at : goal.overflow_add-at
overflow_add-at c = omega (arith, length_words c.args.buf.now)

pub get-w-requires : goal.get-w-requires
get-w-requires c = omega (arith, filled_count c.loop-i.invariant)

pub put-requires : goal.put-requires
put-requires c = omega (arith, filled_count c.loop-i.invariant)

pub loop-i-preserved : goal.loop-i-preserved
loop-i-preserved c =
    let a = c.args in
    let i = c.loop-i in
    let room : a.from + i.i < length (words a.buf.now) = omega arith in
    let unread = filled_clear a.from i.invariant (omega arith) (omega arith) (below (omega arith)) in
    let new = c.swapped.ensures ∙ ap (swap a.x a.y) (c.get-w.ensures.is ∙ unread) in
    filled_next i.invariant (omega arith) (omega arith) c.put.auto.s c.put.ensures new (map_part_more _ _ _ _ room)
