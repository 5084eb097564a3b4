-- The row that it fills is what it has read so far, and `Clear` says that what it reads next is still there. Assumes nothing.
use mathlib.Core.Path.{refl, ◌∙◌}
use Prim.Native.Nat.{◌+◌, ◌<◌}
use native.Mathlib.Omega.{arith}
use lib.ListN.{length}
use Rattle.octets.specs.Words.{words}
use Rattle.octets.proofs.Words.{length_words}
use Rattle.octets.proofs.Splice.{part_more}
use Rattle.octets.proofs.Filling.{filled_start, filled_next, filled_count, filled_clear}
use Rattle.octets.proofs.regions.carry.Goals as goal

pub loop-i-init : goal.loop-i-init
loop-i-init c = filled_start _ _ _ _ refl

pub overflow_add-from : goal.overflow_add-from
overflow_add-from c = omega (arith, length_words c.args.buf.now)

pub get-w-requires : goal.get-w-requires
get-w-requires c = omega (arith, filled_count c.loop-i.invariant)

pub overflow_add-to : goal.overflow_add-to
overflow_add-to c = omega (arith, length_words c.args.buf.now)

pub put-requires : goal.put-requires
put-requires c = omega (arith, filled_count c.loop-i.invariant)

pub loop-i-preserved : goal.loop-i-preserved
loop-i-preserved c =
    let i = c.loop-i in
    let room : c.args.from + i.i < length (words c.args.buf.now) = omega arith in
    let unread = filled_clear c.args.from i.invariant (omega arith) (omega arith) c.requires.clear in
    filled_next i.invariant (omega arith) (omega arith) c.put.auto.s c.put.ensures (c.get-w.ensures.is ∙ unread) (part_more _ _ _ room)
