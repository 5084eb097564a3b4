-- The row that it fills is what it has read of the source so far, and the source is not written. Assumes nothing.
use mathlib.Core.Path.{◌≡◌, refl, ap, ◌∙◌}
use Prim.Native.Nat.{◌+◌, ◌<◌}
use native.Mathlib.Omega.{arith}
use lib.ListN.{length, get_or}
use Rattle.octets.specs.Words.{words}
use Rattle.octets.specs.Regions.{splice}
use Rattle.octets.proofs.Splice.{part_more, part_all}
use Rattle.octets.proofs.Filling.{filled_start, filled_next, filled_end, filled_count}
use Rattle.octets.proofs.regions.copy.Goals as goal

pub loop-i-init : goal.loop-i-init
loop-i-init c = filled_start _ _ _ _ refl

pub put-requires : goal.put-requires
put-requires c = omega (arith, filled_count c.loop-i.invariant)

pub loop-i-preserved : goal.loop-i-preserved
loop-i-preserved c =
    let ws = words c.args.src.now in
    let i = c.loop-i in
    let here : i.i ≡ 0 + i.i = omega arith in
    let room : 0 + i.i < length ws = omega arith in
    filled_next i.invariant (omega arith) (omega arith) c.put.auto.s c.put.ensures (c.get.ensures.is ∙ ap (λ k. get_or ws k 0) here) (part_more ws 0 i.i room)

pub returns : goal.returns
returns c = filled_end c.loop-i.invariant (omega arith) ∙ ap (splice (words c.args.out.now) c.args.at) (part_all (words c.args.src.now))
