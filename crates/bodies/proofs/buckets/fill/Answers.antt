-- Filling a row with one word: after i turns the first i words are that word, and the others are as they were. Assumes nothing.
use mathlib.Core.Path.{refl}
use native.Mathlib.Omega.{arith}
use Rattle.octets.proofs.Filling.{filled_start, filled_next}
use Rattle.bodies.proofs.BucketLaws.{replicate_more}
use Rattle.bodies.proofs.buckets.fill.Goals as goal

pub loop-i-init : goal.loop-i-init
loop-i-init c = filled_start _ _ _ _ refl

pub loop-i-preserved : goal.loop-i-preserved
loop-i-preserved c =
    let p = c.put in
    filled_next c.loop-i.invariant (omega arith) (omega arith) p.auto.s p.ensures refl (replicate_more c.loop-i.i c.args.w)
