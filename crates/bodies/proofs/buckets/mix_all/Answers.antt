-- Mixing words into a key: after i turns the first i are mixed, in their order. Assumes nothing.
use mathlib.Core.Path.{◌∙◌, sym}
use native.Mathlib.Omega.{arith}
use Rattle.octets.specs.Words.{words}
use Rattle.bodies.specs.Buckets.{mix}
use Rattle.bodies.proofs.BucketLaws.{mix_more, mix_none}
use Rattle.bodies.proofs.buckets.mix_all.Goals as goal

pub loop-i-init : goal.loop-i-init
loop-i-init c = (omega arith, sym (mix_none c.args.start))

pub loop-i-preserved : goal.loop-i-preserved
loop-i-preserved c =
    let w = c.loop-i in
    let a = c.args in
    let more = sym (mix_more a.start (words a.ws.now) w.i (omega arith)) in
    (omega arith, c.mixed-k.ensures ∙ (λ j. mix (w.invariant.1 j) (c.get.ensures.is j)) ∙ more)
