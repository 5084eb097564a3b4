-- The key of some words, two and three of them without a loop: where it returns, the words read are all there are, and the key is theirs. Assumes nothing.
use mathlib.Core.Path.{◌∙◌, ap}
use Prim.Native.Nat.{ℕ, ◌-◌}
use native.Mathlib.Omega.{arith}
use Rattle.octets.specs.Regions.{part}
use Rattle.octets.specs.Words.{words}
use Rattle.bodies.specs.Buckets.{mix_all}
use Rattle.bodies.proofs.BucketLaws.{Keyed, key_all, key_done, key_more, key_one}
use Rattle.bodies.proofs.buckets.key.Goals as goal

pub returns-then-n-lt2 : goal.returns-then-n-lt2
returns-then-n-lt2 c = key_done (key_one c.requires c.get.ensures.is) (omega arith)

pub returns-then-n-lt3 : goal.returns-then-n-lt3
returns-then-n-lt3 c =
    let ws = words c.args.ws.now in
    let at_two : Keyed ws 2 c.mixed-two.result = key_more (key_one c.requires c.get-2.ensures.is) (omega arith) c.get-3.ensures.is c.mixed-two.ensures in
    key_done at_two (omega arith)

pub returns-then-n-lt4 : goal.returns-then-n-lt4
returns-then-n-lt4 c =
    let ws = words c.args.ws.now in
    let at_two : Keyed ws 2 c.mixed-two.result = key_more (key_one c.requires c.get-2.ensures.is) (omega arith) c.get-3.ensures.is c.mixed-two.ensures in
    let at_three : Keyed ws 3 c.mixed-three.result = key_more at_two (omega arith) c.get-4.ensures.is c.mixed-three.ensures in
    key_done at_three (omega arith)

-- ---- more

pub returns : goal.returns
returns c =
    let ws = words c.args.ws.now in
    let at_two : Keyed ws 2 c.mixed-two.result = key_more (key_one c.requires c.get-2.ensures.is) (omega arith) c.get-3.ensures.is c.mixed-two.ensures in
    let at_three : Keyed ws 3 c.mixed-three.result = key_more at_two (omega arith) c.get-4.ensures.is c.mixed-three.ensures in
    let three = c.mixed-three.result in
    key_all at_three
    (c.mix_all.ensures ∙ ap (mix_all three) c.part.ensures ∙ ap (λ (n : ℕ). mix_all three (part ws 3 (n - 3))) c.count-n.ensures)
