-- A word's bucket is the upper half of the product of its key and the count: a key is below 2^32, so that half is below the count. Assumes nothing.
use mathlib.Core.Path.{◌∙◌, ◌≡◌, ap, refl, subst, sym}
use Prim.Native.Nat.{ℕ, ◌*◌, ◌/◌, ◌<◌}
use Rattle.bodies.specs.Buckets.{bucket_of, mix}
use Rattle.bodies.proofs.BucketLaws.{bucket_in_lem}
use Rattle.bodies.proofs.buckets.bucket.Goals as goal

unfolded : (count w : ℕ) → bucket_of count w ≡ mix w 0 * count / 0x1_0000_0000
unfolding bucket_of
unfolded count w = refl

pub returns : goal.returns
returns c =
    let a = c.args in
    let e = unfolded a.count a.w ∙ ap (λ (k : ℕ). k * a.count / 0x1_0000_0000) (sym c.mixed.ensures) in
    (sym e, subst (λ (x : ℕ). x < a.count) e (bucket_in_lem a.count a.w c.requires.0))
