-- Groups: the outputs of a group over a list of atoms, part by part, and the words that a group has. Assumes nothing.
use mathlib.Core.Bool.{Bool, ◌&&◌, cond, false, not, true}
use mathlib.Core.List.{List, [], ◌++◌, ◌∷◌, append_assoc, append-nil}
use mathlib.Core.Path.{◌∙◌, ◌≡◌, ap, ap₂, refl, sym}
use Prim.Native.Nat.{◌≤◌, ℕ}
use native.Mathlib.Omega.{arith}
use lib.ListN.{length, length-append}
use Rattle.rules.specs.Flat.{Tab}
use Rattle.rules.specs.RemoveDupVars.{alike}
use Rattle.rules.specs.Signature.{same_term}
use Rattle.bodies.specs.Buckets.{bucket_in}
use Rattle.merging.specs.RemoveDupVars.{cells_of, group_for, rights_of}
use Rattle.merging.proofs.Links.{Elsewhere}
use Rattle.merging.proofs.Marks.{other_unlike}

rights_cons : (a b : Tab) (xs : List Tab) → rights_of a (b ∷ xs) ≡ cells_of (alike a b) (same_term a.out b.out) b.out ++ rights_of a xs
rights_cons a b xs = go (alike a b) (same_term a.out b.out)
  where
    go : (c d : Bool) → cond (c && not d) (b.out ∷ rights_of a xs) (rights_of a xs) ≡ cells_of c d b.out ++ rights_of a xs
    go true true = refl
    go true false = refl
    go false true = refl
    go false false = refl

pub rights_append : (a : Tab) (xs ys : List Tab) → rights_of a (xs ++ ys) ≡ rights_of a xs ++ rights_of a ys
rights_append a [] ys = refl
rights_append a (x ∷ xs) ys =
    let cs = cells_of (alike a x) (same_term a.out x.out) x.out in
    rights_cons a x (xs ++ ys) ∙ ap (λ (us : List ℕ). cs ++ us) (rights_append a xs ys) ∙ sym (append_assoc cs (rights_of a xs) (rights_of a ys))
    ∙ ap (λ (us : List ℕ). us ++ rights_of a ys) (sym (rights_cons a x xs))

pub rights_elsewhere : (count : ℕ) (a : Tab) (xs : List Tab) → Elsewhere count (bucket_in count a) xs → rights_of a xs ≡ []
rights_elsewhere count a [] h = refl
rights_elsewhere count a (x ∷ xs) h =
    rights_cons a x xs
    ∙ ap (λ (c : Bool). cells_of c (same_term a.out x.out) x.out ++ rights_of a xs) (other_unlike count a x h.0)
    ∙ rights_elsewhere count a xs h.1

-- what stands when an atom is met behind others of other buckets
pub rights_met : (count : ℕ) (a : Tab) (done skip : List Tab) (b : Tab) → Elsewhere count (bucket_in count a) skip
    → rights_of a ((done ++ skip) ++ b ∷ []) ≡ rights_of a done ++ cells_of (alike a b) (same_term a.out b.out) b.out
rights_met count a done skip b h =
    let cs = cells_of (alike a b) (same_term a.out b.out) b.out in
    rights_append a (done ++ skip) (b ∷ [])
    ∙ ap₂ ◌++◌
    (rights_append a done skip ∙ ap (λ (us : List ℕ). rights_of a done ++ us) (rights_elsewhere count a skip h) ∙ append-nil (rights_of a done))
    (rights_cons a b [] ∙ append-nil cs)

cells_few : (b c : Bool) (w : ℕ) → length (cells_of b c w) ≤ 1
cells_few true true w = omega arith
cells_few true false w = omega arith
cells_few false c w = omega arith

pub rights_few : (a : Tab) (xs : List Tab) → length (rights_of a xs) ≤ length xs
rights_few a [] = omega arith
rights_few a (x ∷ xs) =
    let cs = cells_of (alike a x) (same_term a.out x.out) x.out in
    omega (
      arith,
      ap length (rights_cons a x xs) ∙ length-append cs (rights_of a xs),
      cells_few (alike a x) (same_term a.out x.out) x.out,
      rights_few a xs,
    )

pub group_more : (w : ℕ) (rs : List ℕ) → length rs ≤ length (group_for w rs)
group_more w [] = omega arith
group_more w (r ∷ rs) = omega arith

pub group_some : (w : ℕ) (rs : List ℕ) → (length rs ≡ 0 → ⊥) → group_for w rs ≡ w ∷ length rs ∷ rs
group_some w [] h = absurd (h refl)
group_some w (r ∷ rs) h = refl

pub group_none : (w : ℕ) (rs : List ℕ) → length rs ≡ 0 → group_for w rs ≡ []
group_none w [] h = refl
group_none w (r ∷ rs) h = absurd (omega (arith, h))
