-- The literals and names in front of a row of words, up to a bound: what is so between two turns of a loop over them, how many they are at most,
-- and what each of them is. Assumes nothing.
use mathlib.Core.Path.{◌≡◌, refl, sym, ap, ◌∙◌, subst}
use mathlib.Core.Bool.{Bool, true, false, ◌&&◌}
use mathlib.Core.List.{List, [], ◌∷◌, ◌++◌}
use mathlib.Core.Logic.{◌⊎◌, inl, inr}
use Prim.Native.Nat.{ℕ, zero, suc, ◌+◌, ◌-◌, ◌≤◌, ◌<◌}
use native.Mathlib.Omega.{arith}
use lib.Dec.{leb}
use lib.ListN.{length, get_or}
use borrow.Author.Tests.{leb-true, le-leb, lt-leb}
use Rattle.octets.specs.Regions.{splice, part}
use Rattle.octets.proofs.Splice.{part_all, part_front, part_join, part_one, length_part, get_d_part}
use Rattle.rules.specs.Words.{literal_base}
use Rattle.walks.specs.Leaves.{is_leaf, leaves_up_to}

-- the first word of a part
pub part_first : (l : List ℕ) (p n m : ℕ) → p < length l → m ≡ 1 + n → part l p m ≡ get_or l p 0 ∷ part l (p + 1) n
part_first l p n m h e = ap (part l p) e ∙ part_join l p 1 n ∙ ap (λ (x : List ℕ). x ++ part l (p + 1) n) (part_one l p (get_or l p 0) h refl)

-- ---- a word that is one of them

pub record Leaf (most w : ℕ) : Type 0 where
  pub low : literal_base ≤ w
  pub high : w ≤ most

leaf_word : (most w : ℕ) → is_leaf most w ≡ true → Leaf most w
leaf_word most w e = go (leb literal_base w) refl (leb w most) refl e
  where
    go : (a : Bool) → leb literal_base w ≡ a → (b : Bool) → leb w most ≡ b → a && b ≡ true → Leaf most w
    go true ea true eb e = record { low = leb-true literal_base w ea; high = leb-true w most eb }
    go true ea false eb e = absurd (let z : ◌≡◌ {A = ℕ} 0 1 = cc in omega arith)
    go false ea b eb e = absurd (let z : ◌≡◌ {A = ℕ} 0 1 = cc in omega arith)

-- ---- how many they are

module _ (most : ℕ) where
  none : leaves_up_to most [] ≡ 0
  unfolding leaves_up_to
  none = refl

  one_more : (w : ℕ) (l : List ℕ) → is_leaf most w ≡ true → leaves_up_to most (w ∷ l) ≡ suc (leaves_up_to most l)
  unfolding leaves_up_to
  one_more w l e = rw e

  no_more : (w : ℕ) (l : List ℕ) → is_leaf most w ≡ false → leaves_up_to most (w ∷ l) ≡ 0
  unfolding leaves_up_to
  no_more w l e = rw e

  at_most : (l : List ℕ) → leaves_up_to most l ≤ length l
  at_most [] = omega (arith, none)
  at_most (w ∷ l) = go (is_leaf most w) refl (at_most l)
    where
      go : (b : Bool) → is_leaf most w ≡ b → leaves_up_to most l ≤ length l → leaves_up_to most (w ∷ l) ≤ length (w ∷ l)
      go true e h = omega (arith, one_more w l e)
      go false e h = omega (arith, no_more w l e)

  each : (l : List ℕ) (i : ℕ) → i < leaves_up_to most l → Leaf most (get_or l i 0)
  each [] i h = absurd (omega (arith, none))
  each (w ∷ l) i h = go (is_leaf most w) refl i h (λ j. each l j)
    where
      go : (b : Bool) → is_leaf most w ≡ b → (i : ℕ) → i < leaves_up_to most (w ∷ l) → ((j : ℕ) → j < leaves_up_to most l → Leaf most (get_or l j 0))
          → Leaf most (get_or (w ∷ l) i 0)
      go true e zero h more = leaf_word most w e
      go true e (suc j) h more = more j (omega (arith, one_more w l e))
      go false e i h more = absurd (omega (arith, no_more w l e))

-- of the n words at `at`
module _ (most : ℕ) (ws : List ℕ) (at n : ℕ) (inside : at + n ≤ length ws) where
  pub leaves_most : leaves_up_to most (part ws at n) ≤ n
  leaves_most = omega (arith, at_most most (part ws at n), length_part ws at n inside)

  pub leaves_each : (i : ℕ) → i < leaves_up_to most (part ws at n) → Leaf most (get_or ws (at + i) 0)
  leaves_each i h = subst (Leaf most) (get_d_part ws at n i (omega (arith, leaves_most))) (each most (part ws at n) i h)

-- where the row is a part of a rule, what is written is the rule's
module _ (ws : List ℕ) (at n most : ℕ) (s : List ℕ) (to : ℕ) (inside : at + n ≤ length ws) where
  pub leaves_in : {row s' : List ℕ} {k : ℕ} → row ≡ part ws at n → (k ≡ leaves_up_to most row) × (s' ≡ splice s to (part row 0 k))
      → (k ≡ leaves_up_to most (part ws at n)) × (s' ≡ splice s to (part ws at k))
  leaves_in {row} {s'} {k} is r =
      let count : k ≡ leaves_up_to most (part ws at n) = r.0 ∙ ap (leaves_up_to most) is in
      let few : k ≤ n = omega (arith, count, leaves_most most ws at n inside) in
      (count, r.1 ∙ ap (λ (l : List ℕ). splice s to (part l 0 k)) is ∙ ap (splice s to) (part_front ws at n k few))

-- ---- the loop over a row of words: k are passed

pub record Passed (most : ℕ) (ws : List ℕ) (k : ℕ) : Type 0 where
  pub inside : k ≤ length ws
  pub count : leaves_up_to most ws ≡ k + leaves_up_to most (part ws k (length ws - k))

pub passed_start : {most : ℕ} {ws : List ℕ} → Passed most ws 0
passed_start {most} {ws} =
    let n : length ws ≡ length ws - 0 = omega arith in
    let here : leaves_up_to most ws ≡ leaves_up_to most (part ws 0 (length ws - 0)) = ap (leaves_up_to most) (sym (part_all ws) ∙ ap (part ws 0) n) in
    record { inside = omega arith; count = omega (arith, here) }

module _ {most : ℕ} {ws : List ℕ} {k : ℕ} (p : Passed most ws k) where
  -- no word is left
  pub passed_end : length ws ≤ k → length ws ≡ leaves_up_to most ws
  passed_end h =
      let z : length ws - k ≡ 0 = omega (arith, p.inside) in
      let left : leaves_up_to most (part ws k (length ws - k)) ≡ 0 = ap (λ (j : ℕ). leaves_up_to most (part ws k j)) z ∙ none most in
      omega (arith, p.count, p.inside)

  -- the next word is w
  module _ {w : ℕ} (h : k < length ws) (is : w ≡ get_or ws k 0) where
    first : part ws k (length ws - k) ≡ w ∷ part ws (k + 1) (length ws - (k + 1))
    first =
        part_first ws k (length ws - (k + 1)) (length ws - k) h (omega arith) ∙ ap (λ (v : ℕ). v ∷ part ws (k + 1) (length ws - (k + 1))) (sym is)

    pub passed_next : literal_base ≤ w → w ≤ most → Passed most ws (k + 1)
    passed_next low high =
        let leaf : is_leaf most w ≡ true = rw (le-leb literal_base w low, le-leb w most high) in
        let one = ap (leaves_up_to most) first ∙ one_more most w _ leaf in
        record { inside = omega arith; count = omega (arith, p.count, one) }

    -- it is none of them
    pub passed_other : (w < literal_base) ⊎ ((literal_base ≤ w) × (most < w)) → k ≡ leaves_up_to most ws
    passed_other out = omega (arith, p.count, ap (leaves_up_to most) first ∙ no_more most w _ (outside out))
      where
        outside : (w < literal_base) ⊎ ((literal_base ≤ w) × (most < w)) → is_leaf most w ≡ false
        outside (inl low) = rw (lt-leb literal_base w low)
        outside (inr high) = rw (le-leb literal_base w high.0, lt-leb w most high.1)
