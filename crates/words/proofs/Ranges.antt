-- A kind is a range of numbers: the count of leading zero bits tells it, and so do the tests of `rules`. Assumes nothing.
use mathlib.Core.Path.{◌≡◌, refl, sym, ap, ◌∙◌, subst}
use mathlib.Core.Logic.{⊎_elim}
use mathlib.Core.Bool.{Bool, true, false, ◌&&◌}
use Prim.Native.Nat.{ℕ, zero, suc, ◌+◌, ◌*◌, ◌-◌, ◌/◌, ◌^◌, ◌≤◌, ◌<◌}
use native.Mathlib.Nat.{eq-zero-or-pos, lt_of_lt_of_le, two-pow-succ}
use native.Mathlib.Omega.{arith}
use lib.Count.{count_leading_zeros, leading_of_zero, leading_top, leading_length, leading_unique}
use lib.Pow.{pow_mono}
use lib.Dec.{ltb, leb}
use borrow.Author.Tests.{le-leb, lt-leb, lt-ltb, le-ltb, leb-true, leb-false, ltb-true, ltb-false}
use Rattle.rules.specs.Words.{limit16, within}

-- ---- the count of leading zeros

-- k zeros above a highest bit at place j: a word of kind k lies in 2^(31 - k) .. 2^(32 - k)
pub kind_range : (k j w : ℕ) → k + suc j ≡ 32 → w < 2 ^ 32 → count_leading_zeros 32 w ≡ k → (2 ^ j ≤ w) × (w < 2 ^ suc j)
kind_range k j w e h z = ⊎_elim none some (eq-zero-or-pos w)
  where
    none : w ≡ zero → (2 ^ j ≤ w) × (w < 2 ^ suc j)
    none w0 =
        let all : count_leading_zeros 32 w ≡ 32 = ap (count_leading_zeros 32) w0 ∙ leading_of_zero 32 in
        absurd (omega arith)

    some : zero < w → (2 ^ j ≤ w) × (w < 2 ^ suc j)
    some p =
        let t = leading_top 32 w p h in
        let same : t.0 ≡ j = omega (arith, t.1) in
        subst (λ (i : ℕ). (2 ^ i ≤ w) × (w < 2 ^ suc i)) same (t.2, t.3)

-- and the other way
pub range_kind : (k j w : ℕ) → k + suc j ≡ 32 → 2 ^ j ≤ w → w < 2 ^ suc j → count_leading_zeros 32 w ≡ k
range_kind k j w e lo hi = sym (leading_unique 32 w k (suc j) e hi (omega (arith, two-pow-succ j)))

-- so a word of another kind that is no higher is lower
pub not_kind : (k j w : ℕ) → k + suc j ≡ 32 → ¬ (count_leading_zeros 32 w ≡ k) → w < 2 ^ suc j → w < 2 ^ j
not_kind k j w e other hi = go (leb (2 ^ j) w) refl
  where
    go : (b : Bool) → leb (2 ^ j) w ≡ b → w < 2 ^ j
    go true t = absurd (other (range_kind k j w e (leb-true (2 ^ j) w t) hi))
    go false t = leb-false (2 ^ j) w t

-- and one of none of the kinds k to k + 3 is lower than all of them
pub none_of_four : (k j w : ℕ) → suc (suc (suc k)) + suc j ≡ 32 → ¬ (count_leading_zeros 32 w ≡ k) → ¬ (count_leading_zeros 32 w ≡ suc k)
    → ¬ (count_leading_zeros 32 w ≡ suc (suc k)) → ¬ (count_leading_zeros 32 w ≡ suc (suc (suc k))) → w < 2 ^ suc (suc (suc (suc j))) → w < 2 ^ j
none_of_four k j w e n0 n1 n2 n3 h =
    let h1 = not_kind k (suc (suc (suc j))) w (omega arith) n0 h in
    let h2 = not_kind (suc k) (suc (suc j)) w (omega arith) n1 h1 in
    not_kind (suc (suc (suc k))) j w e n3 (not_kind (suc (suc k)) (suc j) w (omega arith) n2 h2)

-- k zeros or more: no kind below k
pub kind_from : (k j w : ℕ) → k + j ≡ 32 → w < 2 ^ 32 → k ≤ count_leading_zeros 32 w → w < 2 ^ j
kind_from k j w e h z =
    let t = leading_length 32 w h in
    lt_of_lt_of_le t.2 (pow_mono {i = t.0} {j = j} (omega (arith, t.1)))

-- fewer than k zeros: a kind below k
pub kind_below : (k j w : ℕ) → k + j ≡ 32 → w < 2 ^ 32 → count_leading_zeros 32 w < k → 2 ^ j ≤ w
kind_below k j w e h z = ⊎_elim none some (eq-zero-or-pos w)
  where
    none : w ≡ zero → 2 ^ j ≤ w
    none w0 =
        let all : count_leading_zeros 32 w ≡ 32 = ap (count_leading_zeros 32) w0 ∙ leading_of_zero 32 in
        absurd (omega arith)

    some : zero < w → 2 ^ j ≤ w
    some p =
        let t = leading_top 32 w p h in
        omega (arith, pow_mono {i = j} {j = t.0} (omega (arith, t.1)), t.2)

-- so the count is below k just where the word is at least 2^j
pub kind_test : (k j w : ℕ) → k + j ≡ 32 → w < 2 ^ 32 → ltb (count_leading_zeros 32 w) k ≡ leb (2 ^ j) w
kind_test k j w e h = go (ltb (count_leading_zeros 32 w) k) refl
  where
    go : (b : Bool) → ltb (count_leading_zeros 32 w) k ≡ b → b ≡ leb (2 ^ j) w
    go true t = sym (le-leb (2 ^ j) w (kind_below k j w e h (ltb-true (count_leading_zeros 32 w) k t)))
    go false t = sym (lt-leb (2 ^ j) w (kind_from k j w e h (ltb-false (count_leading_zeros 32 w) k t)))

-- a number from n up that is not n
pub past : {n x : ℕ} → n ≤ x → (x ≡ n → ⊥) → suc n ≤ x
past h f = omega arith

-- ---- tests of ranges

pub within_true : (low size w : ℕ) → within low size w ≡ true → (low ≤ w) × (w < low + size)
within_true low size w = go (leb low w) refl (ltb w (low + size)) refl
  where
    go : (a : Bool) → leb low w ≡ a → (b : Bool) → ltb w (low + size) ≡ b → a && b ≡ true → (low ≤ w) × (w < low + size)
    go true ea true eb h = (leb-true low w ea, ltb-true w (low + size) eb)
    go true ea false eb h = let z : ◌≡◌ {A = ℕ} 0 1 = cc in absurd (omega arith)
    go false ea b eb h = let z : ◌≡◌ {A = ℕ} 0 1 = cc in absurd (omega arith)

pub true_within : (low size w : ℕ) → low ≤ w → w < low + size → within low size w ≡ true
true_within low size w lo hi = simp (le-leb low w lo, lt-ltb w (low + size) hi)

pub false_below : (low size w : ℕ) → w < low → within low size w ≡ false
false_below low size w h = simp (lt-leb low w h)

pub false_above : (low size w : ℕ) → low + size ≤ w → within low size w ≡ false
false_above low size w h = simp (le-leb low w (omega arith), le-ltb w (low + size) h)

-- a range of heads below H is told by the head
pub heads_below : (base H w : ℕ) → base ≤ w → within base (H * limit16) w ≡ ltb ((w - base) / limit16) H
heads_below base H w lo = go (ltb ((w - base) / limit16) H) refl
  where
    go : (b : Bool) → ltb ((w - base) / limit16) H ≡ b → within base (H * limit16) w ≡ b
    go true e = let h = ltb-true ((w - base) / limit16) H e in true_within base (H * limit16) w lo (omega arith)
    go false e = let h = ltb-false ((w - base) / limit16) H e in false_above base (H * limit16) w (omega arith)
