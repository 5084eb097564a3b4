-- Laws of tests that several crates share, and a test that is made of every number below a bound. Assumes nothing.
use Prim.Native.Nat.{ℕ, zero, suc, ◌<◌}
use native.Mathlib.Nat.{not-suc-le-zero}
use native.Mathlib.Omega.{arith}
use mathlib.Core.Path.{◌≡◌, refl, ap, ◌∙◌}
use mathlib.Core.Bool.{Bool, true, false, ◌&&◌, false≢true}
use lib.Dec.{eqb}
use borrow.Author.Tests.{eqb-true, eqb-false}

pub and_left : (a b : Bool) → (a && b) ≡ true → a ≡ true
and_left true b e = refl
and_left false b e = e

pub and_right : (a b : Bool) → (a && b) ≡ true → b ≡ true
and_right true b e = e
and_right false b e = absurd (false≢true e)

-- ---- a table

-- the test passes at every number below n. At numerals this computes
abbrev pub all_below : (ℕ → Bool) → ℕ → Bool
all_below f zero = true
all_below f (suc n) = f n && all_below f n

-- what was computed for all of them holds of each: of the last one, or of one before it
pub below : (f : ℕ → Bool) (n : ℕ) → all_below f n ≡ true → (k : ℕ) → k < n → f k ≡ true
below f zero all k h = absurd (not-suc-le-zero h)
below f (suc n) all k h = split (eqb k n) refl (below f n (and_right (f n) (all_below f n) all) k)
  where
    split : (t : Bool) → eqb k n ≡ t → (k < n → f k ≡ true) → f k ≡ true
    split true e before = ap f (eqb-true k n e) ∙ and_left (f n) (all_below f n) all
    split false e before =
        let other = eqb-false k n e in
        before (omega arith)
