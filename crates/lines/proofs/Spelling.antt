-- Laws of a line: its digits one by one, and its tests. Assumes nothing.
use mathlib.Core.Path.{◌≡◌, refl, sym, ap, ◌∙◌}
use mathlib.Core.List.{List, [], ◌∷◌, ◌++◌}
use mathlib.Core.Bool.{Bool, true, false, ◌&&◌, and_assoc, and-false, and-true}
use Prim.Native.Nat.{ℕ, suc, ◌+◌, ◌*◌, ◌^◌, ◌≤◌, ◌<◌}
use native.Mathlib.Nat.{pow-suc, pow-le-pow_right}
use native.Mathlib.Numerals.{add-one}
use native.Mathlib.Omega.{arith}
use lib.ListN.{length, get_or, take, drop, take-append-drop}
use lib.Seq.{take-suc, take_all}
use lib.Dec.{ltb}
use borrow.Author.Tests.{lt-ltb, le-ltb, le-leb, eq-eqb}
use Rattle.octets.specs.Regions.{part}
use Rattle.rules.specs.Words.{max_lines}
use Rattle.rules.specs.Refusals.{ok, refuse, demand, bad_line}
use Rattle.rules.specs.Program.{digit, are_digits, spelt, line_feed, line_at}
use Rattle.lines.specs.Reading.{spelling}

-- ---- digits

pub digits_append : (xs ys : List ℕ) → are_digits (xs ++ ys) ≡ (are_digits xs && are_digits ys)
digits_append [] ys = refl
digits_append (x ∷ xs) ys = ap (λ (b : Bool). ltb (digit x) 16 && b) (digits_append xs ys) ∙ sym (and_assoc (ltb (digit x) 16) (are_digits xs) (are_digits ys))

pub spelt_snoc : (n : ℕ) (xs : List ℕ) (b : ℕ) → spelt n (xs ++ (b ∷ [])) ≡ spelt n xs * 16 + digit b
spelt_snoc n [] b = refl
spelt_snoc n (x ∷ xs) b = spelt_snoc (n * 16 + digit x) xs b

-- ---- the loop over a line's digits

-- the first i of these bytes are digits and spell w
pub record SpeltTo (xs : List ℕ) (i w : ℕ) : Type 0 where
  pub fits : w < 16 ^ i
  pub good : are_digits (take i xs) ≡ true
  pub value : w ≡ spelt 0 (take i xs)

pub spelt_start : (xs : List ℕ) → SpeltTo xs 0 0
spelt_start xs = record { fits = omega arith; good = refl; value = refl }

module _ {xs : List ℕ} {i w : ℕ} (s : SpeltTo xs i w) where
  -- another digit fits a word of eight
  pub spelt_room : i < 8 → w < 2 ^ 28
  spelt_room more =
      let seven : i ≤ 7 = omega arith in
      let least : 16 ^ i ≤ 16 ^ 7 = pow-le-pow_right (omega arith) seven in
      omega (arith, s.fits)

  module _ (more : i < length xs) where
    one : take (i + 1) xs ≡ take i xs ++ (get_or xs i 0 ∷ [])
    one = rw (add-one, take-suc xs i 0)

    pub spelt_next : (d : ℕ) → digit (get_or xs i 0) ≡ d → d < 16 → SpeltTo xs (i + 1) (w * 16 + d)
    spelt_next d e h =
        let power : 16 ^ (i + 1) ≡ 16 ^ i * 16 = ap (λ (k : ℕ). 16 ^ k) (add-one i) ∙ pow-suc 16 i in
        let low : digit (get_or xs i 0) < 16 = omega arith in
        record {
          fits = omega (arith, s.fits);
          good = ap are_digits one ∙ digits_append (take i xs) (get_or xs i 0 ∷ []) ∙ rw (s.good, lt-ltb (digit (get_or xs i 0)) 16 low);
          value = (λ j. s.value j * 16 + sym e j) ∙ sym (ap (spelt 0) one ∙ spelt_snoc 0 (take i xs) (get_or xs i 0));
        }

    -- one byte that is no digit
    spelt_none : digit (get_or xs i 0) ≡ 16 → are_digits xs ≡ false
    spelt_none e =
        let high : 16 ≤ digit (get_or xs i 0) = omega arith in
        let last : are_digits (take (i + 1) xs) ≡ false =
        ap are_digits one ∙ digits_append (take i xs) (get_or xs i 0 ∷ []) ∙ rw (le-ltb (digit (get_or xs i 0)) 16 high, and-false) in
        ap are_digits (sym (take-append-drop (i + 1) xs)) ∙ digits_append (take (i + 1) xs) (drop (i + 1) xs) ∙ rw last

    pub spelt_bad : digit (get_or xs i 0) ≡ 16 → (line : ℕ) → refuse bad_line (suc line) ≡ spelling xs line
    spelt_bad e line = sym (ap (λ (b : Bool). demand b bad_line (suc line) (spelt 0 xs)) (spelt_none e))

  pub spelt_end : length xs ≤ i → (line : ℕ) → ok w ≡ spelling xs line
  spelt_end h line =
      let all : take i xs ≡ xs = take_all i xs h in
      let good : are_digits xs ≡ true = ap are_digits (sym all) ∙ s.good in
      ap ok (s.value ∙ ap (spelt 0) all) ∙ sym (ap (λ (b : Bool). demand b bad_line (suc line) (spelt 0 xs)) good)

-- ---- the tests of a line

pub line_spelt : (input : List ℕ) (at line : ℕ) → line < max_lines → at + 9 ≤ length input → get_or input (at + 8) 0 ≡ line_feed
    → spelling (part input at 8) line ≡ line_at input at line
line_spelt input at line h k e =
    rw (lt-ltb line max_lines h, le-leb (at + 9) (length input) k, eq-eqb (get_or input (at + 8) 0) line_feed e, and-true (are_digits (part input at 8)))
