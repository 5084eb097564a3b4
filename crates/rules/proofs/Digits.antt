-- Req 03 of 02 proved: two tests of a byte are computed for the whole table of bytes, and what they say of each byte is the promise. Assumes nothing.
use Prim.Native.Nat.{ℕ, ◌<◌}
use mathlib.Core.Path.{◌≡◌, refl, sym, subst, ap, ◌∙◌}
use mathlib.Core.Bool.{Bool, true, false, not, ◌&&◌, ◌||◌, beq}
use lib.Dec.{ltb, eqb}
use borrow.Author.Tests.{ltb-true, lt-ltb, eqb-true}
use Rattle.octets.specs.Regions.{elem}
use Rattle.rules.specs.Program.{digit, byte_of}
use Rattle.rules.specs.Digits.{hex_digits, Digits}
use Rattle.rules.proofs.Tests.{and_left, and_right, all_below, below}

-- ---- the table

-- two tests that pass together or fail together
beq_same : (s t : Bool) → beq s t ≡ true → s ≡ t
beq_same true true e = refl
beq_same true false e = sym e
beq_same false true e = e
beq_same false false e = refl

abbrev valued : ℕ → Bool
valued b = ltb (digit b) 16

-- a byte has a value exactly if it is listed
abbrev listed : ℕ → Bool
listed b = beq (valued b) (elem b hex_digits)

-- and then it is the byte that is printed for this value
abbrev printed : ℕ → Bool
printed b = not (valued b) || eqb (byte_of (digit b)) b

table : all_below (λ (b : ℕ). listed b && printed b) 256 ≡ true
table = refl

-- ---- a byte

module _ (b : ℕ) (byte : b < 256) where
  passed : (listed b && printed b) ≡ true
  passed = below (λ (k : ℕ). listed k && printed k) 256 table b byte

  has_value : valued b ≡ elem b hex_digits
  has_value = beq_same (valued b) (elem b hex_digits) (and_left (listed b) (printed b) passed)

  pub byte_of_digit : digit b < 16 → byte_of (digit b) ≡ b
  byte_of_digit h =
      let own : (not true || eqb (byte_of (digit b)) b) ≡ true =
      ap (λ (t : Bool). not t || eqb (byte_of (digit b)) b) (sym (lt-ltb (digit b) 16 h)) ∙ and_right (listed b) (printed b) passed in
      eqb-true (byte_of (digit b)) b own

pub digits : Digits
digits = record {
  sixteen = λ b byte. ((λ h. sym (has_value b byte) ∙ lt-ltb (digit b) 16 h), (λ e. ltb-true (digit b) 16 (has_value b byte ∙ e)));
  own = λ b c byte byte' h e. sym (byte_of_digit b byte h) ∙ ap byte_of e ∙ byte_of_digit c byte' (subst (λ (d : ℕ). d < 16) e h);
  values = refl;
}

-- ---- a value

-- the byte that is printed for a value has it
pub digit_of_byte : (d : ℕ) → d < 16 → digit (byte_of d) ≡ d
digit_of_byte d h = eqb-true (digit (byte_of d)) d (below (λ (k : ℕ). eqb (digit (byte_of k)) k) 16 refl d h)
