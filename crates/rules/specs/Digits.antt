-- 02, Req 03, as a statement. It is proved in proofs/Digits.antt, and can be read with `digit` of Program alone: the one that `are_digits` and `spelt`, and so
-- `program` and the contracts of the line reader, go by.
-- Assumes nothing.
use Rattle.std.specs.Prelude.{ℕ, ◌<◌, ◌≡◌, ◌↔◌, true, List, [], ◌∷◌, map}
use Prim.Native.Char.{code}
use Prim.Native.String.{String, [] as []ᵗ, ◌∷◌ as ◌∷ᵗ◌}
use Rattle.octets.specs.Regions.{elem}
use Rattle.rules.specs.Program.{digit}

-- a text of ASCII characters as bytes
abbrev pub bytes_of_text : String → List ℕ
bytes_of_text []ᵗ = []
bytes_of_text (c ∷ᵗ cs) = code c ∷ bytes_of_text cs

abbrev pub hex_digits : List ℕ
hex_digits = bytes_of_text "0123456789abcdef"

-- of the 256 bytes exactly the sixteen digits give a value, each its own
pub record Digits : Type 0 where
  -- a byte has a value below 16 exactly if it is one of the sixteen
  pub sixteen : (b : ℕ) → b < 256 → (digit b < 16) ↔ (elem b hex_digits ≡ true)
  -- no value belongs to two bytes
  pub own : (b c : ℕ) → b < 256 → c < 256 → digit b < 16 → digit b ≡ digit c → b ≡ c
  -- the values, for the digits in their order
  pub values : map digit hex_digits ≡ 0 ∷ 1 ∷ 2 ∷ 3 ∷ 4 ∷ 5 ∷ 6 ∷ 7 ∷ 8 ∷ 9 ∷ 10 ∷ 11 ∷ 12 ∷ 13 ∷ 14 ∷ 15 ∷ []
