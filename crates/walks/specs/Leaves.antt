-- The literals and names in front of a row of words. They are the words from the first literal up; a bound can end the row sooner, at the first
-- word above it. Assumes nothing: these are definitions.
use Rattle.std.specs.Prelude.{Bool, ◌&&◌, cond, List, [], ◌∷◌, ℕ, suc, leb}
use Rattle.rules.specs.Words.{literal_base}

abbrev pub is_leaf : ℕ → ℕ → Bool
is_leaf most w = leb literal_base w && leb w most

-- how many words stand before the first that is none of them
unfoldable pub leaves_up_to : ℕ → List ℕ → ℕ
leaves_up_to most [] = 0
leaves_up_to most (w ∷ ws) = cond (is_leaf most w) (suc (leaves_up_to most ws)) 0
