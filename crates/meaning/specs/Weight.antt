-- How much room a body may come to take while it settles.
--
-- An atom of a head weighs its words, and at least 4. An equality of unequal terms weighs 4: it becomes a replacement, or the value-eq atom of both
-- terms and Unit. A replacement weighs 4, one word more than its binding has. Settling never makes a body and its replacements heavier.
-- Assumes nothing: these are definitions.
use Rattle.std.specs.Prelude.{ℕ, ◌+◌, ◌-◌, ◌*◌, Bool, true, false, List, [], ◌∷◌, length}
use Rattle.rules.specs.Signature.{same_term}
use Rattle.rules.specs.Flat.{Tab, Atom, eqn, tab}

abbrev pub unlike : (same : Bool) → ℕ
unlike true = 0
unlike false = 1

-- the equalities with unequal terms
abbrev pub live : List Atom → ℕ
live [] = 0
live (eqn p a b ∷ xs) = unlike (same_term a b) + live xs
live (tab t ∷ xs) = live xs

-- its words are two more than its inputs
abbrev pub tab_weight : Tab → ℕ
tab_weight t = 4 + (length t.ins - 2)

abbrev pub tabs_weight : List Tab → ℕ
tabs_weight [] = 0
tabs_weight (t ∷ ts) = tab_weight t + tabs_weight ts

-- the weight of a body's atoms of heads
abbrev pub heads_weight : List Atom → ℕ
heads_weight [] = 0
heads_weight (eqn p a b ∷ xs) = heads_weight xs
heads_weight (tab t ∷ xs) = tab_weight t + heads_weight xs

abbrev pub weight : List Atom → ℕ
weight xs = 4 * live xs + heads_weight xs
