-- Regions of a list of words: what stands where, what a write makes of the list, and what a step leaves as it was. A region is a place
-- and a count, or a place and an end: regions of one list may overlap, and what stands around them is told too. Assumes nothing.
use Rattle.std.specs.Prelude.{◌≡◌, List, [], ◌∷◌, ◌++◌, Bool, false, cond, ◌||◌, ℕ, ◌+◌, ◌≤◌, eqb, length, take, drop}

-- l with the words from p on overwritten by xs. It stays shut: proofs use its laws
unfoldable pub splice : List ℕ → ℕ → List ℕ → List ℕ
splice l p xs = take p l ++ xs ++ drop (p + length xs) l

-- the n words of l from p on
abbrev pub part : List ℕ → ℕ → ℕ → List ℕ
part l p n = take n (drop p l)

-- the words ws stand at p of l
pub record At (ws l : List ℕ) (p : ℕ) : Type 0 where
  pub within : p + length ws ≤ length l
  pub words : part l p (length ws) ≡ ws

-- m is as l was, but for what lies from a to e
pub record Only (l m : List ℕ) (a e : ℕ) : Type 0 where
  pub size : length m ≡ length l
  pub before : take a m ≡ take a l
  pub after : drop e m ≡ drop e l

-- n words can be copied from one place of a list to another, the first word first: none is overwritten before it is read
pub data Clear (to from n : ℕ) : Type 0 where
  below : to ≤ from → Clear to from n
  beyond : from + n ≤ to → Clear to from n

-- y for x, and any other word as it is
unfoldable pub swap : ℕ → ℕ → ℕ → ℕ
swap x y w = cond (eqb w x) y w

-- a word is one of these
abbrev pub elem : ℕ → List ℕ → Bool
elem w [] = false
elem w (x ∷ xs) = eqb w x || elem w xs
