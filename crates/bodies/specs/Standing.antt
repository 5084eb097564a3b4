-- Atoms where they stand in a scratch. The words of an atom leave its place out, so code speaks of the atoms that it reads, which have none;
-- a caller speaks of a body with places. Assumes nothing: these are definitions.
use Rattle.std.specs.Prelude.{◌≡◌, List, ℕ, ◌+◌, ◌%◌, ◌≤◌, ◌<◌, length, get_or, drop}
use Rattle.octets.specs.Regions.{part, At}
use Rattle.rules.specs.Words.{limit16, head_base, literal_base}
use Rattle.rules.specs.Flat.{Tab, Atom, eqn, tab, tab_words, atom_words, words_of}
use Rattle.meaning.specs.Meaning.{All}
use Rattle.meaning.specs.ReadBack.{EncodableTab, Encodable, tab_from, atoms_of, tabs_of}
use Rattle.words.specs.Atom.{right_from, terms_from}

-- a body stands in the n words at p of l
pub record BodyAt (xs : List Atom) (l : List ℕ) (p n : ℕ) : Type 0 where
  pub fits : All Encodable xs
  pub size : n ≡ length (words_of atom_words xs)
  pub at : At (words_of atom_words xs) l p

-- ---- atoms as they are read: without a place

abbrev pub BareTab : Tab → Type 0
BareTab t = t.place ≡ 0

abbrev pub Bare : Atom → Type 0
Bare (eqn p a b) = p ≡ 0
Bare (tab t) = BareTab t

-- the atoms that are read in the n words at p of l
unfoldable pub atoms_in : List ℕ → ℕ → ℕ → List Atom
atoms_in l p n = atoms_of (part l p n)

unfoldable pub tabs_in : List ℕ → ℕ → ℕ → List Tab
tabs_in l p n = tabs_of (part l p n)

-- the atoms xs, or atoms of heads alone, stand in the n words at p of l
pub record AtomsAt (xs : List Atom) (l : List ℕ) (p n : ℕ) : Type 0 where
  pub fits : All Encodable xs
  pub bare : All Bare xs
  pub size : n ≡ length (words_of atom_words xs)
  pub at : At (words_of atom_words xs) l p
  pub within : p + n ≤ length l

-- some words are those of the atoms that are read in them, and no word is left
abbrev pub Body : List ℕ → Type 0
Body ws = AtomsAt (atoms_in ws 0 (length ws)) ws 0 (length ws)

pub record TabsAt (ts : List Tab) (l : List ℕ) (p n : ℕ) : Type 0 where
  pub fits : All EncodableTab ts
  pub bare : All BareTab ts
  pub size : n ≡ length (words_of tab_words ts)
  pub at : At (words_of tab_words ts) l p
  pub within : p + n ≤ length l

-- ---- one atom

-- the words that an atom at p has
unfoldable pub size_at : List ℕ → ℕ → ℕ
size_at l p = get_or l p 0 % limit16 + 1

-- the left and the right term of an equality at p
abbrev pub left_at : List ℕ → ℕ → ℕ
left_at l p = get_or l (terms_from p) 0

abbrev pub right_at : List ℕ → ℕ → ℕ
right_at l p = get_or l (right_from p) 0

-- the atom of a head that is read at p
unfoldable pub tab_at : List ℕ → ℕ → Tab
tab_at l p = tab_from (get_or l p 0) (drop (p + 1) l)

-- there is one
pub record TabAt (l : List ℕ) (p : ℕ) : Type 0 where
  pub low : head_base ≤ get_or l p 0
  pub high : get_or l p 0 < literal_base
  pub some : 1 ≤ get_or l p 0 % limit16
  pub within : p + get_or l p 0 % limit16 + 1 ≤ length l
