-- Atoms and their words, both ways, for code that settles a body where its words stand.
--
-- The words of an atom leave its place out, so what is read back has place 0. `unplaced` is what the words of an atom tell of it. A region of words is
-- read back by `atoms_of`, and code is proved for the atoms read back. That is enough for every body with these words: places change nothing in
-- settling, which is proved where the laws of reading back are.
-- Assumes nothing: these are definitions.
use Rattle.std.specs.Prelude.{ℕ, zero, suc, ◌-◌, ◌<◌, Bool, true, false, List, [], ◌∷◌, map, length, get_or, take, drop, eqb}
use Rattle.rules.specs.Words.{limit12, limit16, equality_word, head_of, count_of}
use Rattle.rules.specs.Flat.{Tab, Atom, eqn, tab}
use Rattle.rules.specs.RemoveDupVars.{Settled}

-- ---- what the words of an atom tell

-- a head and a count that fit their word; the count has the output in it
abbrev pub EncodableTab : Tab → Type 0
EncodableTab t = (t.head < limit12) × (suc (length t.ins) < limit16)

abbrev pub Encodable : Atom → Type 0
Encodable (eqn p a b) = Unit {0}
Encodable (tab t) = EncodableTab t

abbrev pub unplaced_tab : Tab → Tab
unplaced_tab t = record { place = 0; head = t.head; ins = t.ins; out = t.out }

abbrev pub unplaced : Atom → Atom
unplaced (eqn p a b) = eqn 0 a b
unplaced (tab t) = tab (unplaced_tab t)

-- a settled body without places
abbrev pub unplaced_settled : Settled → Settled
unplaced_settled b = record { tabs = map unplaced_tab b.tabs; repls = b.repls; passes = b.passes }

-- ---- reading back

-- the atom with this kind 3 word before these words
abbrev pub tab_from : ℕ → List ℕ → Tab
tab_from w us = record { place = 0; head = head_of w; ins = take (count_of w - 1) us; out = get_or us (count_of w - 1) 0 }

abbrev pub atom_from : (isEqn : Bool) → ℕ → List ℕ → (List ℕ → List Atom) → List Atom
atom_from true w us go = eqn 0 (get_or us 0 0) (get_or us 1 0) ∷ go (drop 2 us)
atom_from false w us go = tab (tab_from w us) ∷ go (drop (count_of w) us)

-- at most n atoms
abbrev pub atoms_from : ℕ → List ℕ → List Atom
atoms_from zero ws = []
atoms_from (suc n) [] = []
atoms_from (suc n) (w ∷ us) = atom_from (eqb w equality_word) w us (λ vs. atoms_from n vs)

-- the atoms whose words these are, if there are such
unfoldable pub atoms_of : List ℕ → List Atom
atoms_of ws = atoms_from (length ws) ws

abbrev pub tabs_in : List Atom → List Tab
tabs_in [] = []
tabs_in (eqn p a b ∷ xs) = tabs_in xs
tabs_in (tab t ∷ xs) = t ∷ tabs_in xs

-- likewise where none of them is an equality
unfoldable pub tabs_of : List ℕ → List Tab
tabs_of ws = tabs_in (atoms_of ws)
