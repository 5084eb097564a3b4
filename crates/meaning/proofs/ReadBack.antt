-- Atoms written as words and read back are the same atoms, without their places.
-- Assumes nothing.
use Prim.Native.Nat.{ℕ, zero, suc, ◌-◌, ◌≤◌, ◌<◌}
use native.Mathlib.Omega.{arith}
use mathlib.Core.Path.{◌≡◌, refl, sym, ap, ap₂, ◌∙◌}
use mathlib.Core.Bool.{Bool}
use mathlib.Core.List.{List, [], ◌∷◌, ◌++◌, map, append_assoc}
use lib.ListN.{length, get_or, take, length-append}
use lib.Seq.{take_at, drop_at, get_or_at}
use borrow.Author.Tests.{ne_eqb}
use Rattle.rules.specs.Words.{limit16, head_word, equality_word, head_of, count_of}
use Rattle.rules.specs.Flat.{Tab, Atom, eqn, tab, tab_words, atom_words, words_of}
use Rattle.meaning.specs.Meaning.{All}
use Rattle.meaning.specs.ReadBack.{EncodableTab, Encodable, unplaced_tab, unplaced, tab_from, atom_from, atoms_from, atoms_of, tabs_in, tabs_of}
use Rattle.meaning.proofs.Lists.{length_words}
use Rattle.meaning.proofs.WordLaws.{two_atom, tabs_words}

-- ---- words without places

pub unplaced_words : (xs : List Atom) → words_of atom_words (map unplaced xs) ≡ words_of atom_words xs
unplaced_words [] = refl
unplaced_words (eqn p a b ∷ xs) = ap (λ (l : List ℕ). atom_words (eqn p a b) ++ l) (unplaced_words xs)
unplaced_words (tab t ∷ xs) = ap (λ (l : List ℕ). tab_words t ++ l) (unplaced_words xs)

pub unplaced_tabs_words : (ts : List Tab) → words_of tab_words (map unplaced_tab ts) ≡ words_of tab_words ts
unplaced_tabs_words [] = refl
unplaced_tabs_words (t ∷ ts) = ap (λ (l : List ℕ). tab_words t ++ l) (unplaced_tabs_words ts)

pub unplaced_encodable : (xs : List Atom) → All Encodable xs → All Encodable (map unplaced xs)
unplaced_encodable [] h = tt
unplaced_encodable (eqn p a b ∷ xs) h = (tt, unplaced_encodable xs h.1)
unplaced_encodable (tab t ∷ xs) h = (h.0, unplaced_encodable xs h.1)

pub tabs_encodable : (ts : List Tab) → All EncodableTab ts → All Encodable (map tab ts)
tabs_encodable [] f = tt
tabs_encodable (t ∷ ts) f = (f.0, tabs_encodable ts f.1)

-- ---- reading back

-- the parts of a head word
pub head_of_lem : (h n : ℕ) → n < limit16 → head_of (head_word h n) ≡ h
head_of_lem h n l = omega arith

pub count_of_lem : (h n : ℕ) → n < limit16 → count_of (head_word h n) ≡ n
count_of_lem h n l = omega arith

-- an atom of a head, with more words behind it
tab_back : (t : Tab) (rest : List ℕ) → EncodableTab t → tab_from (head_word t.head (suc (length t.ins))) ((t.ins ++ t.out ∷ []) ++ rest) ≡ unplaced_tab t
tab_back t rest f =
    let n = length t.ins in
    let c : count_of (head_word t.head (suc n)) - 1 ≡ n = omega (arith, count_of_lem t.head (suc n) f.1) in
    let us : (t.ins ++ t.out ∷ []) ++ rest ≡ t.ins ++ t.out ∷ rest = append_assoc t.ins (t.out ∷ []) rest in
    let i : take (count_of (head_word t.head (suc n)) - 1) ((t.ins ++ t.out ∷ []) ++ rest) ≡ t.ins =
    ap₂ take c us ∙ take_at t.ins (t.out ∷ rest) n refl in
    let o : get_or ((t.ins ++ t.out ∷ []) ++ rest) (count_of (head_word t.head (suc n)) - 1) 0 ≡ t.out =
    ap₂ (λ (l : List ℕ) (k : ℕ). get_or l k 0) us c ∙ get_or_at t.ins t.out rest 0 n refl in
    λ j. record { place = 0; head = head_of_lem t.head (suc n) f.1 j; ins = i j; out = o j }

atoms_from_lem : (xs : List Atom) → All Encodable xs → (n : ℕ) → length xs ≤ n → atoms_from n (words_of atom_words xs) ≡ map unplaced xs
atoms_from_lem [] f zero h = refl
atoms_from_lem [] f (suc n) h = refl
atoms_from_lem (x ∷ xs) f zero h = absurd (omega arith)
atoms_from_lem (eqn p a b ∷ xs) f (suc n) h = ap (λ (l : List Atom). eqn 0 a b ∷ l) (atoms_from_lem xs f.1 n (omega arith))
atoms_from_lem (tab t ∷ xs) f (suc n) h =
    let w = head_word t.head (suc (length t.ins)) in
    let us : List ℕ = (t.ins ++ t.out ∷ []) ++ words_of atom_words xs in
    let size : length (t.ins ++ t.out ∷ []) ≡ count_of w =
    omega (arith, length-append t.ins (t.out ∷ []), count_of_lem t.head (suc (length t.ins)) f.0.1) in
    ap (λ (b : Bool). atom_from b w us (λ vs. atoms_from n vs)) (ne_eqb w equality_word (λ e. omega arith))
    ∙ ap₂ (λ (u : Tab) (l : List Atom). tab u ∷ l) (tab_back t (words_of atom_words xs) f.0)
    (ap (atoms_from n) (drop_at (t.ins ++ t.out ∷ []) (words_of atom_words xs) (count_of w) size) ∙ atoms_from_lem xs f.1 n (omega arith))

pub atoms_back : (xs : List Atom) → All Encodable xs → atoms_of (words_of atom_words xs) ≡ map unplaced xs
unfolding atoms_of
atoms_back xs f = atoms_from_lem xs f (length (words_of atom_words xs)) (omega (arith, length_words atom_words 2 two_atom xs))

tabs_in_lem : (ts : List Tab) → tabs_in (map unplaced (map tab ts)) ≡ map unplaced_tab ts
tabs_in_lem [] = refl
tabs_in_lem (t ∷ ts) = ap (λ (l : List Tab). unplaced_tab t ∷ l) (tabs_in_lem ts)

pub tabs_back : (ts : List Tab) → All EncodableTab ts → tabs_of (words_of tab_words ts) ≡ map unplaced_tab ts
unfolding tabs_of
tabs_back ts f = ap (λ (l : List ℕ). tabs_in (atoms_of l)) (sym (tabs_words ts)) ∙ ap tabs_in (atoms_back (map tab ts) (tabs_encodable ts f)) ∙ tabs_in_lem ts

-- bodies with the same words are the same but for their places
pub words_tell : (xs ys : List Atom) → All Encodable xs → All Encodable ys → words_of atom_words xs ≡ words_of atom_words ys → map unplaced xs ≡ map unplaced ys
words_tell xs ys f g e = sym (atoms_back xs f) ∙ ap atoms_of e ∙ atoms_back ys g
