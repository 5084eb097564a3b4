-- Atoms that stand in a region: they are the atoms read there, steps elsewhere leave them, and they are walked from the first on.
-- Assumes nothing.
use mathlib.Core.Bool.{Bool, false, true}
use mathlib.Core.List.{List, [], ◌++◌, ◌∷◌, append_assoc, map}
use mathlib.Core.Path.{◌∙◌, ◌≡◌, ap, ap₂, refl, subst, sym}
use Prim.Native.Nat.{◌%◌, ◌+◌, ◌-◌, ◌<◌, ◌≤◌, suc, ℕ}
use native.Mathlib.Numerals.{add-one}
use native.Mathlib.Omega.{arith}
use lib.ListN.{drop, get_or, length, length-append, length-drop, take, take-append-drop}
use lib.Seq.{drop-cons, get_or_at, take_at}
use Rattle.octets.proofs.Places.{at_after, at_before, at_first, at_join, at_left, at_nil, at_part, at_right, part_part}
use Rattle.octets.proofs.Splice.{length_part, part_all}
use Rattle.octets.specs.Regions.{At, Only, part}
use Rattle.rules.specs.Canonicalize.{Replacement, replace_atom, resolve, resolve_eq}
use Rattle.rules.specs.Flat.{Atom, Tab, atom_words, eqn, tab, tab_words, words_of}
use Rattle.rules.specs.Signature.{Sig, same_term}
use Rattle.rules.specs.Words.{count_of, equality_word, head_base, head_word, limit16}
use Rattle.meaning.proofs.Lists.{all_append, all_left, all_right, length_words_append, words_append}
use Rattle.meaning.proofs.ReadBack.{atoms_back, count_of_lem, head_of_lem, tabs_back, tabs_encodable, unplaced_encodable, unplaced_words}
use Rattle.meaning.proofs.WordLaws.{length_tab, tabs_words, two_atom, two_tab}
use Rattle.meaning.specs.Meaning.{All}
use Rattle.meaning.specs.ReadBack.{Encodable, EncodableTab, atoms_of, tab_from, tabs_of, unplaced, unplaced_tab}
use Rattle.words.proofs.AtomLaws.{good_next}
use Rattle.words.specs.Atom.{AtomSays, BeginsGood, atom_size}
use Rattle.words.specs.declared.Atom as word
use Rattle.bodies.specs.Standing.{AtomsAt, Bare, BareTab, Body, BodyAt, TabAt, TabsAt, atoms_in, size_at, tab_at, tabs_in}

-- ---- without places

pub bare_atoms : (xs : List Atom) → All Bare xs → map unplaced xs ≡ xs
bare_atoms [] h = refl
bare_atoms (eqn p a b ∷ xs) h = ap₂ (λ (q : ℕ) (l : List Atom). eqn q a b ∷ l) (sym h.0) (bare_atoms xs h.1)
bare_atoms (tab t ∷ xs) h =
    ap₂ (λ (q : ℕ) (l : List Atom). tab (record { place = q; head = t.head; ins = t.ins; out = t.out }) ∷ l) (sym h.0) (bare_atoms xs h.1)

pub bare_tabs : (ts : List Tab) → All BareTab ts → map unplaced_tab ts ≡ ts
bare_tabs [] h = refl
bare_tabs (t ∷ ts) h =
    ap₂ (λ (q : ℕ) (l : List Tab). record { place = q; head = t.head; ins = t.ins; out = t.out } ∷ l) (sym h.0) (bare_tabs ts h.1)

unplaced_bare : (xs : List Atom) → All Bare (map unplaced xs)
unplaced_bare [] = tt
unplaced_bare (eqn p a b ∷ xs) = (refl, unplaced_bare xs)
unplaced_bare (tab t ∷ xs) = (refl, unplaced_bare xs)

pub bare_replaced : (r : Replacement) (xs : List Atom) → All Bare xs → All Bare (map (replace_atom r) xs)
bare_replaced r [] h = tt
bare_replaced r (eqn p a b ∷ xs) h = (h.0, bare_replaced r xs h.1)
bare_replaced r (tab t ∷ xs) h = (h.0, bare_replaced r xs h.1)

pub bare_resolve : (s : Sig) (xs : List Atom) → All Bare xs → All BareTab (resolve s xs)
bare_resolve s [] h = tt
bare_resolve s (tab t ∷ xs) h = (h.0, bare_resolve s xs h.1)
bare_resolve s (eqn p a b ∷ xs) h = go (same_term a b) (bare_resolve s xs h.1)
  where
    go : (c : Bool) → All BareTab (resolve s xs) → All BareTab (resolve_eq s c p a b (resolve s xs))
    go true k = k
    go false k = (h.0, k)

tabs_bare : (ts : List Tab) → All BareTab ts → All Bare (map tab ts)
tabs_bare [] h = tt
tabs_bare (t ∷ ts) h = (h.0, tabs_bare ts h.1)

-- ---- what stands is what is read

module _ (l : List ℕ) (p n : ℕ) where
  pub atoms_is : (xs : List Atom) → AtomsAt xs l p n → atoms_in l p n ≡ xs
  unfolding atoms_in
  atoms_is xs s = ap (λ (k : ℕ). atoms_of (part l p k)) s.size ∙ ap atoms_of s.at.words ∙ atoms_back xs s.fits ∙ bare_atoms xs s.bare

  pub tabs_is : (ts : List Tab) → TabsAt ts l p n → tabs_in l p n ≡ ts
  unfolding tabs_in
  tabs_is ts s = ap (λ (k : ℕ). tabs_of (part l p k)) s.size ∙ ap tabs_of s.at.words ∙ tabs_back ts s.fits ∙ bare_tabs ts s.bare

  -- as a contract asks
  pub atoms_read : (xs : List Atom) → AtomsAt xs l p n → AtomsAt (atoms_in l p n) l p n
  atoms_read xs s = subst (λ (ys : List Atom). AtomsAt ys l p n) (sym (atoms_is xs s)) s

  pub tabs_read : (ts : List Tab) → TabsAt ts l p n → TabsAt (tabs_in l p n) l p n
  tabs_read ts s = subst (λ (ys : List Tab). TabsAt ys l p n) (sym (tabs_is ts s)) s

  -- a body, with places, is read without them
  pub body_is : (xs : List Atom) → BodyAt xs l p n → atoms_in l p n ≡ map unplaced xs
  unfolding atoms_in
  body_is xs s = ap (λ (k : ℕ). atoms_of (part l p k)) s.size ∙ ap atoms_of s.at.words ∙ atoms_back xs s.fits

  pub body_atoms : (xs : List Atom) → BodyAt xs l p n → AtomsAt (atoms_in l p n) l p n
  body_atoms xs s =
      subst (λ (ys : List Atom). AtomsAt ys l p n) (sym (body_is xs s))
      (record {
        fits = unplaced_encodable xs s.fits;
        bare = unplaced_bare xs;
        size = s.size ∙ ap length (sym (unplaced_words xs));
        at = subst (λ (ws : List ℕ). At ws l p) (sym (unplaced_words xs)) s.at;
        within = omega (arith, s.size, s.at.within);
      })

-- ---- words that are lent

-- atoms that stand in a region, when just its words are lent
pub lent_body : {ws l : List ℕ} (p n : ℕ) → ws ≡ part l p n → AtomsAt (atoms_in l p n) l p n → Body ws
lent_body {ws} {l} p n e s =
    let xs = atoms_in l p n in
    let us = words_of atom_words xs in
    let is : ws ≡ us = e ∙ ap (part l p) s.size ∙ s.at.words in
    atoms_read ws 0 (length ws) xs
    (record {
      fits = s.fits;
      bare = s.bare;
      size = ap length is;
      at = record { within = omega (arith, ap length is); words = ap (take (length us)) is ∙ part_all us };
      within = omega arith;
    })

-- and what is known of the atoms that are read in lent words, where these stand
module _ {ws : List ℕ} (l : List ℕ) (p n : ℕ) (e : ws ≡ part l p n) (h : p + n ≤ length l) where
  pub lent_size : length ws ≡ n
  lent_size = ap length e ∙ length_part l p n h

  pub lent_read : (q r m : ℕ) → r ≡ p + q → q + m ≤ n → atoms_in ws q m ≡ atoms_in l r m
  unfolding atoms_in
  lent_read q r m k room =
      ap (λ (x : List ℕ). atoms_of (part x q m)) e ∙ ap atoms_of (part_part l p n q m room h) ∙ ap (λ (i : ℕ). atoms_of (part l i m)) (sym k)

  -- all of them
  pub lent_whole : atoms_in ws 0 (length ws) ≡ atoms_in l p n
  lent_whole = ap (atoms_in ws 0) lent_size ∙ lent_read 0 p n (omega arith) (omega arith)

  pub lent_atoms : (q r m : ℕ) → r ≡ p + q → AtomsAt (atoms_in ws q m) ws q m → AtomsAt (atoms_in l r m) l r m
  lent_atoms q r m k s =
      let room : q + m ≤ n = omega (arith, s.within, lent_size) in
      atoms_read l r m (atoms_in ws q m)
      (record {
        fits = s.fits;
        bare = s.bare;
        size = s.size;
        at = subst (λ (i : ℕ). At (words_of atom_words (atoms_in ws q m)) l i) (sym k) (at_part p n q e h s.at);
        within = omega arith;
      })

-- ---- after a step elsewhere

pub atoms_before : {xs : List Atom} {l m : List ℕ} {p n a e : ℕ} → Only l m a e → AtomsAt xs l p n → p + n ≤ a → AtomsAt xs m p n
atoms_before o s h =
    record {
      fits = s.fits;
      bare = s.bare;
      size = s.size;
      at = at_before o s.at (omega (arith, s.size));
      within = omega (arith, o.size, s.within);
    }

pub tabs_before : {ts : List Tab} {l m : List ℕ} {p n a e : ℕ} → Only l m a e → TabsAt ts l p n → p + n ≤ a → TabsAt ts m p n
tabs_before o s h =
    record {
      fits = s.fits;
      bare = s.bare;
      size = s.size;
      at = at_before o s.at (omega (arith, s.size));
      within = omega (arith, o.size, s.within);
    }

pub tabs_after : {ts : List Tab} {l m : List ℕ} {p n a e : ℕ} → Only l m a e → TabsAt ts l p n → e ≤ p → TabsAt ts m p n
tabs_after o s h = record { fits = s.fits; bare = s.bare; size = s.size; at = at_after o s.at h; within = omega (arith, o.size, s.within) }

-- ---- joined

pub no_tabs : (l : List ℕ) (p : ℕ) → p ≤ length l → TabsAt [] l p 0
no_tabs l p h = record { fits = tt; bare = tt; size = refl; at = at_nil l p h; within = omega arith }

-- atoms of heads are atoms
pub tabs_atoms : (ts : List Tab) (l : List ℕ) (p n : ℕ) → TabsAt ts l p n → AtomsAt (map tab ts) l p n
tabs_atoms ts l p n s =
    record {
      fits = tabs_encodable ts s.fits;
      bare = tabs_bare ts s.bare;
      size = s.size ∙ ap length (sym (tabs_words ts));
      at = subst (λ (ws : List ℕ). At ws l p) (sym (tabs_words ts)) s.at;
      within = s.within;
    }

-- and back
pub atoms_tabs : (ts : List Tab) (l : List ℕ) (p n : ℕ) → AtomsAt (map tab ts) l p n → TabsAt ts l p n
atoms_tabs ts l p n s =
    record {
      fits = fit ts s.fits;
      bare = bare ts s.bare;
      size = s.size ∙ ap length (tabs_words ts);
      at = subst (λ (ws : List ℕ). At ws l p) (tabs_words ts) s.at;
      within = s.within;
    }
  where
    fit : (us : List Tab) → All Encodable (map tab us) → All EncodableTab us
    fit [] h = tt
    fit (u ∷ us) h = (h.0, fit us h.1)

    bare : (us : List Tab) → All Bare (map tab us) → All BareTab us
    bare [] h = tt
    bare (u ∷ us) h = (h.0, bare us h.1)

pub atoms_join : (xs ys : List Atom) (l : List ℕ) (p n q m : ℕ) → AtomsAt xs l p n → AtomsAt ys l q m → q ≡ p + n → AtomsAt (xs ++ ys) l p (n + m)
atoms_join xs ys l p n q m s t e =
    record {
      fits = all_append Encodable xs ys s.fits t.fits;
      bare = all_append Bare xs ys s.bare t.bare;
      size = omega (arith, s.size, t.size, length_words_append atom_words xs ys);
      at = subst (λ (ws : List ℕ). At ws l p) (sym (words_append atom_words xs ys)) (at_join s.at t.at (omega (arith, s.size)));
      within = omega (arith, t.within);
    }

-- and apart
module _ (xs ys : List Atom) {l : List ℕ} {p n : ℕ} (s : AtomsAt (xs ++ ys) l p n) where
  words_at : At (words_of atom_words xs ++ words_of atom_words ys) l p
  words_at = subst (λ (ws : List ℕ). At ws l p) (words_append atom_words xs ys) s.at

  pub atoms_left : (m : ℕ) → m ≡ length (words_of atom_words xs) → AtomsAt xs l p m
  atoms_left m e =
      record {
        fits = all_left Encodable xs ys s.fits;
        bare = all_left Bare xs ys s.bare;
        size = e;
        at = at_left (words_of atom_words ys) words_at;
        within = omega (arith, s.within, s.size, length_words_append atom_words xs ys);
      }

  pub atoms_right : (q m : ℕ) → q ≡ p + length (words_of atom_words xs) → m ≡ n - length (words_of atom_words xs) → AtomsAt ys l q m
  atoms_right q m e f =
      record {
        fits = all_right Encodable xs ys s.fits;
        bare = all_right Bare xs ys s.bare;
        size = omega (arith, s.size, length_words_append atom_words xs ys);
        at = at_right (words_of atom_words xs) q words_at e;
        within = omega (arith, s.within, s.size, length_words_append atom_words xs ys);
      }

pub tabs_join : (xs ys : List Tab) (l : List ℕ) (p n q m : ℕ) → TabsAt xs l p n → TabsAt ys l q m → q ≡ p + n → TabsAt (xs ++ ys) l p (n + m)
tabs_join xs ys l p n q m s t e =
    record {
      fits = all_append EncodableTab xs ys s.fits t.fits;
      bare = all_append BareTab xs ys s.bare t.bare;
      size = omega (arith, s.size, t.size, length_words_append tab_words xs ys);
      at = subst (λ (ws : List ℕ). At ws l p) (sym (words_append tab_words xs ys)) (at_join s.at t.at (omega (arith, s.size)));
      within = omega (arith, t.within);
    }

-- ---- one atom

low_bits : (h n : ℕ) → n < limit16 → head_word h n % limit16 ≡ n
low_bits h n l = omega arith

pub size_tab : (t : Tab) → EncodableTab t → (l : List ℕ) (p : ℕ) → At (tab_words t) l p → size_at l p ≡ length (tab_words t)
unfolding size_at
size_tab t f l p s =
    ap (λ (w : ℕ). atom_size (w % limit16)) (at_first s) ∙ omega (arith, length_tab t, low_bits t.head (suc (length t.ins)) f.1)

pub size_atom : (x : Atom) → Encodable x → (l : List ℕ) (p : ℕ) → At (atom_words x) l p → size_at l p ≡ length (atom_words x)
unfolding size_at
size_atom (eqn q a b) f l p s = ap (λ (w : ℕ). atom_size (w % limit16)) (at_first s)
size_atom (tab t) f l p s = size_tab t f l p s

-- an atom of a head that stands is read as one
pub tab_there : (t : Tab) (l : List ℕ) (p : ℕ) → EncodableTab t → At (tab_words t) l p → TabAt l p
tab_there t l p f s =
    let w : get_or l p 0 ≡ head_word t.head (suc (length t.ins)) = at_first s in
    let c : get_or l p 0 % limit16 ≡ suc (length t.ins) = ap (λ (x : ℕ). x % limit16) w ∙ low_bits t.head (suc (length t.ins)) f.1 in
    record {
      low = omega (arith, w);
      high = omega (arith, w, f.0, f.1);
      some = omega (arith, c);
      within = omega (arith, c, s.within, length_tab t);
    }

-- its first word is as reading lets it pass, and so is an equality's

pub tab_begins : {l : List ℕ} {p : ℕ} → TabAt l p → BeginsGood l p
tab_begins {l} {p} a = record { inside = omega (arith, a.within); first = record { high = a.high; two = high (get_or l p 0) a.low } }
  where
    high : (w : ℕ) → head_base ≤ w → w < head_base → w ≡ equality_word
    high w h k = absurd (omega arith)

pub equality_begins : {l : List ℕ} {p : ℕ} → p < length l → get_or l p 0 ≡ equality_word → BeginsGood l p
equality_begins {l} {p} h e = record { inside = h; first = record { high = omega (arith, e); two = λ k. e } }

pub begins_atom : (x : Atom) → Encodable x → {l : List ℕ} {p : ℕ} → At (atom_words x) l p → BeginsGood l p
begins_atom (eqn q a b) f {l} {p} s = equality_begins (omega (arith, s.within)) (at_first s)
begins_atom (tab t) f {l} {p} s = tab_begins (tab_there t l p f s)

-- the next one begins behind its words
pub next_at_lem : {l : List ℕ} {p : ℕ} {r : word.Atom} → BeginsGood l p → AtomSays r (get_or l p 0) p → r.next ≡ p + size_at l p
unfolding size_at
next_at_lem b a = good_next b.first a

-- ---- the first of the atoms in a region, and what is left

pub record First (xs : List Atom) (l : List ℕ) (p n : ℕ) : Type 0 where
  pub atom : Atom
  pub rest : List Atom
  pub is : xs ≡ atom ∷ rest
  pub fits : Encodable atom
  pub bare : Bare atom
  pub stands : At (atom_words atom) l p
  pub inside : length (atom_words atom) ≤ n
  pub some : atom_size 1 ≤ length (atom_words atom)
  pub size : size_at l p ≡ length (atom_words atom)
  pub begins : BeginsGood l p
  pub after : (q m : ℕ) → q ≡ p + length (atom_words atom) → m ≡ n - length (atom_words atom) → AtomsAt rest l q m

-- the words of a first thing, and of those behind it, in n words at p
record Cut {A : Type 0} (ws : A → List ℕ) (x : A) (xs : List A) (l : List ℕ) (p n : ℕ) : Type 0 where
  pub stands : At (ws x) l p
  pub inside : length (ws x) ≤ n
  pub left : (m : ℕ) → m ≡ n - length (ws x) → m ≡ length (words_of ws xs)
  pub behind : (q : ℕ) → q ≡ p + length (ws x) → At (words_of ws xs) l q
  pub within : (q m : ℕ) → q ≡ p + length (ws x) → m ≡ n - length (ws x) → q + m ≤ length l

cut : {A : Type 0} (ws : A → List ℕ) (x : A) (xs : List A) (l : List ℕ) (p n : ℕ) → n ≡ length (words_of ws (x ∷ xs)) → At (words_of ws (x ∷ xs)) l p
    → p + n ≤ length l → Cut ws x xs l p n
cut ws x xs l p n e s h =
    let size : n ≡ length (ws x) + length (words_of ws xs) = e ∙ length-append (ws x) (words_of ws xs) in
    record {
      stands = at_left (words_of ws xs) s;
      inside = omega arith;
      left = λ m em. rest_size (length (ws x)) (length (words_of ws xs)) n m size em;
      behind = λ q eq. at_right (ws x) q s eq;
      within = λ q m eq em. rest_within (length (ws x)) (length (words_of ws xs)) n m p q (length l) size em eq h;
    }
  where
    rest_within : (a b n m p q k : ℕ) → n ≡ a + b → m ≡ n - a → q ≡ p + a → p + n ≤ k → q + m ≤ k
    rest_within a b n m p q k e f g h = omega arith

    rest_size : (a b n m : ℕ) → n ≡ a + b → m ≡ n - a → m ≡ b
    rest_size a b n m e f = omega arith

pub first_atom : (xs : List Atom) (l : List ℕ) (p n : ℕ) → AtomsAt xs l p n → 0 < n → First xs l p n
first_atom [] l p n s h = absurd (omega (arith, s.size))
first_atom (x ∷ xs) l p n s h =
    let k = cut atom_words x xs l p n s.size s.at s.within in
    record {
      atom = x;
      rest = xs;
      is = refl;
      fits = s.fits.0;
      bare = s.bare.0;
      stands = k.stands;
      inside = k.inside;
      some = two_atom x;
      size = size_atom x s.fits.0 l p k.stands;
      begins = begins_atom x s.fits.0 k.stands;
      after = λ q m eq em. record { fits = s.fits.1; bare = s.bare.1; size = k.left m em; at = k.behind q eq; within = k.within q m eq em };
    }

pub none_left : (xs : List Atom) (l : List ℕ) (p n : ℕ) → AtomsAt xs l p n → n ≤ 0 → xs ≡ []
none_left [] l p n s h = refl
none_left (x ∷ xs) l p n s h = absurd (omega (arith, s.size, length-append (atom_words x) (words_of atom_words xs), two_atom x))

pub record FirstTab (ts : List Tab) (l : List ℕ) (p n : ℕ) : Type 0 where
  pub atom : Tab
  pub rest : List Tab
  pub is : ts ≡ atom ∷ rest
  pub fits : EncodableTab atom
  pub bare : BareTab atom
  pub stands : At (tab_words atom) l p
  pub inside : length (tab_words atom) ≤ n
  pub some : atom_size 1 ≤ length (tab_words atom)
  pub size : size_at l p ≡ length (tab_words atom)
  pub begins : BeginsGood l p
  pub after : (q m : ℕ) → q ≡ p + length (tab_words atom) → m ≡ n - length (tab_words atom) → TabsAt rest l q m

pub first_tab : (ts : List Tab) (l : List ℕ) (p n : ℕ) → TabsAt ts l p n → 0 < n → FirstTab ts l p n
first_tab [] l p n s h = absurd (omega (arith, s.size))
first_tab (x ∷ xs) l p n s h =
    let k = cut tab_words x xs l p n s.size s.at s.within in
    record {
      atom = x;
      rest = xs;
      is = refl;
      fits = s.fits.0;
      bare = s.bare.0;
      stands = k.stands;
      inside = k.inside;
      some = two_tab x;
      size = size_tab x s.fits.0 l p k.stands;
      begins = tab_begins (tab_there x l p s.fits.0 k.stands);
      after = λ q m eq em. record { fits = s.fits.1; bare = s.bare.1; size = k.left m em; at = k.behind q eq; within = k.within q m eq em };
    }

pub no_tab_left : (xs : List Tab) (l : List ℕ) (p n : ℕ) → TabsAt xs l p n → n ≤ 0 → xs ≡ []
no_tab_left [] l p n s h = refl
no_tab_left (x ∷ xs) l p n s h = absurd (omega (arith, s.size, length-append (tab_words x) (words_of tab_words xs), two_tab x))

-- a walk that starts: no words are passed
passed_none : (P : ℕ → ℕ → Type 0) (p n : ℕ) → P p n → P (p + 0) (n - 0)
passed_none P p n s = subst (λ (q : ℕ). P q (n - 0)) (plus p) (subst (λ (m : ℕ). P p m) (minus n) s)
  where
    plus : (p : ℕ) → p ≡ p + 0
    plus p = omega arith

    minus : (p : ℕ) → p ≡ p - 0
    minus p = omega arith

pub none_passed : (ts : List Tab) (l : List ℕ) (p n : ℕ) → TabsAt ts l p n → TabsAt ts l (p + 0) (n - 0)
none_passed ts l p n s = passed_none (λ (q m : ℕ). TabsAt ts l q m) p n s

pub atoms_ahead : {xs : List Atom} {l : List ℕ} {p n : ℕ} → AtomsAt xs l p n → AtomsAt xs l (p + 0) (n - 0)
atoms_ahead {xs} {l} {p} {n} s = passed_none (λ (q m : ℕ). AtomsAt xs l q m) p n s

-- ---- an atom of a head that stands is read

after_first : (r : List ℕ) (p x : ℕ) (ys : List ℕ) → drop p r ≡ x ∷ ys → drop (p + 1) r ≡ ys
after_first r p x ys e =
    let h : p < length r = omega (arith, length-drop p r, ap length e) in
    let k : get_or r p 0 ∷ drop (suc p) r ≡ x ∷ ys = sym (drop-cons r p 0 h) ∙ e in
    rw add-one (cc)

-- an atom with more words behind it
tab_back : (t : Tab) (rest : List ℕ) → EncodableTab t → BareTab t → tab_from (head_word t.head (suc (length t.ins))) ((t.ins ++ t.out ∷ []) ++ rest) ≡ t
tab_back t rest f b =
    let n = length t.ins in
    let c : count_of (head_word t.head (suc n)) - 1 ≡ n = omega (arith, count_of_lem t.head (suc n) f.1) in
    let us : (t.ins ++ t.out ∷ []) ++ rest ≡ t.ins ++ t.out ∷ rest = append_assoc t.ins (t.out ∷ []) rest in
    let i : take (count_of (head_word t.head (suc n)) - 1) ((t.ins ++ t.out ∷ []) ++ rest) ≡ t.ins = ap₂ take c us ∙ take_at t.ins (t.out ∷ rest) n refl in
    let o : get_or ((t.ins ++ t.out ∷ []) ++ rest) (count_of (head_word t.head (suc n)) - 1) 0 ≡ t.out =
    ap₂ (λ (l : List ℕ) (k : ℕ). get_or l k 0) us c ∙ get_or_at t.ins t.out rest 0 n refl in
    λ j. record { place = sym b j; head = head_of_lem t.head (suc n) f.1 j; ins = i j; out = o j }

module _ (t : Tab) (l : List ℕ) (p : ℕ) (f : EncodableTab t) (s : At (tab_words t) l p) where
  pub tab_is : BareTab t → tab_at l p ≡ t
  unfolding tab_at
  tab_is b =
      let n = length (tab_words t) in
      let rest : List ℕ = drop n (drop p l) in
      let d : drop p l ≡ tab_words t ++ rest = sym (take-append-drop n (drop p l)) ∙ ap (λ (x : List ℕ). x ++ rest) s.words in
      ap₂ tab_from (at_first s) (after_first l p (head_word t.head (suc (length t.ins))) ((t.ins ++ t.out ∷ []) ++ rest) d) ∙ tab_back t rest f b

pub size_at_lem : (l : List ℕ) (p : ℕ) → size_at l p ≡ get_or l p 0 % limit16 + 1
unfolding size_at
size_at_lem l p = refl
