-- What a term and an atom are is told by the range of their word: the cases that code answers with, against the numbers that the definitions give.
-- Assumes nothing.
use mathlib.Core.Path.{◌≡◌, refl, sym, ap, subst, ◌∙◌}
use mathlib.Core.Bool.{Bool, true, false, ◌||◌, cond}
use Prim.Native.Nat.{ℕ, ◌+◌, ◌-◌, ◌%◌, ◌≤◌, ◌<◌}
use native.Mathlib.Omega.{arith}
use lib.Dec.{leb, eqb}
use borrow.Author.Tests.{le-leb, lt-leb, leb-true, leb-false}
use Rattle.rules.specs.Words.{limit16, fresh_base, name_base, head_base, equality_base, equality_word, head_of, count_of}
use Rattle.rules.specs.Signature.{Sig, is_fresh, is_var}
use Rattle.words.specs.Atom.{term_number, term_number_of, term_word, TermSays, head_kind, head_number, HeadSays, count_in, atom_size, laid_out, AtomSays}
use Rattle.words.specs.Atom.{FirstWord}
use Rattle.words.specs.declared.Term.{Term}
use Rattle.words.specs.declared.Term.TheVariants.{Var, Global, Literal}
use Rattle.words.specs.declared.HeadOrEq.{HeadOrEq}
use Rattle.words.specs.declared.HeadOrEq.TheVariants.{Head, Eq}
use Rattle.words.specs.declared.Atom.{Atom}

-- ---- terms

-- the enum's case for a term's word
unfoldable pub term_of : (G : ℕ) → ℕ → Term
term_of G w = cond (is_fresh w || leb (name_base + G) w) (Var w) (cond (leb name_base w) (Global w) (Literal w))

-- whether a case is a variable
abbrev pub is_var_term : Term → Bool
is_var_term (Var w) = true
is_var_term (Global w) = false
is_var_term (Literal w) = false

module _ (G w : ℕ) where
  abbrev pick : (variable name : Bool) → Term
  pick a b = cond a (Var w) (cond b (Global w) (Literal w))

  -- each case, from the range of the word

  pub term_fresh : fresh_base ≤ w → TermSays (Var w) G w
  unfolding term_number_of
  term_fresh h = record { number_is = simp (le-leb fresh_base w h); word_is = refl }

  pub term_name : w < fresh_base → name_base + G ≤ w → TermSays (Var w) G w
  unfolding term_number_of
  term_name h k = record { number_is = simp (lt-leb fresh_base w h, le-leb (name_base + G) w k); word_is = refl }

  pub term_above : name_base + G ≤ w → TermSays (Var w) G w
  term_above k = go (leb fresh_base w) refl
    where
      go : (b : Bool) → leb fresh_base w ≡ b → TermSays (Var w) G w
      go true e = term_fresh (leb-true fresh_base w e)
      go false e = term_name (leb-false fresh_base w e) k

  pub term_global : w < fresh_base → name_base ≤ w → w < name_base + G → TermSays (Global w) G w
  unfolding term_number_of
  term_global h l k = record { number_is = simp (lt-leb fresh_base w h, lt-leb (name_base + G) w k, le-leb name_base w l); word_is = refl }

  pub term_literal : w < name_base → TermSays (Literal w) G w
  unfolding term_number_of
  term_literal h = record { number_is = simp (lt-leb fresh_base w (omega arith), lt-leb (name_base + G) w (omega arith), lt-leb name_base w h); word_is = refl }

  -- and back: a case is told by its number and its word

  by_number : ℕ → ℕ → Term
  by_number k v = cond (eqb k 0) (Var v) (cond (eqb k 1) (Global v) (Literal v))

  by_its_number : (t : Term) → by_number (term_number t) (term_word t) ≡ t
  unfolding by_number
  by_its_number (Var v) = refl
  by_its_number (Global v) = refl
  by_its_number (Literal v) = refl

  of_number : by_number (term_number_of G w) w ≡ term_of G w
  unfolding by_number term_number_of term_of
  of_number = go (is_fresh w || leb (name_base + G) w) (leb name_base w)
    where
      go : (a b : Bool) → (let k = cond a 0 (cond b 1 2) in cond (eqb k 0) (Var w) (cond (eqb k 1) (Global w) (Literal w))) ≡ pick a b
      go true b = refl
      go false true = refl
      go false false = refl

pub termed : {G w : ℕ} {t : Term} → TermSays t G w → t ≡ term_of G w
termed {G} {w} {t} h = sym (by_its_number G w t) ∙ (λ i. by_number G w (h.number_is i) (h.word_is i)) ∙ of_number G w

-- it is a variable where `rules` says so
pub term_var : (s : Sig) (w : ℕ) → is_var_term (term_of s.globals w) ≡ is_var s w
unfolding term_of
term_var s w = go (is_var s w) (leb name_base w)
  where
    go : (a b : Bool) → is_var_term (pick s.globals w a b) ≡ a
    go true b = refl
    go false true = refl
    go false false = refl

-- ---- atoms

module _ {r : Atom} {w at : ℕ} (a : AtomSays r w at) where
  by_kind : ℕ → ℕ → HeadOrEq
  by_kind k h = cond (eqb k 3) (Head h) Eq

  by_its_kind : (h : HeadOrEq) → by_kind (head_kind h) (head_number h) ≡ h
  unfolding by_kind
  by_its_kind (Head h) = refl
  by_its_kind Eq = refl

  -- a word of kind 3 has its head and its count
  pub atom_head : head_base ≤ w → (r.head ≡ Head (head_of w)) × (r.count ≡ count_of w)
  unfolding by_kind
  atom_head h =
      let b = le-leb head_base w h in
      let k : head_kind r.head ≡ 3 = a.kind_is ∙ rw b in
      let n : head_number r.head ≡ head_of w = a.number_is ∙ rw b in
      (sym (by_its_kind r.head) ∙ (λ i. by_kind (k i) (n i)), a.count_is ∙ rw b)

  -- one of kind 4 the equality sign
  pub atom_equality : w < head_base → (r.head ≡ Eq) × (r.count ≡ w - equality_base)
  unfolding by_kind
  atom_equality h =
      let b = lt-leb head_base w h in
      let k : head_kind r.head ≡ 4 = a.kind_is ∙ rw b in
      let n : head_number r.head ≡ 0 = a.number_is ∙ rw b in
      (sym (by_its_kind r.head) ∙ (λ i. by_kind (k i) (n i)), a.count_is ∙ rw b)

-- what code answers with meets it

pub says_head : {r : Atom} {w at : ℕ} → head_base ≤ w → r ≡ laid_out (Head (head_of w)) (count_of w) at → AtomSays r w at
says_head {r} {w} {at} h e =
    let b = le-leb head_base w h in
    subst (λ (x : Atom). AtomSays x w at) (sym e) (record { kind_is = rw b; number_is = rw b; count_is = rw b; terms_at = refl; next_at = refl })

pub says_equality : {r : Atom} {w at : ℕ} → w < head_base → r ≡ laid_out Eq (w - equality_base) at → AtomSays r w at
says_equality {r} {w} {at} h e =
    let b = lt-leb head_base w h in
    subst (λ (x : Atom). AtomSays x w at) (sym e) (record { kind_is = rw b; number_is = rw b; count_is = rw b; terms_at = refl; next_at = refl })

-- ---- atoms of a good body

-- the count stands in the low bits, whatever the kind is
low_count : {w : ℕ} → FirstWord w → w % limit16 ≡ count_in w
low_count {w} f = go (leb head_base w) refl
  where
    go : (b : Bool) → leb head_base w ≡ b → w % limit16 ≡ cond b (count_of w) (w - equality_base)
    go true e = let lo = leb-true head_base w e in omega arith
    go false e = let hi = leb-false head_base w e in omega (arith, f.two hi)

pub says_good : {r : Atom} {h : HeadOrEq} {w at : ℕ} → FirstWord w → HeadSays h w → r ≡ laid_out h (w % limit16) at → AtomSays r w at
says_good {r} {h} {w} {at} f k e =
    subst (λ (x : Atom). AtomSays x w at) (sym e)
    (record { kind_is = k.kind_is; number_is = k.number_is; count_is = low_count f; terms_at = refl; next_at = refl })

module _ {r : Atom} {w at : ℕ} (f : FirstWord w) (a : AtomSays r w at) where
  -- so the next one may begin behind as many words
  pub good_next : r.next ≡ at + atom_size (w % limit16)
  good_next = go (leb head_base w) refl
    where
      go : (b : Bool) → leb head_base w ≡ b → r.next ≡ at + atom_size (w % limit16)
      go true e = let lo = leb-true head_base w e in omega (arith, a.next_at, (atom_head a lo).1)
      go false e = let hi = leb-false head_base w e in omega (arith, a.next_at, (atom_equality a hi).1, f.two hi)

  -- the equality sign is said by one word
  pub sign_word : r.head ≡ Eq → w ≡ equality_word
  sign_word e = go (leb head_base w) refl
    where
      go : (b : Bool) → leb head_base w ≡ b → w ≡ equality_word
      go true k =
          let four : head_kind r.head ≡ 4 = ap head_kind e in
          let three : head_kind r.head ≡ 3 = a.kind_is ∙ rw k in
          absurd (omega arith)
      go false k = f.two (leb-false head_base w k)

  -- and a head by others
  pub head_other : {h : ℕ} → r.head ≡ Head h → w ≡ equality_word → ⊥
  head_other e k =
      let three : head_kind r.head ≡ 3 = ap head_kind e in
      let four : head_kind r.head ≡ 4 = ap head_kind (atom_equality a (omega arith)).0 in
      omega arith
