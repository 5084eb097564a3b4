-- Bound at first are the variables of the flat atoms: a scan of the atoms' words finds just these. Assumes nothing.
use mathlib.Core.Path.{◌≡◌, refl, sym, ap, ◌∙◌}
use mathlib.Core.List.{List, [], ◌∷◌, ◌++◌}
use mathlib.Core.Bool.{Bool, true, false, cond, ◌||◌, or-false}
use Prim.Native.Nat.{ℕ, suc, ◌≤◌, ◌<◌}
use native.Mathlib.Omega.{arith}
use lib.Dec.{eqb}
use lib.ListN.{length}
use borrow.Author.Tests.{ne_eqb, eqb-true}
use Rattle.octets.specs.Regions.{part}
use Rattle.rules.specs.Words.{limit12, name_base, head_word, equality_word}
use Rattle.rules.specs.Signature.{Sig, elem, is_var}
use Rattle.rules.specs.Flat.{Atom, eqn, tab, atom_words, words_of}
use Rattle.rules.specs.ToQuery.{vars_of, terms_of, body_vars}
use Rattle.meaning.proofs.DistinctWords.{elem_append}
use Rattle.head_exprs.specs.Scopes.{in_scope, Scoped}
use Rattle.head_exprs.proofs.Scopes.{is_var_lem, is_not_var}

-- a variable is among the variables of a list of terms where it is among the terms
elem_vars : (sig : Sig) (w : ℕ) (ts : List ℕ) → is_var sig w ≡ true → elem w (vars_of sig ts) ≡ elem w ts
elem_vars sig w [] v = refl
elem_vars sig w (x ∷ xs) v = go (is_var sig x) refl (eqb w x) refl (elem_vars sig w xs v)
  where
    go : (b : Bool) → is_var sig x ≡ b → (t : Bool) → eqb w x ≡ t → elem w (vars_of sig xs) ≡ elem w xs
        → elem w (cond b (x ∷ vars_of sig xs) (vars_of sig xs)) ≡ eqb w x || elem w xs
    go true e t et h = ap (λ (z : Bool). eqb w x || z) h
    go false e false et h = rw et h
    go false e true et h =
        let same : w ≡ x = eqb-true w x et in
        absurd (let bad : true ≡ false = sym v ∙ ap (is_var sig) same ∙ e in let z : ◌≡◌ {A = ℕ} 0 1 = cc in omega arith)

-- and what is none is not among them
not_vars : (sig : Sig) (w : ℕ) (ts : List ℕ) → is_var sig w ≡ false → elem w (vars_of sig ts) ≡ false
not_vars sig w [] v = refl
not_vars sig w (x ∷ xs) v = go (is_var sig x) refl (eqb w x) refl (not_vars sig w xs v)
  where
    go : (b : Bool) → is_var sig x ≡ b → (t : Bool) → eqb w x ≡ t → elem w (vars_of sig xs) ≡ false → elem w (cond b (x ∷ vars_of sig xs) (vars_of sig xs)) ≡ false
    go false e t et h = h
    go true e false et h = rw et h
    go true e true et h =
        let same : w ≡ x = eqb-true w x et in
        absurd (let bad : true ≡ false = sym e ∙ ap (is_var sig) (sym same) ∙ v in let z : ◌≡◌ {A = ℕ} 0 1 = cc in omega arith)

-- an atom whose head word lies below the names
abbrev pub Plain : Atom → Type 0
Plain (eqn p a b) = Unit {0}
Plain (tab t) = head_word t.head (suc (length t.ins)) < name_base

abbrev pub PlainAll : List Atom → Type 0
PlainAll [] = Unit {0}
PlainAll (a ∷ xs) = (Plain a) × (PlainAll xs)

skip : (w x : ℕ) (ts : List ℕ) → x < name_base → name_base ≤ w → elem w (x ∷ ts) ≡ elem w ts
skip w x ts a b = rw (ne_eqb w x (λ e. omega arith))

atom_elem : (w : ℕ) (a : Atom) → Plain a → name_base ≤ w → elem w (atom_words a) ≡ elem w (terms_of a)
atom_elem w (eqn q a b) p h = skip w equality_word (a ∷ b ∷ []) (omega arith) h
atom_elem w (tab t) p h = skip w (head_word t.head (suc (length t.ins))) (t.ins ++ t.out ∷ []) p h

pub body_elem : (sig : Sig) (w : ℕ) (xs : List Atom) → PlainAll xs → name_base ≤ w → is_var sig w ≡ true → elem w (body_vars sig xs) ≡ elem w (words_of atom_words xs)
body_elem sig w [] p h v = refl
body_elem sig w (a ∷ xs) p h v =
    elem_append w (vars_of sig (terms_of a)) (body_vars sig xs)
    ∙ (λ i. elem_vars sig w (terms_of a) v i || body_elem sig w xs p.1 h v i)
    ∙ ap (λ (b : Bool). b || elem w (words_of atom_words xs)) (sym (atom_elem w a p.0 h))
    ∙ sym (elem_append w (atom_words a) (words_of atom_words xs))

pub body_none : (sig : Sig) (w : ℕ) (xs : List Atom) → is_var sig w ≡ false → elem w (body_vars sig xs) ≡ false
body_none sig w [] v = refl
body_none sig w (a ∷ xs) v =
    elem_append w (vars_of sig (terms_of a)) (body_vars sig xs) ∙ (λ i. not_vars sig w (terms_of a) v i || body_none sig w xs v i)

-- the scope with which the head starts
pub scope_first : (sig : Sig) (xs : List Atom) (s : List ℕ) (g first : ℕ) → PlainAll xs → g ≡ sig.globals → g ≤ limit12 → part s 0 (length (words_of atom_words xs)) ≡ words_of atom_words xs
    → Scoped sig (body_vars sig xs) s (record { globals = g; body = length (words_of atom_words xs); first = first; names = 0 })
unfolding in_scope
scope_first sig xs s g first p eg few e =
    record {
      globals = eg;
      few = few;
      variables = λ w h old. body_elem sig w xs p (omega arith) (is_var_lem sig g w eg old h) ∙ ap (elem w) (sym e) ∙ sym (or-false (elem w (part s 0 (length (words_of atom_words xs)))));
      global = λ w h. body_none sig w xs (is_not_var sig g w eg few h);
    }
