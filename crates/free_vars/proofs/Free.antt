-- What is free by 01's definition: a variable that some action uses, before any action that binds it, that action's own use included. The definition's list
-- is in ascending order, each word once.
-- Assumes nothing.
use Prim.Native.Nat.{ℕ}
use mathlib.Core.Bool.{Bool, true, false, cond, ◌&&◌, ◌||◌, and-false}
use mathlib.Core.List.{List, [], ◌∷◌}
use mathlib.Core.Path.{◌≡◌, refl, sym, ap, ◌∙◌}
use lib.Dec.{eqb}
use borrow.Author.Tests.{eqb-true}
use Rattle.rules.specs.Flat.{CoreAction, Let, Set, Delete, Subsume, Union, Panic, Call}
use Rattle.rules.specs.FreeVars.{insert, add_term, add_terms, free_before, get_free_vars}
use Rattle.rules.specs.Signature.{Sig, is_var, elem}
use Rattle.meaning.proofs.Lists.{cond_both}
use Rattle.free_vars.specs.Row.{Ascending}
use Rattle.free_vars.proofs.Sets.{insert_ascending, remove_ascending, elem_insert, elem_remove}

-- v is the action's target
abbrev pub target_is : ℕ → CoreAction → Bool
target_is v (Let x t) = eqb v x
target_is v (Set h ts x) = false
target_is v (Delete h ts) = false
target_is v (Subsume h ts) = false
target_is v (Union a b) = false
target_is v (Panic l) = false
target_is v (Call x h ts) = eqb v x

-- v is one of its terms
abbrev pub used : ℕ → CoreAction → Bool
used v (Let x t) = eqb v t
used v (Set h ts x) = elem v ts || eqb v x
used v (Delete h ts) = elem v ts
used v (Subsume h ts) = elem v ts
used v (Union a b) = eqb v a || eqb v b
used v (Panic l) = false
used v (Call x h ts) = elem v ts

-- from the first action on: a target is not free, a term is
abbrev pub free_in : ℕ → List CoreAction → Bool
free_in v [] = false
free_in v (a ∷ xs) = cond (target_is v a) false (used v a || free_in v xs)

-- ---- order

module _ (s : Sig) where
  term_ascending : (t : ℕ) (vs : List ℕ) → Ascending vs → Ascending (add_term s t vs)
  term_ascending t vs a = cond_both Ascending (is_var s t) (insert t vs) vs (insert_ascending t vs a) a

  terms_ascending : (ts vs : List ℕ) → Ascending vs → Ascending (add_terms s ts vs)
  terms_ascending [] vs a = a
  terms_ascending (t ∷ ts) vs a = term_ascending t (add_terms s ts vs) (terms_ascending ts vs a)

  before_ascending : (x : CoreAction) (vs : List ℕ) → Ascending vs → Ascending (free_before s x vs)
  before_ascending (Let x t) vs a = remove_ascending x (add_term s t vs) (term_ascending t vs a)
  before_ascending (Set h ts x) vs a = terms_ascending ts (add_term s x vs) (term_ascending x vs a)
  before_ascending (Delete h ts) vs a = terms_ascending ts vs a
  before_ascending (Subsume h ts) vs a = terms_ascending ts vs a
  before_ascending (Union x y) vs a = term_ascending x (add_term s y vs) (term_ascending y vs a)
  before_ascending (Panic l) vs a = a
  before_ascending (Call x h ts) vs a = remove_ascending x (add_terms s ts vs) (terms_ascending ts vs a)

  pub free_ascending : (xs : List CoreAction) → Ascending (get_free_vars s xs)
  free_ascending [] = tt
  free_ascending (x ∷ xs) = before_ascending x (get_free_vars s xs) (free_ascending xs)

-- ---- what is in it

-- the tests that a word added, and words added one after the other, come to
and_or : (b x y z : Bool) → ((b && x) || ((b && y) || z)) ≡ ((b && (x || y)) || z)
and_or true true y z = refl
and_or true false y z = refl
and_or false x y z = refl

and_none : (b z : Bool) → z ≡ ((b && false) || z)
and_none true z = refl
and_none false z = refl

and_out : (b t u f : Bool) → cond t false ((b && u) || (b && f)) ≡ (b && cond t false (u || f))
and_out true true u f = refl
and_out true false u f = refl
and_out false true u f = refl
and_out false false u f = refl

-- v is a variable or it is not
module _ (s : Sig) (v : ℕ) (b : Bool) (is : is_var s v ≡ b) where
  elem_term : (t : ℕ) (vs : List ℕ) → elem v (add_term s t vs) ≡ ((b && eqb v t) || elem v vs)
  elem_term t vs = go (is_var s t) refl (eqb v t) refl
    where
      go : (c : Bool) → is_var s t ≡ c → (e : Bool) → eqb v t ≡ e → elem v (cond c (insert t vs) vs) ≡ ((b && e) || elem v vs)
      go true f true g =
          let var : b ≡ true = sym is ∙ ap (is_var s) (eqb-true v t g) ∙ f in
          elem_insert v t vs ∙ ap (λ (z : Bool). z || elem v vs) g ∙ ap (λ (z : Bool). (z && true) || elem v vs) (sym var)
      go true f false g = elem_insert v t vs ∙ ap (λ (z : Bool). z || elem v vs) g ∙ and_none b (elem v vs)
      go false f true g =
          let var : b ≡ false = sym is ∙ ap (is_var s) (eqb-true v t g) ∙ f in
          ap (λ (z : Bool). (z && true) || elem v vs) (sym var)
      go false f false g = and_none b (elem v vs)

  elem_terms : (ts vs : List ℕ) → elem v (add_terms s ts vs) ≡ ((b && elem v ts) || elem v vs)
  elem_terms [] vs = and_none b (elem v vs)
  elem_terms (t ∷ ts) vs =
      elem_term t (add_terms s ts vs) ∙ ap (λ (z : Bool). (b && eqb v t) || z) (elem_terms ts vs) ∙ and_or b (eqb v t) (elem v ts) (elem v vs)

  elem_before : (x : CoreAction) (vs : List ℕ) → Ascending vs → elem v (free_before s x vs) ≡ cond (target_is v x) false ((b && used v x) || elem v vs)
  elem_before (Let x t) vs a = elem_remove v x (add_term s t vs) (term_ascending s t vs a) ∙ ap (cond (eqb v x) false) (elem_term t vs)
  elem_before (Set h ts x) vs a =
      elem_terms ts (add_term s x vs) ∙ ap (λ (z : Bool). (b && elem v ts) || z) (elem_term x vs) ∙ and_or b (elem v ts) (eqb v x) (elem v vs)
  elem_before (Delete h ts) vs a = elem_terms ts vs
  elem_before (Subsume h ts) vs a = elem_terms ts vs
  elem_before (Union x y) vs a =
      elem_term x (add_term s y vs) ∙ ap (λ (z : Bool). (b && eqb v x) || z) (elem_term y vs) ∙ and_or b (eqb v x) (eqb v y) (elem v vs)
  elem_before (Panic l) vs a = and_none b (elem v vs)
  elem_before (Call x h ts) vs a = elem_remove v x (add_terms s ts vs) (terms_ascending s ts vs a) ∙ ap (cond (eqb v x) false) (elem_terms ts vs)

  pub elem_free : (xs : List CoreAction) → elem v (get_free_vars s xs) ≡ (b && free_in v xs)
  elem_free [] = sym (and-false b)
  elem_free (x ∷ xs) =
      elem_before x (get_free_vars s xs) (free_ascending s xs) ∙ ap (λ (z : Bool). cond (target_is v x) false ((b && used v x) || z)) (elem_free xs)
      ∙ and_out b (target_is v x) (used v x) (free_in v xs)
