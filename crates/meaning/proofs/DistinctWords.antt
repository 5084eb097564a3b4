-- Lists of words without repeats: one whose words all are in vs is no longer than the distinct words of vs.
-- Assumes nothing.
use Prim.Native.Nat.{ℕ, suc, ◌≤◌}
use native.Mathlib.Nat.{le_refl}
use native.Mathlib.Omega.{arith}
use mathlib.Core.Path.{◌≡◌, refl, sym, ◌∙◌, ap, ap₂, subst}
use mathlib.Core.Bool.{Bool, true, false, cond, ◌||◌, false≢true, or_assoc}
use mathlib.Core.List.{List, [], ◌∷◌, ◌++◌}
use lib.ListN.{length}
use lib.Dec.{eqb}
use borrow.Author.Tests.{eqb-true, eqb-false, ne_eqb}
use Rattle.rules.specs.Signature.{elem}
use Rattle.meaning.specs.Meaning.{All}
use Rattle.meaning.specs.Bounds.{distinct}
use Rattle.meaning.proofs.Lists.{or_neither, or_second, or_left, or_right, cond_both}

-- no word stands there twice
abbrev pub NoDup : List ℕ → Type 0
NoDup [] = Unit {0}
NoDup (w ∷ ws) = (elem w ws ≡ false) × NoDup ws

-- all words of the second are in the first
abbrev pub Within : List ℕ → List ℕ → Type 0
Within vs us = All (λ (u : ℕ). elem u vs ≡ true) us

-- without x
abbrev remove : ℕ → List ℕ → List ℕ
remove x [] = []
remove x (u ∷ us) = cond (eqb u x) (remove x us) (u ∷ remove x us)

-- what is not in a list is not in what is left of it
elem_remove : (x w : ℕ) (us : List ℕ) → elem w us ≡ false → elem w (remove x us) ≡ false
elem_remove x w [] h = refl
elem_remove x w (u ∷ us) h = go (eqb u x) (or_neither (eqb w u) (elem w us) h) (λ k. elem_remove x w us k)
  where
    go : (c : Bool) → (eqb w u ≡ false) × (elem w us ≡ false) → (elem w us ≡ false → elem w (remove x us) ≡ false) → elem w (cond c (remove x us) (u ∷ remove x us)) ≡ false
    go true k ih = ih k.1
    go false k ih = ap₂ ◌||◌ k.0 (ih k.1)

remove_absent : (x : ℕ) (us : List ℕ) → elem x us ≡ false → remove x us ≡ us
remove_absent x [] h = refl
remove_absent x (u ∷ us) h =
    let k = or_neither (eqb x u) (elem x us) h in
    ap (λ (c : Bool). cond c (remove x us) (u ∷ remove x us)) (ne_eqb u x (λ e. eqb-false x u k.0 (sym e))) ∙ ap (u ∷◌) (remove_absent x us k.1)

nodup_remove : (x : ℕ) (us : List ℕ) → NoDup us → NoDup (remove x us) × (length us ≤ suc (length (remove x us)))
nodup_remove x [] h = (tt, omega arith)
nodup_remove x (u ∷ us) h = go (eqb u x) refl (nodup_remove x us h.1)
  where
    go : (c : Bool) → eqb u x ≡ c → NoDup (remove x us) × (length us ≤ suc (length (remove x us)))
        → NoDup (cond c (remove x us) (u ∷ remove x us)) × (suc (length us) ≤ suc (length (cond c (remove x us) (u ∷ remove x us))))
    go true e ih = (ih.0, rw (remove_absent x us (subst (λ (z : ℕ). elem z us ≡ false) (eqb-true u x e) h.0)) (le_refl _))
    go false e ih = ((elem_remove x u us h.0, ih.0), let l = ih.1 in omega arith)

within_remove : (x : ℕ) (vs us : List ℕ) → Within (x ∷ vs) us → Within vs (remove x us)
within_remove x vs [] h = tt
within_remove x vs (u ∷ us) h = go (eqb u x) refl h.0 (within_remove x vs us h.1)
  where
    go : (c : Bool) → eqb u x ≡ c → (eqb u x || elem u vs) ≡ true → Within vs (remove x us) → Within vs (cond c (remove x us) (u ∷ remove x us))
    go true e k ih = ih
    go false e k ih = (or_second (eqb u x) (elem u vs) e k, ih)

within_drop : (x : ℕ) (vs us : List ℕ) → elem x vs ≡ true → Within (x ∷ vs) us → Within vs us
within_drop x vs [] e h = tt
within_drop x vs (u ∷ us) e h = (go (eqb u x) refl h.0, within_drop x vs us e h.1)
  where
    go : (c : Bool) → eqb u x ≡ c → (eqb u x || elem u vs) ≡ true → elem u vs ≡ true
    go true k l = rw (eqb-true u x k) e
    go false k l = or_second (eqb u x) (elem u vs) k l

pub no_longer : (vs us : List ℕ) → NoDup us → Within vs us → length us ≤ length (distinct vs)
no_longer [] [] n h = le_refl _
no_longer [] (u ∷ us) n h = absurd (false≢true h.0)
no_longer (x ∷ vs) us n h = go (elem x vs) refl (λ ws m k. no_longer vs ws m k)
  where
    go : (c : Bool) → elem x vs ≡ c → ((ws : List ℕ) → NoDup ws → Within vs ws → length ws ≤ length (distinct vs)) → length us ≤ length (cond c (distinct vs) (x ∷ distinct vs))
    go true e ih = ih us n (within_drop x vs us e h)
    go false e ih =
        let r = nodup_remove x us n in
        let l = r.1 in
        let m = ih (remove x us) r.0 (within_remove x vs us h) in
        omega arith

pub distinct_length : (vs : List ℕ) → length (distinct vs) ≤ length vs
distinct_length [] = le_refl _
distinct_length (v ∷ vs) =
    let l = distinct_length vs in
    cond_both (λ (ws : List ℕ). length ws ≤ suc (length vs)) (elem v vs) (distinct vs) (v ∷ distinct vs) (omega arith) (omega arith)

-- ---- a word of one of two lists

pub elem_append : (w : ℕ) (xs ys : List ℕ) → elem w (xs ++ ys) ≡ (elem w xs || elem w ys)
elem_append w [] ys = refl
elem_append w (x ∷ xs) ys = ap (λ (c : Bool). eqb w x || c) (elem_append w xs ys) ∙ sym (or_assoc (eqb w x) (elem w xs) (elem w ys))

pub elem_left : (w : ℕ) (xs ys : List ℕ) → elem w xs ≡ true → elem w (xs ++ ys) ≡ true
elem_left w xs ys h = elem_append w xs ys ∙ or_left (elem w xs) (elem w ys) h

pub elem_right : (w : ℕ) (xs ys : List ℕ) → elem w ys ≡ true → elem w (xs ++ ys) ≡ true
elem_right w xs ys h = elem_append w xs ys ∙ or_right (elem w xs) (elem w ys) h
