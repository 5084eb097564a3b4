-- The laws of `same_term`, the one test of equal terms. What is proved of settling uses these laws alone and not what the test computes to, so that
-- another equality of literals would do: an equivalence, by which a variable equals itself only, and equal terms have one value. More than the laws
-- say is used by the function that decides the test and by the keys of atoms, both in crates/bodies.
-- Assumes nothing.
use Prim.Native.Nat.{ℕ, zero, suc}
use mathlib.Core.Path.{◌≡◌, refl, sym, ◌∙◌, ap, ap₂}
use mathlib.Core.Bool.{Bool, true, false, cond, ◌&&◌, false≢true}
use mathlib.Core.List.{List, [], ◌∷◌, ◌++◌, map}
use lib.ListN.{length, get_or}
use lib.Dec.{eqb}
use borrow.Author.Tests.{eqb-true, eqb-false, eq-eqb, ne_eqb}
use Rattle.rules.specs.Signature.{Sig, is_var, same_term, same_terms}
use Rattle.rules.specs.Canonicalize.{Replacement, replace_term}
use Rattle.meaning.specs.Meaning.{World, val}
use Rattle.meaning.proofs.Lists.{and_left, and_right}

-- ---- the laws: these see what the test computes to, and nothing below them does so

pub same_refl : (a : ℕ) → same_term a a ≡ true
same_refl a = eq-eqb a a refl

pub same_sym : (a b : ℕ) → same_term a b ≡ same_term b a
same_sym a b = go (eqb a b) refl
  where
    go : (c : Bool) → eqb a b ≡ c → c ≡ eqb b a
    go true e = sym (eq-eqb b a (sym (eqb-true a b e)))
    go false e = sym (ne_eqb b a (λ q. eqb-false a b e (sym q)))

pub same_trans : (a b c : ℕ) → same_term a b ≡ true → same_term b c ≡ true → same_term a c ≡ true
same_trans a b c e f = eq-eqb a c (eqb-true a b e ∙ eqb-true b c f)

-- on a variable it is equality of words
pub same_var : (s : Sig) (a b : ℕ) → is_var s a ≡ true → same_term a b ≡ eqb a b
same_var s a b v = refl

-- equal terms have one value
pub same_value : {D : Type 0} (s : Sig) (W : World D) (σ : ℕ → D) (a b : ℕ) → same_term a b ≡ true → val s W σ a ≡ val s W σ b
same_value s W σ a b e = ap (val s W σ) (eqb-true a b e)

-- ---- what follows for two terms

-- words that are equal are equal terms
pub word_same : (a b : ℕ) → a ≡ b → same_term a b ≡ true
word_same a b e = ap (same_term a) (sym e) ∙ same_refl a

-- terms that are unequal are unequal words
pub other_word : (a b : ℕ) → same_term a b ≡ false → a ≡ b → ⊥
other_word a b e q = false≢true (sym e ∙ word_same a b q)

-- a term that equals a variable is that variable
pub same_as_var : (s : Sig) (a b : ℕ) → is_var s b ≡ true → same_term a b ≡ true → a ≡ b
same_as_var s a b v e = sym (eqb-true b a (sym (same_var s b a v) ∙ same_sym b a ∙ e))

-- terms that equal a third are equal
pub same_joined : (a b c : ℕ) → same_term a c ≡ true → same_term b c ≡ true → same_term a b ≡ true
same_joined a b c e f = same_trans a c b e (same_sym c b ∙ f)

-- equal terms stay so where a variable is replaced: either none of the two is that variable, or both are
pub same_replaced : (s : Sig) (r : Replacement) → is_var s r.old ≡ true
    → (a b : ℕ) → same_term a b ≡ true → same_term (replace_term r a) (replace_term r b) ≡ true
same_replaced s r v a b e = go (eqb a r.old) refl (eqb b r.old) refl
  where
    both : a ≡ b → same_term (replace_term r a) (replace_term r b) ≡ true
    both q = word_same (replace_term r a) (replace_term r b) (ap (replace_term r) q)

    go : (c : Bool) → eqb a r.old ≡ c → (d : Bool) → eqb b r.old ≡ d → same_term (replace_term r a) (replace_term r b) ≡ true
    go true p d q = both (sym (same_as_var s b a (ap (is_var s) (eqb-true a r.old p) ∙ v) (same_sym b a ∙ e)))
    go false p true q = both (same_as_var s a b (ap (is_var s) (eqb-true b r.old q) ∙ v) e)
    go false p false q = ap₂ (λ (c d : Bool). same_term (cond c r.new a) (cond d r.new b)) p q ∙ e

-- ---- lists of terms

pub terms_length : (xs ys : List ℕ) → same_terms xs ys ≡ true → length xs ≡ length ys
terms_length [] [] e = refl
terms_length [] (y ∷ ys) e = absurd (false≢true e)
terms_length (x ∷ xs) [] e = absurd (false≢true e)
terms_length (x ∷ xs) (y ∷ ys) e = ap suc (terms_length xs ys (and_right (same_term x y) (same_terms xs ys) e))

-- their values are one list
pub terms_values : {D : Type 0} (s : Sig) (W : World D) (σ : ℕ → D) (xs ys : List ℕ) → same_terms xs ys ≡ true → map (val s W σ) xs ≡ map (val s W σ) ys
terms_values s W σ [] [] e = refl
terms_values s W σ [] (y ∷ ys) e = absurd (false≢true e)
terms_values s W σ (x ∷ xs) [] e = absurd (false≢true e)
terms_values s W σ (x ∷ xs) (y ∷ ys) e =
    ap₂ ◌∷◌ (same_value s W σ x y (and_left (same_term x y) (same_terms xs ys) e)) (terms_values s W σ xs ys (and_right (same_term x y) (same_terms xs ys) e))

-- lists that equal a third are equal
pub terms_joined : (xs ys zs : List ℕ) → same_terms xs zs ≡ true → same_terms ys zs ≡ true → same_terms xs ys ≡ true
terms_joined [] [] zs e f = refl
terms_joined [] (y ∷ ys) [] e f = absurd (false≢true f)
terms_joined [] (y ∷ ys) (z ∷ zs) e f = absurd (false≢true e)
terms_joined (x ∷ xs) [] [] e f = absurd (false≢true e)
terms_joined (x ∷ xs) [] (z ∷ zs) e f = absurd (false≢true f)
terms_joined (x ∷ xs) (y ∷ ys) [] e f = absurd (false≢true e)
terms_joined (x ∷ xs) (y ∷ ys) (z ∷ zs) e f =
    ap₂ ◌&&◌ (same_joined x y z (and_left (same_term x z) (same_terms xs zs) e) (and_left (same_term y z) (same_terms ys zs) f))
    (terms_joined xs ys zs (and_right (same_term x z) (same_terms xs zs) e) (and_right (same_term y z) (same_terms ys zs) f))

-- behind equal terms the others decide
pub terms_append : (xs ys us vs : List ℕ) → same_terms xs ys ≡ true → same_terms (xs ++ us) (ys ++ vs) ≡ same_terms us vs
terms_append [] [] us vs e = refl
terms_append [] (y ∷ ys) us vs e = absurd (false≢true e)
terms_append (x ∷ xs) [] us vs e = absurd (false≢true e)
terms_append (x ∷ xs) (y ∷ ys) us vs e =
    ap₂ ◌&&◌ (and_left (same_term x y) (same_terms xs ys) e) (terms_append xs ys us vs (and_right (same_term x y) (same_terms xs ys) e))

-- each is equal to the other's at its place
pub terms_at_lem : (xs ys : List ℕ) → same_terms xs ys ≡ true → (i : ℕ) → same_term (get_or xs i 0) (get_or ys i 0) ≡ true
terms_at_lem [] [] e i = same_refl 0
terms_at_lem [] (y ∷ ys) e i = absurd (false≢true e)
terms_at_lem (x ∷ xs) [] e i = absurd (false≢true e)
terms_at_lem (x ∷ xs) (y ∷ ys) e zero = and_left (same_term x y) (same_terms xs ys) e
terms_at_lem (x ∷ xs) (y ∷ ys) e (suc i) = terms_at_lem xs ys (and_right (same_term x y) (same_terms xs ys) e) i
