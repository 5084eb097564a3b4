-- Laws of lists and tests that several files share. Assumes nothing.
use mathlib.Core.Path.{ap₂}
use mathlib.Core.Bool.{◌&&◌}
use lib.Dec.{eqb}
use borrow.Author.Tests.{eqb-true, eq-eqb}
use Rattle.rules.specs.Signature.{same_terms}
use Prim.Native.Nat.{ℕ, ◌+◌, ◌*◌, ◌≤◌}
use native.Mathlib.Omega.{arith}
use mathlib.Core.Path.{◌≡◌, refl, sym, ◌∙◌, ap}
use mathlib.Core.Bool.{Bool, true, false, ◌||◌, cond, false≢true}
use mathlib.Core.List.{List, [], ◌∷◌, ◌++◌, map, append_assoc}
use lib.ListN.{length, length-append}
use Rattle.rules.specs.Flat.{words_of}
pub use Rattle.rules.proofs.Tests.{and_left, and_right}
use Rattle.meaning.specs.Meaning.{All}

-- ---- tests

pub or_neither : (a b : Bool) → (a || b) ≡ false → (a ≡ false) × (b ≡ false)
or_neither true b e = absurd (false≢true (sym e))
or_neither false b e = (refl, e)

-- the second of two, where the first is not
pub or_second : (a b : Bool) → a ≡ false → (a || b) ≡ true → b ≡ true
or_second true b e k = absurd (false≢true (sym e))
or_second false b e k = k

pub or_left : (a b : Bool) → a ≡ true → (a || b) ≡ true
or_left a b e = ap (λ (c : Bool). c || b) e

pub or_right : (a b : Bool) → b ≡ true → (a || b) ≡ true
or_right true b e = refl
or_right false b e = e

-- what both branches have
pub cond_both : {A : Type 0} (P : A → Type 0) (b : Bool) (x y : A) → P x → P y → P (cond b x y)
cond_both P true x y h k = h
cond_both P false x y h k = k

-- ---- a property of each

module _ {A : Type 0} (P : A → Type 0) where
  pub all_append : (xs ys : List A) → All P xs → All P ys → All P (xs ++ ys)
  all_append [] ys h k = k
  all_append (x ∷ xs) ys h k = (h.0, all_append xs ys h.1 k)

  pub all_left : (xs ys : List A) → All P (xs ++ ys) → All P xs
  all_left [] ys h = tt
  all_left (x ∷ xs) ys h = (h.0, all_left xs ys h.1)

  pub all_right : (xs ys : List A) → All P (xs ++ ys) → All P ys
  all_right [] ys h = h
  all_right (x ∷ xs) ys h = all_right xs ys h.1

pub all_map : {A : Type 0} (P Q : A → Type 0) → ((x : A) → P x → Q x) → (xs : List A) → All P xs → All Q xs
all_map P Q f [] h = tt
all_map P Q f (x ∷ xs) h = (f x h.0, all_map P Q f xs h.1)

-- ---- appending

pub map_append : {A B : Type 0} (f : A → B) (xs ys : List A) → map f (xs ++ ys) ≡ map f xs ++ map f ys
map_append f [] ys = refl
map_append f (x ∷ xs) ys = ap (λ l. f x ∷ l) (map_append f xs ys)

module _ {A : Type 0} (f : A → List ℕ) where
  pub words_append : (xs ys : List A) → words_of f (xs ++ ys) ≡ words_of f xs ++ words_of f ys
  words_append [] ys = refl
  words_append (x ∷ xs) ys = ap (λ (l : List ℕ). f x ++ l) (words_append xs ys) ∙ sym (append_assoc (f x) (words_of f xs) (words_of f ys))

  -- the number of words of two lists
  pub length_words_append : (xs ys : List A) → length (words_of f (xs ++ ys)) ≡ length (words_of f xs) + length (words_of f ys)
  length_words_append xs ys = ap length (words_append xs ys) ∙ length-append (words_of f xs) (words_of f ys)

  -- where each has k words or more
  pub length_words : (k : ℕ) → ((x : A) → k ≤ length (f x)) → (xs : List A) → k * length xs ≤ length (words_of f xs)
  length_words k h [] = omega arith
  length_words k h (x ∷ xs) = omega (arith, h x, length_words k h xs, length-append (f x) (words_of f xs))

pub same_terms_lem : (xs ys : List ℕ) → same_terms xs ys ≡ true → xs ≡ ys
same_terms_lem [] [] e = refl
same_terms_lem [] (y ∷ ys) e = absurd (false≢true e)
same_terms_lem (x ∷ xs) [] e = absurd (false≢true e)
same_terms_lem (x ∷ xs) (y ∷ ys) e =
    ap₂ ◌∷◌ (eqb-true x y (and_left (eqb x y) (same_terms xs ys) e)) (same_terms_lem xs ys (and_right (eqb x y) (same_terms xs ys) e))

pub terms_same : (xs : List ℕ) → same_terms xs xs ≡ true
terms_same [] = refl
terms_same (x ∷ xs) = ap₂ ◌&&◌ (eq-eqb x x refl) (terms_same xs)
