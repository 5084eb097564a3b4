-- Laws of the words of a row of atoms or actions, of leaves and of kind 3 words. Assumes nothing.
use mathlib.Core.Path.{◌≡◌, refl, sym, ap, ◌∙◌}
use mathlib.Core.List.{List, [], ◌∷◌, ◌++◌, append_assoc, append-nil}
use mathlib.Core.Bool.{Bool, true, false}
use Prim.Native.Nat.{ℕ, ◌+◌, ◌-◌, ◌≤◌, ◌<◌}
use native.Mathlib.Nat.{div-add-mod'}
use native.Mathlib.Omega.{arith}
use lib.Dec.{leb}
use borrow.Author.Tests.{leb-true, leb-false}
use Rattle.rules.specs.Words.{limit16, literal_base, head_base, head_word, head_of, count_of}
use Rattle.rules.specs.Flat.{words_of}
use Rattle.words.specs.declared.HeadWord.{HeadWord}

pub words_append : {A : Type 0} (f : A → List ℕ) (xs ys : List A) → words_of f (xs ++ ys) ≡ words_of f xs ++ words_of f ys
words_append f [] ys = refl
words_append f (x ∷ xs) ys = ap (λ (l : List ℕ). f x ++ l) (words_append f xs ys) ∙ sym (append_assoc (f x) (words_of f xs) (words_of f ys))

-- one more at the end
pub words_one : {A : Type 0} (f : A → List ℕ) (xs : List A) (y : A) → words_of f (xs ++ y ∷ []) ≡ words_of f xs ++ f y
words_one f xs y = words_append f xs (y ∷ []) ∙ ap (λ (l : List ℕ). words_of f xs ++ l) (append-nil (f y))

-- what the test of a leaf tells, either way
pub leaf_high : {w : ℕ} {b : Bool} → b ≡ leb literal_base w → b ≡ true → literal_base ≤ w
leaf_high {w} is said = leb-true literal_base w (sym is ∙ said)

pub call_low : {w : ℕ} {b : Bool} → b ≡ leb literal_base w → b ≡ false → w < literal_base
call_low {w} is said = leb-false literal_base w (sym is ∙ said)

-- of kind 3 words taken apart: the heads and the counts of equal ones are equal
pub head_says : {q p : HeadWord} → q ≡ p → q.head ≡ p.head
head_says is = ap (λ (q : HeadWord). q.head) is

pub count_says : {q p : HeadWord} → q ≡ p → q.count ≡ p.count
count_says is = ap (λ (q : HeadWord). q.count) is

-- a kind 3 word by its head and its count
pub head_word_lem : (w : ℕ) → head_base ≤ w → w ≡ head_word (head_of w) (count_of w)
head_word_lem w h =
    let q = div-add-mod' (w - head_base) limit16 in
    let e : w ≡ head_base + (w - head_base) = omega arith in
    omega (arith, q)
