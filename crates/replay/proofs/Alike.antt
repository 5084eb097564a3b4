-- Comparing: bytes are alike up to the first that is not, and where nothing differs the call gave what the case has. Assumes nothing.
use mathlib.Core.Path.{◌≡◌, refl, ap}
use mathlib.Core.Bool.{Bool, true, false, cond}
use mathlib.Core.List.{List, [], ◌∷◌}
use Prim.Native.Nat.{ℕ, suc, ◌+◌}
use native.Mathlib.Omega.{arith}
use lib.ListN.{length, take}
use lib.Dec.{eqb}
use borrow.Author.Tests.{eqb-true}
use Rattle.std.specs.List.{zip, prefix_len}
use Rattle.answers.specs.declared.Answer.{Answer}
use Rattle.replay.specs.Differences.{differ, alike, bytes_differ, calls_differ}

-- ---- the search for the first byte that is not alike

-- the pairs of bytes at the front that are alike
pub alike_is : (xs ys : List ℕ) → prefix_len (λ (p : ℕ × ℕ). eqb p.0 p.1) (zip xs ys) ≡ alike xs ys
unfolding alike
alike_is [] ys = refl
alike_is (x ∷ xs) [] = refl
alike_is (x ∷ xs) (y ∷ ys) =
    let more : 1 + prefix_len (λ (p : ℕ × ℕ). eqb p.0 p.1) (zip xs ys) ≡ suc (alike xs ys) = omega (arith, alike_is xs ys) in
    ap (λ (n : ℕ). cond (eqb x y) n 0) more

-- ---- where nothing differs

differ_none : (a b : ℕ) → differ a b ≡ 0 → a ≡ b
differ_none a b h = go (eqb a b) refl h
  where
    go : (t : Bool) → eqb a b ≡ t → ◌≡◌ {A = ℕ} (cond t 0 1) 0 → a ≡ b
    go true e h = eqb-true a b e
    go false e h = absurd (omega arith)

alike_all : (xs ys : List ℕ) → alike xs ys ≡ length xs → xs ≡ take (length xs) ys
unfolding alike
alike_all [] ys h = refl
alike_all (x ∷ xs) [] h = absurd (omega arith)
alike_all (x ∷ xs) (y ∷ ys) h = go (eqb x y) refl h (alike_all xs ys)
  where
    go : (t : Bool) → eqb x y ≡ t → ◌≡◌ {A = ℕ} (cond t (suc (alike xs ys)) 0) (suc (length xs)) → (alike xs ys ≡ length xs → xs ≡ take (length xs) ys)
        → x ∷ xs ≡ y ∷ take (length xs) ys
    go true e h rest =
        let all : alike xs ys ≡ length xs = omega arith in
        λ i. eqb-true x y e i ∷ rest all i
    go false e h rest = absurd (omega arith)

bytes_same : (xs ys : List ℕ) → bytes_differ xs ys ≡ 0 → xs ≡ take (length xs) ys
bytes_same xs ys h = alike_all xs ys (differ_none (alike xs ys) (length xs) h)

-- a case in which nothing differs has the very answer, output and counters that the call gave
pub calls_same : (a b : Answer) (o o' c c' : List ℕ) → calls_differ a b o o' c c' ≡ 0 → (a ≡ b) × (o ≡ take (length o) o') × (c ≡ take (length c) c')
calls_same a b o o' c c' h =
    let number = differ_none a.number b.number (omega arith) in
    let place = differ_none a.place b.place (omega arith) in
    let words = differ_none a.words b.words (omega arith) in
    let replacements = differ_none a.replacements b.replacements (omega arith) in
    let passes = differ_none a.passes b.passes (omega arith) in (
      λ i. record { number = number i; place = place i; words = words i; replacements = replacements i; passes = passes i },
      bytes_same o o' (omega arith),
      bytes_same c c' (omega arith),
    )
