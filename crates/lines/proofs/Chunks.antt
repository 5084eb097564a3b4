-- The text in chunks of nine bytes: each is the line at its place, and the last may be short. Assumes nothing.
use mathlib.Core.Path.{◌≡◌, refl, sym, ap, ◌∙◌}
use mathlib.Core.List.{List, [], ◌∷◌, ◌++◌, append-nil}
use mathlib.Core.Bool.{Bool, true, false, ◌&&◌}
use Prim.Native.Nat.{ℕ, suc, ◌+◌, ◌-◌, ◌*◌, ◌≤◌, ◌<◌, min}
use native.Mathlib.Omega.{arith}
use lib.ListN.{length, get_or, take, drop, length-append, length-drop}
use lib.Dec.{ltb, leb, eqb}
use lib.Seq.{take_at, take_all, drop_at, drop-drop, take-take, get_or-take, get_or-drop}
use borrow.Author.Tests.{leb-true, leb-false, le-leb, lt-leb}
use Rattle.rules.specs.Words.{max_lines}
use Rattle.rules.specs.Refusals.{demand, bad_line}
use Rattle.rules.specs.Program.{are_digits, spelt, line_feed, line_at}

-- what comes off the front
taken : (n : ℕ) (xs ys zs : List ℕ) → xs ≡ ys ++ zs → length ys ≡ min n (length xs) → ys ≡ take n xs
taken n xs ys zs cut size = go (leb n (length xs)) refl
  where
    go : (b : Bool) → leb n (length xs) ≡ b → ys ≡ take n xs
    go true e =
        let all : length ys ≡ n = omega (arith, leb-true n (length xs) e) in
        sym (ap (take n) cut ∙ take_at ys zs n all)
    go false e =
        let short : length xs < n = leb-false n (length xs) e in
        let none : length zs ≡ 0 = omega (arith, ap length cut, length-append ys zs) in
        let whole : ys ++ zs ≡ ys = nil zs none in
        sym (take_all n xs (omega arith) ∙ cut ∙ whole)
      where
        nil : (zs : List ℕ) → length zs ≡ 0 → ys ++ zs ≡ ys
        nil [] h = append-nil ys
        nil (z ∷ zs) h = absurd (omega arith)

-- what is left of the input begins with line k, and the chunk x comes off it
pub record Chunk (input : List ℕ) (k : ℕ) (rest x rest' : List ℕ) : Type 0 where
  pub begins : rest ≡ drop (k * 9) input
  pub cut : rest ≡ x ++ rest'
  pub size : length x ≡ min 9 (length rest)
  pub some : 0 < length rest

module _ {input rest x rest' : List ℕ} {k : ℕ} (c : Chunk input k rest x rest') where
  is : x ≡ take 9 (drop (k * 9) input)
  is = taken 9 rest x rest' c.cut c.size ∙ ap (take 9) c.begins

  left : length rest ≡ length input - k * 9
  left = ap length c.begins ∙ length-drop (k * 9) input

  pub chunk_there : k * 9 < length input
  chunk_there = omega (arith, left, c.some)

  pub chunk_next : k * 9 + 9 ≤ length input → rest' ≡ drop ((k + 1) * 9) input
  chunk_next h =
      let nine : length x ≡ 9 = omega (arith, left, c.size) in
      let place : k * 9 + 9 ≡ (k + 1) * 9 = omega arith in
      sym (ap (drop 9) c.cut ∙ drop_at x rest' 9 nine) ∙ ap (drop 9) c.begins ∙ drop-drop 9 (k * 9) input ∙ ap (λ (n : ℕ). drop n input) place

  whole : leb 9 (length x) ≡ leb (k * 9 + 9) (length input)
  whole = go (leb (k * 9 + 9) (length input)) refl
    where
      go : (b : Bool) → leb (k * 9 + 9) (length input) ≡ b → leb 9 (length x) ≡ b
      go true e = le-leb 9 (length x) (omega (arith, left, c.size, leb-true (k * 9 + 9) (length input) e))
      go false e = lt-leb 9 (length x) (omega (arith, left, c.size, leb-false (k * 9 + 9) (length input) e))

  digits : take 8 (drop 0 x) ≡ take 8 (drop (k * 9) input)
  digits = ap (take 8) is ∙ take-take 8 9 (drop (k * 9) input) (omega arith)

  feed : get_or x 8 0 ≡ get_or input (k * 9 + 8) 0
  feed = ap (λ (l : List ℕ). get_or l 8 0) is ∙ get_or-take 9 (drop (k * 9) input) 8 0 (omega arith) ∙ get_or-drop (k * 9) input 8 0

  -- the chunk says what the line says
  pub chunk_line : line_at x 0 k ≡ line_at input (k * 9) k
  chunk_line =
      λ j. demand (ltb k max_lines && whole j && are_digits (digits j) && eqb (feed j) line_feed) bad_line (suc k) (spelt 0 (digits j))
