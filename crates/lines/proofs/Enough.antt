-- The program's buffer is large enough: what lies behind its last byte changes nothing that is printed. Assumes nothing.
use mathlib.Core.Path.{◌≡◌, refl, sym, ap, ◌∙◌}
use mathlib.Core.List.{List, ◌∷◌}
use mathlib.Core.Bool.{Bool, true, false, ◌&&◌}
use Prim.Native.Nat.{ℕ, zero, suc, ◌+◌, ◌-◌, ◌*◌, ◌/◌, ◌≤◌, ◌<◌}
use native.Mathlib.Omega.{arith}
use lib.ListN.{length, get_or, take}
use lib.Seq.{take_all, length-take-le, get_or-take, ext_get_or}
use lib.Dec.{ltb, leb, eqb}
use borrow.Author.Tests.{leb-true, leb-false, le-ltb, le-leb}
use Rattle.octets.specs.Regions.{part}
use Rattle.octets.proofs.Splice.{length_part, get_d_part}
use Rattle.rules.specs.Words.{max_lines}
use Rattle.rules.specs.Refusals.{Res, ok, refuse, ◌>>=◌, demand, bad_line}
use Rattle.rules.specs.Program.{are_digits, spelt, line_feed, lines_from, read_lines, lower_all, printed, program}
use Rattle.lines.specs.Reading.{input_bytes}
use Rattle.lines.proofs.AllLines.{word_at, is_good, line_bad}

-- a line beyond the last that is read
line_beyond : (l : List ℕ) (n line : ℕ) → max_lines ≤ line → lines_from l (suc n) line ≡ refuse bad_line (suc line)
line_beyond l n line h = line_bad l n line (rw (le-ltb line max_lines h))

-- an input that fills the buffer: m is what the buffer holds
module _ (input m : List ℕ) (is : m ≡ take input_bytes input) (long : input_bytes ≤ length input) where
  size : length m ≡ input_bytes
  size = ap length is ∙ length-take-le input_bytes input long

  same_byte : (i : ℕ) → i < input_bytes → get_or m i 0 ≡ get_or input i 0
  same_byte i h = ap (λ (l : List ℕ). get_or l i 0) is ∙ get_or-take input_bytes input i 0 h

  same_part : (p n : ℕ) → p + n ≤ input_bytes → part m p n ≡ part input p n
  same_part p n h =
      let a : length (part m p n) ≡ n = length_part m p n (omega (arith, size)) in
      let b : length (part input p n) ≡ n = length_part input p n (omega arith) in
      ext_get_or 0 (part m p n) (part input p n) (a ∙ sym b) (λ i k. go i k a)
    where
      go : (i : ℕ) → i < length (part m p n) → length (part m p n) ≡ n → get_or (part m p n) i 0 ≡ get_or (part input p n) i 0
      go i k a =
          let j : i < n = omega arith in
          get_d_part m p n i j ∙ same_byte (p + i) (omega arith) ∙ sym (get_d_part input p n i j)

  same_good : (line : ℕ) → line < max_lines → is_good m line ≡ is_good input line
  same_good line h =
      let digits = same_part (line * 9) 8 (omega arith) in
      let feed = same_byte (line * 9 + 8) (omega arith) in
      let whole : leb (line * 9 + 9) (length m) ≡ leb (line * 9 + 9) (length input) =
      le-leb (line * 9 + 9) (length m) (omega (arith, size)) ∙ sym (le-leb (line * 9 + 9) (length input) (omega arith)) in
      λ j. ltb line max_lines && whole j && are_digits (digits j) && eqb (feed j) line_feed

  same_word : (line : ℕ) → line < max_lines → word_at m line ≡ word_at input line
  same_word line h = ap (spelt 0) (same_part (line * 9) 8 (omega arith))

  -- the buffer's n lines that are left, and one too many; the input has `more` behind them
  same_lines : (n more line : ℕ) → line + n ≡ max_lines → lines_from m (suc n) line ≡ lines_from input (suc (n + more)) line
  same_lines zero more line e = line_beyond m zero line (omega arith) ∙ sym (line_beyond input (zero + more) line (omega arith))
  same_lines (suc n) more line e =
      let rest = same_lines n more (suc line) (omega arith) in
      let count : suc (n + more) ≡ suc n + more = omega arith in
      let good = same_good line (omega arith) in
      let word = same_word line (omega arith) in
      (λ j. ◌>>=◌ (demand (good j) bad_line (suc line) (word j)) (λ (w : ℕ). ◌>>=◌ (rest j) (λ (ws : List ℕ). ok (w ∷ ws)))) ∙ ap (λ (k : ℕ). lines_from input (suc k) line) count

  -- the count of lines stays a sum of lengths: a numeral there would be unfolded line by line
  read_long : read_lines m ≡ read_lines input
  read_long =
      let n : ℕ = (length m + 8) / 9 - 1 in
      let more : ℕ = (length input + 8) / 9 - (length m + 8) / 9 in
      let here : (length m + 8) / 9 ≡ suc n = omega (arith, size) in
      let there : suc (n + more) ≡ (length input + 8) / 9 = omega (arith, size) in
      ap (λ (k : ℕ). lines_from m k 0) here ∙ same_lines n more 0 (omega (arith, size)) ∙ ap (λ (k : ℕ). lines_from input k 0) there

pub read_enough : (input : List ℕ) → read_lines (take input_bytes input) ≡ read_lines input
read_enough input = go (leb (length input) input_bytes) refl
  where
    go : (b : Bool) → leb (length input) input_bytes ≡ b → read_lines (take input_bytes input) ≡ read_lines input
    go true e = ap read_lines (take_all input_bytes input (leb-true (length input) input_bytes e))
    go false e =
        let long : input_bytes < length input = leb-false (length input) input_bytes e in
        read_long input (take input_bytes input) refl (omega arith)

pub program_enough : (input : List ℕ) → program (take input_bytes input) ≡ program input
unfolding program
program_enough input = ap (λ (r : Res (List ℕ)). printed (◌>>=◌ r lower_all)) (read_enough input)
