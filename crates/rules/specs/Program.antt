-- 01, "Around it": the program lower, from the bytes of its standard input to the bytes that it prints.
-- Assumes nothing: these are definitions.
use Rattle.std.specs.Prelude.{ℕ, zero, suc, ◌+◌, ◌-◌, ◌*◌, ◌/◌, ◌%◌, Bool, true, ◌&&◌, cond, List, [], ◌∷◌, ◌++◌, length, get_or, take, drop, replicate, ltb, leb, eqb}
use Rattle.rules.specs.Words.{limit12, scratch_words, max_lines, signature_base, within}
use Rattle.rules.specs.Refusals.{Res, ok, refuse, ◌>>=◌, demand, bad_line}
use Rattle.rules.specs.Flat.{words_of}
use Rattle.rules.specs.Calls.{Result, lower_words}

-- ---- a line: eight lowercase hexadecimal digits and a line feed

abbrev pub line_feed : ℕ
line_feed = 10

-- 0 to 9 and a to f, by ranges of the byte
abbrev pub is_decimal : ℕ → Bool
is_decimal b = within 48 10 b

abbrev pub is_letter : ℕ → Bool
is_letter b = within 97 6 b

-- the value of a digit; 16 says that it is none
abbrev pub digit : ℕ → ℕ
digit b = cond (is_decimal b) (b - 48) (cond (is_letter b) (b - 87) 16)

abbrev pub are_digits : List ℕ → Bool
are_digits [] = true
are_digits (b ∷ bs) = ltb (digit b) 16 && are_digits bs

-- the number that digits spell behind the number n
abbrev pub spelt : ℕ → List ℕ → ℕ
spelt n [] = n
spelt n (b ∷ bs) = spelt (n * 16 + digit b) bs

-- the word of the line that begins at this index, the line having this number, from 0
abbrev pub line_at : List ℕ → (at line : ℕ) → Res ℕ
line_at input at line =
    let digits = take 8 (drop at input) in
    demand (ltb line max_lines && leb (at + 9) (length input) && are_digits digits && eqb (get_or input (at + 8) 0) line_feed) bad_line (suc line) (spelt 0 digits)

-- n lines, the first one having this number. Every line before it was good, so it begins at nine times its number
abbrev pub lines_from : List ℕ → ℕ → ℕ → Res (List ℕ)
lines_from input zero line = ok []
lines_from input (suc n) line = do
  w ← line_at input (line * 9) line
  ws ← lines_from input n (suc line)
  ok (w ∷ ws)

-- what is left behind the last whole line is a line too
abbrev pub read_lines : List ℕ → Res (List ℕ)
read_lines input = lines_from input ((length input + 8) / 9) 0

-- ---- signature and rule

-- the signature's length, or that of all words if it can't be had
abbrev pub signature_length : List ℕ → ℕ
signature_length ws =
    cond (leb 1 (length ws) && within (signature_base + 1) limit12 (get_or ws 0 0)) (4 + (get_or ws 0 0 - signature_base)) (length ws)

-- counters at zero, no fewer than the heads; output 16,384 words
abbrev pub lower_all : List ℕ → Res Result
lower_all ws =
    let n = signature_length ws in
    lower_words (take n ws) (drop n ws) (replicate n 0) scratch_words scratch_words

-- ---- what is printed

-- a digit's byte
abbrev pub byte_of : ℕ → ℕ
byte_of d = cond (ltb d 10) (48 + d) (87 + d)

-- a word's line: n digits, the highest first
abbrev pub hexadecimal : ℕ → ℕ → List ℕ
hexadecimal zero w = []
hexadecimal (suc n) w = hexadecimal n (w / 16) ++ byte_of (w % 16) ∷ []

abbrev pub word_line : ℕ → List ℕ
word_line w = hexadecimal 8 w ++ line_feed ∷ []

-- the digits of a number in front of what follows, at most n of them
abbrev pub decimal_up_to : ℕ → ℕ → List ℕ → List ℕ
decimal_up_to zero k rest = rest
decimal_up_to (suc n) k rest =
    let one = byte_of k ∷ rest in
    let more = decimal_up_to n (k / 10) (byte_of (k % 10) ∷ rest) in
    cond (ltb k 10) one more

-- a space and a number; no number of 64 bits has more than twenty digits
abbrev pub spaced : ℕ → List ℕ
spaced k = 32 ∷ decimal_up_to 20 k []

-- `ok W R P` and the words, or `refused N P`
abbrev pub printed : Res Result → List ℕ
printed (ok r) =
    111 ∷ 107 ∷ spaced (length r.words) ++ spaced r.replacements ++ spaced r.passes ++ line_feed ∷ words_of word_line r.words
printed (refuse n p) = 114 ∷ 101 ∷ 102 ∷ 117 ∷ 115 ∷ 101 ∷ 100 ∷ spaced n ++ spaced p ++ line_feed ∷ []

unfoldable pub program : List ℕ → List ℕ
program input =
    printed
    (do
      ws ← read_lines input
      lower_all ws)
