-- 01, "Around it" and "Turned back", number 13: what the reader of lines answers and writes, by cases of `read_lines`.
-- Assumes nothing: these are definitions.
use Rattle.std.specs.Prelude.{Option, Some, None, Result, IfOk, IfErr, ◌≡◌, List, [], ◌∷◌, ◌++◌, ℕ, zero, suc, ◌+◌, ◌-◌, ◌*◌, ◌≤◌, length}
use Rattle.octets.specs.Regions.{splice, part}
use Rattle.rules.specs.Words.{max_lines}
use Rattle.rules.specs.Refusals.{Res, ok, refuse, demand, bad_line}
use Rattle.rules.specs.Program.{are_digits, spelt, read_lines}
use Rattle.refusals.specs.Numbers.{said, told}
use Rattle.refusals.specs.declared.Reason.TheVariants.{BadLine}
use Rattle.refusals.specs.declared.Refusal.{Refusal}

-- ---- a line

-- what stands in the place of a line, for each case: its word, or refusal 13 with the line's number. Lines are counted from 0 here, and from 1 in refusals
abbrev pub line_says : Option ℕ → (line : ℕ) → Res ℕ
line_says (Some w) line = ok w
line_says None line = refuse bad_line (suc line)

-- the word that the bytes of a line spell, if they are digits
abbrev pub spelling : List ℕ → (line : ℕ) → Res ℕ
spelling bs line = demand (are_digits bs) bad_line (suc line) (spelt 0 bs)

-- ---- all lines

-- what the first n lines spell
abbrev pub first_words : List ℕ → ℕ → List ℕ
first_words input zero = []
first_words input (suc n) = first_words input n ++ (spelt 0 (part input (n * 9) 8) ∷ [])

-- all words; or, at a refusal, those of the lines before its place
abbrev pub stored : List ℕ → Res (List ℕ) → List ℕ
stored input (ok ws) = ws
stored input (refuse n p) = first_words input (p - 1)

-- the answer, and the words of the output before and after; and for what comes next, that the answer's numbers are small
pub record LinesRead (input before after : List ℕ) (r : Result ℕ Refusal) : Type 0 where
  pub answers : said r ≡ told length (read_lines input)
  pub writes : after ≡ splice before 0 (stored input (read_lines input))
  pub known : IfErr r (λ e. e.reason ≡ BadLine)
  pub few : IfOk r (λ n. n ≤ max_lines)
  pub near : IfErr r (λ e. e.place ≤ max_lines + 1)

-- ---- the program's buffer

-- the bytes of all lines that are read, and one more, which tells that there is a line too many
abbrev pub input_bytes : ℕ
input_bytes = max_lines * 9 + 1
