-- What differs between a case's answer and what a call gave: 01 has no such thing, and these definitions are there so that the comparison itself is
-- proved. Assumes nothing: these are definitions.
use Rattle.std.specs.Prelude.{ℕ, suc, ◌+◌, cond, List, [], ◌∷◌, length, eqb}
use Rattle.answers.specs.declared.Answer.{Answer}

-- two numbers differ in one thing, or in none
abbrev pub differ : (found expected : ℕ) → ℕ
differ a b = cond (eqb a b) 0 1

-- how many bytes are alike, up to the first that is not
unfoldable pub alike : (found expected : List ℕ) → ℕ
alike [] ys = 0
alike (x ∷ xs) [] = 0
alike (x ∷ xs) (y ∷ ys) = cond (eqb x y) (suc (alike xs ys)) 0

-- bytes differ in one thing, unless all that were found are alike
abbrev pub bytes_differ : (found expected : List ℕ) → ℕ
bytes_differ xs ys = differ (alike xs ys) (length xs)

-- the five numbers of an answer: 01's number and place, and the counts
abbrev pub answers_differ : (found expected : Answer) → ℕ
answers_differ a b =
    differ a.number b.number + differ a.place b.place + differ a.words b.words + differ a.replacements b.replacements + differ a.passes b.passes

-- all that a call leaves: its answer, its output and its counters
abbrev pub calls_differ : (found expected : Answer) (output outputExpected counters countersExpected : List ℕ) → ℕ
calls_differ a b o o' c c' = answers_differ a b + bytes_differ o o' + bytes_differ c c'
