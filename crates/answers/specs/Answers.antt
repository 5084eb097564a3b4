-- 01, "Turned back" and "Around it": the answer of a call, and what it leaves, by the definition's outcome.
-- Assumes nothing: these are definitions.
use Rattle.std.specs.Prelude.{ℕ, ◌*◌, ◌≡◌, List, length, drop, Result, Ok, Err}
use Rattle.octets.specs.Words.{words}
use Rattle.rules.specs.Calls.{Outcome}
use Rattle.refusals.specs.Numbers.{number_of}
use Rattle.refusals.specs.declared.Refusal.{Refusal}
use Rattle.answers.specs.declared.Answer.{Answer}
use Rattle.answers.specs.declared.Counts.{Counts}

abbrev pub refused_with : (number place : ℕ) → Answer
refused_with n p = record { number = n; place = p; words = 0; replacements = 0; passes = 0 }

abbrev pub answer_of : Outcome → Answer
answer_of o = record { number = o.number; place = o.place; words = o.written; replacements = o.replacements; passes = o.passes }

-- a refusal is answered by its number and place, with no counts, and a result by 0 and its three counts
abbrev pub answered : Result Counts Refusal → Answer
answered (Ok c) = record { number = 0; place = 0; words = c.words; replacements = c.replacements; passes = c.passes }
answered (Err r) = refused_with (number_of r.reason) r.place

-- the answer is the outcome's, and so are the bytes of the output
pub record Gives (o : Outcome) (r : Answer) (output : List ℕ) : Type 0 where
  pub answer : r ≡ answer_of o
  pub writes : output ≡ o.output

-- and so are the bytes of the counters
pub record GivesBoth (o : Outcome) (r : Answer) (output counters : List ℕ) : Type 0 where
  pub answer : r ≡ answer_of o
  pub writes : output ≡ o.output
  pub counts : counters ≡ o.counters

-- the bytes of scratch that a call may touch: 32 words for each word of a written rule, 16 for each of a flat one
abbrev pub scratch_written : (rule : List ℕ) → ℕ
scratch_written rule = 128 * length (words rule)

abbrev pub scratch_flat : (rule : List ℕ) → ℕ
scratch_flat rule = 64 * length (words rule)

-- all behind the first n bytes is as it was, whatever the call answers
abbrev pub Beyond : (n : ℕ) → (before after : List ℕ) → Type 0
Beyond n before after = drop n after ≡ drop n before
