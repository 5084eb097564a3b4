-- 01, "Turned back": what the answer of a call, and the words of its output, tell of a result. Assumes nothing: these are definitions.
use Rattle.std.specs.Prelude.{◌≡◌, List, ℕ, ◌≤◌, ◌<◌, length}
use Rattle.octets.specs.Regions.{part}
use Rattle.rules.specs.Refusals.{Res, ok, refuse}
use Rattle.rules.specs.Calls.{Result}
use Rattle.answers.specs.declared.Answer.{Answer}

-- number 0: the result's words are the first of the output
pub record TellsResult (o : Result) (r : Answer) (output : List ℕ) : Type 0 where
  pub fine : r.number ≡ 0
  pub few : r.words ≤ length output
  pub words' : part output 0 r.words ≡ o.words
  pub replacements' : r.replacements ≡ o.replacements
  pub passes' : r.passes ≡ o.passes

-- any other number is a refusal
pub record TellsRefusal (number place : ℕ) (r : Answer) : Type 0 where
  pub some : 0 < number
  pub number' : r.number ≡ number
  pub place' : r.place ≡ place

abbrev pub Tells : Res Result → Answer → List ℕ → Type 0
Tells (ok o) r output = TellsResult o r output
Tells (refuse n p) r output = TellsRefusal n p r
