-- 01, "Turned back": the number of each reason, and how an answer of the code is the result or the refusal of the definitions.
-- Assumes nothing: these are definitions.
use Rattle.std.specs.Prelude.{ℕ, Result}
use Rattle.std.specs.Prelude.{Ok, Err}
use Rattle.rules.specs.Refusals.{Res, ok, refuse, bad_signature, few_counters, small_scratch, bad_length, unfit, too_deep, unbound, already_defined}
use Rattle.rules.specs.Refusals.{used_up, short_output, no_terms, not_two, bad_line, ragged}
use Rattle.refusals.specs.declared.Reason.{Reason}
use Rattle.refusals.specs.declared.Reason.TheVariants.{BadSignature, FewCounters, SmallScratch, BadLength, Unfit, TooDeep, Unbound, AlreadyDefined, UsedUp}
use Rattle.refusals.specs.declared.Reason.TheVariants.{ShortOutput, NoTerms, NotTwo, BadLine, Ragged}
use Rattle.refusals.specs.declared.Refusal.{Refusal}

-- the number of each reason
abbrev pub number_of : Reason → ℕ
number_of BadSignature = bad_signature
number_of FewCounters = few_counters
number_of SmallScratch = small_scratch
number_of BadLength = bad_length
number_of Unfit = unfit
number_of TooDeep = too_deep
number_of Unbound = unbound
number_of AlreadyDefined = already_defined
number_of UsedUp = used_up
number_of ShortOutput = short_output
number_of NoTerms = no_terms
number_of NotTwo = not_two
number_of BadLine = bad_line
number_of Ragged = ragged

-- an answer of the code, as a result or a refusal of the definitions
abbrev pub said : {A : Type 0} → Result A Refusal → Res A
said (Ok x) = ok x
said (Err r) = refuse (number_of r.reason) r.place

-- a result seen as another, and a refusal as it is
abbrev pub told : {A B : Type 0} → (A → B) → Res A → Res B
told f (ok x) = ok (f x)
told f (refuse n p) = refuse n p
