-- 01, "Turned back": which numbers each call can answer with, as statements. None of them is 0, so number 0 is acceptance and nothing else.
-- Assumes nothing: these are statements.
use Rattle.std.specs.Prelude.{ℕ, ◌≡◌, true, List, [], ◌∷◌}
use Rattle.rules.specs.Refusals.{refuse, bad_signature, few_counters, small_scratch, bad_length, unfit, too_deep, unbound, already_defined, used_up, short_output, no_terms, not_two, ragged}
use Rattle.rules.specs.Signature.{elem}
use Rattle.rules.specs.Calls.{lower_res, settle_res, free_vars_res}

abbrev pub lower_numbers : List ℕ
lower_numbers =
    ragged ∷ bad_signature ∷ few_counters ∷ small_scratch ∷ bad_length ∷ unfit ∷ too_deep ∷ unbound ∷ already_defined ∷ used_up ∷ short_output ∷ []

abbrev pub settle_numbers : List ℕ
settle_numbers = ragged ∷ bad_signature ∷ small_scratch ∷ bad_length ∷ unfit ∷ no_terms ∷ not_two ∷ short_output ∷ []

-- "Free variables use 14, 1, 4, 5, 11, 12, 10 only"
abbrev pub free_vars_numbers : List ℕ
free_vars_numbers = ragged ∷ bad_signature ∷ bad_length ∷ unfit ∷ no_terms ∷ not_two ∷ short_output ∷ []

abbrev pub LowerNumbers : Type 0
LowerNumbers =
    (signature rule counters output : List ℕ) (scratch n p : ℕ) → lower_res signature rule counters output scratch ≡ refuse n p → elem n lower_numbers ≡ true

abbrev pub SettleNumbers : Type 0
SettleNumbers = (signature rule output : List ℕ) (scratch n p : ℕ) → settle_res signature rule output scratch ≡ refuse n p → elem n settle_numbers ≡ true

abbrev pub FreeVarsNumbers : Type 0
FreeVarsNumbers = (signature rule output : List ℕ) (n p : ℕ) → free_vars_res signature rule output ≡ refuse n p → elem n free_vars_numbers ≡ true
