-- What the twelve words in front of a case say, by their numbers in the list: 1 is the call, 2 to 6 the bytes that are lent of signature, rule, counters, output
-- and scratch, 7 to 11 the answer. Assumes nothing: these are definitions.
use Rattle.std.specs.Prelude.{ℕ, ⊤, cond, eqb, List, get_or, Result, Ok, Err, Option, Some, None}
use Rattle.answers.specs.declared.Answer.{Answer}
use Rattle.replay.specs.declared.cases.Call.{Call}
use Rattle.replay.specs.declared.cases.Call.TheVariants.{Lower, Settle, FreeVars}

-- 0 names no call, 1 lowering, 2 settling, and any other free variables
abbrev pub call_of : ℕ → Result Call ⊤
call_of n = cond (eqb n 0) (Err tt) (cond (eqb n 1) (Ok Lower) (cond (eqb n 2) (Ok Settle) (Ok FreeVars)))

abbrev pub named : Result Call ⊤ → Option Call
named (Ok c) = Some c
named (Err e) = None

-- the answer that a case has
abbrev pub expected_of : List ℕ → Answer
expected_of ws =
    record { number = get_or ws 7 0; place = get_or ws 8 0; words = get_or ws 9 0; replacements = get_or ws 10 0; passes = get_or ws 11 0 }
