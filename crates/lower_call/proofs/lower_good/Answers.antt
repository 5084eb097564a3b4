-- The rule is lowered into the scratch, its body settled in front of its head and of the log, and all of it written; where there is no room the log, which
-- is as it was, takes the counters back. Assumes nothing.
use mathlib.Core.Path.{refl, ap, ◌∙◌}
use mathlib.Core.List.{List}
use Prim.Native.Nat.{ℕ}
use native.Mathlib.Omega.{arith}
use Rattle.std.proofs.lemmas.Result.{err_from_is_err_and}
use Rattle.octets.specs.Words.{words}
use Rattle.octets.proofs.Words.{length_words_kept}
use Rattle.walks.specs.Log.{undone}
use Rattle.lower_call.proofs.Lowering.{core_asks, few_globals, known_equals, turned, Laid, laid, asks_settle, Done, is_done, head_inside, stands, ends_short, ends_good}
use Rattle.lower_call.proofs.lower_good.Goals.{In_ok-core, After-settle-body}
use Rattle.lower_call.proofs.lower_good.Goals as goal

-- what is known behind each step
at_core : (c : In_ok-core) → Laid c.requires (words c.to_core_rule.new.scratch) (words c.to_core_rule.new.counters) c.in_ok-core.core
at_core c = laid c.requires (length_words_kept _ _ c.to_core_rule.auto.scratch) c.in_ok-core.ensures

at_settle : (c : After-settle-body) → Done (at_core (goal.at.After-settle-body c).In_ok-core) c.count-n.result (words c.settle-body.new.s) c.settle-body.result
at_settle c = is_done (at_core (goal.at.After-settle-body c).In_ok-core) c.count-n.ensures refl refl c.settle-body.ensures

pub to_core_rule-requires : goal.to_core_rule-requires
to_core_rule-requires c = core_asks c.requires

pub returns-in_err-core : goal.returns-in_err-core
returns-in_err-core c =
    let p = err_from_is_err_and c.from_residual.result c.from_residual.ensures.1 in
    rw (p.1, p.2) (turned c.in_err-core.ensures c.args.output.now)

pub invariant_of-terms : goal.invariant_of-terms
invariant_of-terms c = record { few_globals = few_globals c.requires; known_equals = known_equals c.requires }

pub settle-body-requires : goal.settle-body-requires
settle-body-requires c = asks_settle (at_core (goal.at.settle-body-requires c).In_ok-core)

-- ---- the rule is written, if there is room

pub overflow_mul-n : goal.overflow_mul-n
overflow_mul-n c = omega (arith, (at_settle (goal.at.overflow_mul-n c).After-settle-body).fits)

pub part-requires : goal.part-requires
part-requires c = head_inside (at_settle (goal.at.part-requires c).After-settle-body)

pub finish-words-requires : goal.finish-words-requires
finish-words-requires c = stands (at_settle (goal.at.finish-words-requires c).After-settle-body) c.part.ensures

pub overflow_mul-n-then-count-words : goal.overflow_mul-n-then-count-words
overflow_mul-n-then-count-words c = omega (arith, (at_settle (goal.at.overflow_mul-n-then-count-words c).After-settle-body).fits)

pub part-log-requires : goal.part-log-requires
part-log-requires c = (at_settle (goal.at.part-log-requires c).After-settle-body).log

pub returns-then-count-words : goal.returns-then-count-words
returns-then-count-words c =
    let f = c.finish-words in
    let back = c.restore.ensures ∙ ap (λ (l : List ℕ). undone l (words c.to_core_rule.new.counters)) c.part-log.ensures in
    ends_short (at_settle (goal.at.returns-then-count-words c).After-settle-body) c.part.ensures f.ensures c.count.ensures f.auto.output c.if-count-words.true back

pub returns-else-count-words : goal.returns-else-count-words
returns-else-count-words c =
    let f = c.finish-words in
    ends_good (at_settle (goal.at.returns-else-count-words c).After-settle-body) c.part.ensures f.ensures c.count.ensures f.auto.output c.if-count-words.false
