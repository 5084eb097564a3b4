-- An expression as an action: what its walk writes is the action, since its term is left out and nothing is bound. Assumes nothing.
use Prim.Native.Nat.{◌+◌}
use native.Mathlib.Omega.{arith}
use Rattle.std.proofs.lemmas.Result.{err_from_is_err_and}
use Rattle.octets.proofs.Words.{length_words_kept}
use Rattle.rules.specs.Words.{max_depth}
use Rattle.walks.specs.Steps.{ExprAt}
use Rattle.head_exprs.proofs.Sites.{Begun, site, starts}
use Rattle.actions.proofs.Acting.{low_at, expression_logged, expression_refused, expression_done}
use Rattle.actions.proofs.lower_expression.Goals.{Start}
use Rattle.actions.proofs.lower_expression.Goals as goal

begun : (c : Start) → let a = c.args in let k = site a.reading.now a.scratch.now a.counters.now a.at a.tops in
    Begun k (λ sig. ExprAt sig k.ws max_depth (k.at + 1))
begun c = let a = c.args in starts a.reading.now a.scratch.now a.counters.now c.requires (omega arith) (omega arith)

pub overflow_add-at : goal.overflow_add-at
overflow_add-at c = omega (arith, begun (goal.at.overflow_add-at c).Start)

pub returns-in_err-e : goal.returns-in_err-e
returns-in_err-e c =
    let l = c.lower.auto in
    let p = err_from_is_err_and c.from_residual.result c.from_residual.ensures.1 in
    rw (p.1, p.2)
    (expression_refused (begun (goal.at.returns-in_err-e c).Start)
    (low_at c.in_err-e.ensures (length_words_kept _ _ l.scratch) (length_words_kept _ _ l.counters)))

pub overflow_sub-result : goal.overflow_sub-result
overflow_sub-result c =
    let l = c.lower.auto in
    expression_logged (begun (goal.at.overflow_sub-result c).Start)
    (low_at c.in_ok-e.ensures (length_words_kept _ _ l.scratch) (length_words_kept _ _ l.counters))

pub returns : goal.returns
returns c =
    let l = c.lower.auto in
    expression_done (begun (goal.at.returns c).Start)
    (low_at c.in_ok-e.ensures (length_words_kept _ _ l.scratch) (length_words_kept _ _ l.counters))
