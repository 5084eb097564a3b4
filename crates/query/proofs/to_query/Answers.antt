-- Flattening a body: the facts that are left make the whole, so that a turn, which takes the first of them, leaves the same to be made by one less.
-- What is so between two turns is the record `Row` of `FactRows`. Assumes nothing.
use native.Mathlib.Omega.{arith}
use Rattle.std.proofs.lemmas.Result.{err_from_is_err_and}
use mathlib.Core.Path.{sym, ◌∙◌}
use Rattle.octets.proofs.Words.{length_words}
use Rattle.walks.proofs.Words.{leaf_high, call_low}
use Rattle.query.proofs.Facts.{holds_asked, holds_refused, holds_answer}
use Rattle.query.proofs.FactRows.{row_start, row_done, row_asked, row_inside, row_begun, row_leaf, row_stop, row_next}
use Rattle.query.proofs.to_query.Goals as goal

pub loop-init : goal.loop-init
loop-init c = row_start c.requires

pub get-w-requires : goal.get-w-requires
get-w-requires c = row_inside c.loop.invariant c.loop-test.true

-- ---- a name or a literal alone

pub overflow_add-walk : goal.overflow_add-walk
overflow_add-walk c = omega (arith, row_inside c.loop.invariant c.loop-test.true, length_words c.args.rule.now)

pub loop-preserved-then-is_leaf : goal.loop-preserved-then-is_leaf
loop-preserved-then-is_leaf c = row_leaf c.loop.invariant c.loop-test.true c.get-w.ensures.is (leaf_high c.is_leaf.ensures c.if-is_leaf.true)

-- ---- an equality

pub flatten_equality-requires-clause-asks : goal.flatten_equality-requires-clause-asks
flatten_equality-requires-clause-asks c = rw c.tops-here.ensures (row_asked c.loop.invariant c.loop-test.true)

pub flatten_equality-requires-clause-equality : goal.flatten_equality-requires-clause-equality
flatten_equality-requires-clause-equality c = sym c.get-w.ensures.is ∙ c.if-w-eq-EQUALITY.true

pub returns-in_err-walk : goal.returns-in_err-walk
returns-in_err-walk c =
    let p = err_from_is_err_and c.from_residual.result c.from_residual.ensures.1 in
    rw (p.1, p.2) (row_stop c.loop.invariant c.loop-test.true (rw c.tops-here.ensures at c.in_err-walk.ensures))

pub loop-preserved-then-w-eq-EQUALITY : goal.loop-preserved-then-w-eq-EQUALITY
loop-preserved-then-w-eq-EQUALITY c = row_next c.loop.invariant c.loop-test.true (rw c.tops-here.ensures at c.in_ok-walk.ensures)

-- ---- a call

pub flatten_call-requires-clause-asks : goal.flatten_call-requires-clause-asks
flatten_call-requires-clause-asks c =
    rw c.tops-here.ensures (holds_asked (row_begun c.loop.invariant c.loop-test.true c.get-w.ensures.is) c.if-w-eq-EQUALITY.false)

pub flatten_call-requires-clause-call : goal.flatten_call-requires-clause-call
flatten_call-requires-clause-call c = (c.get-w.ensures.is, call_low c.is_leaf.ensures c.if-is_leaf.false)

pub returns-in_err-call : goal.returns-in_err-call
returns-in_err-call c =
    let begun = row_begun c.loop.invariant c.loop-test.true c.get-w.ensures.is in
    let p = err_from_is_err_and c.from_residual-in_err-call.result c.from_residual-in_err-call.ensures.1 in
    rw (p.1, p.2) (row_stop c.loop.invariant c.loop-test.true
    (holds_refused begun c.if-w-eq-EQUALITY.false (rw c.tops-here.ensures at c.in_err-call.ensures)))

pub loop-preserved : goal.loop-preserved
loop-preserved c =
    let begun = row_begun c.loop.invariant c.loop-test.true c.get-w.ensures.is in
    row_next c.loop.invariant c.loop-test.true (holds_answer begun c.if-w-eq-EQUALITY.false (rw c.tops-here.ensures at c.in_ok-call.ensures))

-- ---- none are left

pub returns : goal.returns
returns c = row_done c.loop.invariant c.loop-test.false
