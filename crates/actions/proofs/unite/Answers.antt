-- A union that stays one: both sides are lowered, the right one from where the walk of the left one stands, and the action's words are the two terms;
-- the first side that is refused refuses the union. Assumes nothing.
use native.Mathlib.Omega.{arith}
use Rattle.std.specs.Prelude.{Ok}
use Rattle.std.proofs.lemmas.Result.{err_from_is_err_and}
use Rattle.octets.specs.Words.{words}
use Rattle.octets.proofs.Words.{length_words_kept}
use Rattle.head_exprs.proofs.Sites.{site, starts}
use Rattle.actions.proofs.Acting.{LowAt, low_at}
use Rattle.actions.proofs.Pairs.{LeftDone, left_refused, left_done, behind, right_asks, right_refused, both_fine, union_done}
use Rattle.actions.proofs.unite.Goals.{In_ok-left, In_ok-right}
use Rattle.actions.proofs.unite.Goals as goal

pub overflow_add-at : goal.overflow_add-at
overflow_add-at c = let a = c.args in omega (arith, starts a.reading.now a.scratch.now a.counters.now c.requires (omega arith) (omega arith))

-- ---- the left side is lowered

pub returns-in_err-left : goal.returns-in_err-left
returns-in_err-left c =
    let l = c.lower.auto in
    let p = err_from_is_err_and c.from_residual.result c.from_residual.ensures.1 in
    rw (p.1, p.2) (left_refused (low_at c.in_err-left.ensures (length_words_kept _ _ l.scratch) (length_words_kept _ _ l.counters)))

left : (c : In_ok-left) → let a = c.args in let n = c.lower.new in
    LeftDone (site a.reading.now a.scratch.now a.counters.now a.at a.tops) (words n.scratch) (words n.counters) c.in_ok-left.left
left c =
    let a = c.args in
    let l = c.lower.auto in
    left_done (starts a.reading.now a.scratch.now a.counters.now c.requires (omega arith) (omega arith))
    (low_at c.in_ok-left.ensures (length_words_kept _ _ l.scratch) (length_words_kept _ _ l.counters))

pub lower-requires-2 : goal.lower-requires-2
lower-requires-2 c = rw c.tops-behind.ensures (right_asks (left (goal.at.lower-requires-2 c).In_ok-left))

-- ---- the right side is lowered

pub returns-in_err-right : goal.returns-in_err-right
returns-in_err-right c =
    let r = c.lower-2.auto in
    let p = err_from_is_err_and c.from_residual-in_err-right.result c.from_residual-in_err-right.ensures.1 in
    rw (p.1, p.2)
    (right_refused (left (goal.at.returns-in_err-right c).In_ok-left)
    (low_at (rw c.tops-behind.ensures at c.in_err-right.ensures) (length_words_kept _ _ r.scratch) (length_words_kept _ _ r.counters)))

right : (c : In_ok-right) → let a = c.args in let n = c.lower-2.new in
    let k = behind (site a.reading.now a.scratch.now a.counters.now a.at a.tops) (words c.lower.new.scratch) (words c.lower.new.counters) c.in_ok-left.left in
    LowAt k k.at (words n.scratch) (words n.counters) (Ok c.in_ok-right.right)
right c =
    let r = c.lower-2.auto in
    low_at (rw c.tops-behind.ensures at c.in_ok-right.ensures) (length_words_kept _ _ r.scratch) (length_words_kept _ _ r.counters)

pub put_all-end-requires : goal.put_all-end-requires
put_all-end-requires c = let h = goal.at.put_all-end-requires c in (omega arith, (both_fine (left h.In_ok-left) (right h.In_ok-right)).words)

pub overflow_sub-result : goal.overflow_sub-result
overflow_sub-result c = let h = goal.at.overflow_sub-result c in (both_fine (left h.In_ok-left) (right h.In_ok-right)).logged

pub returns : goal.returns
returns c = let h = goal.at.returns c in union_done (left h.In_ok-left) (right h.In_ok-right) c.put_all-end.ensures
