-- Flattening an equality: where both sides are names or literals its atom is of their words; else the left side, then the right one from where the left
-- one ended, and its own atom behind both. What is known at a place of the code is said once, as a record of `Facts`. Assumes nothing.
use mathlib.Core.Path.{refl, ◌∙◌}
use native.Mathlib.Omega.{arith}
use Rattle.std.proofs.lemmas.Result.{err_from_is_err_and}
use Rattle.octets.proofs.Words.{length_words, length_words_kept}
use Rattle.walks.proofs.Words.{leaf_high}
use Rattle.query.proofs.Facts.{begun, left_inside, left_asked, left_refused, leaf_behind, leaves_met}
use Rattle.query.proofs.Facts.{lefted, right_asked, right_refused, righted, three_room, equal_answer}
use Rattle.query.proofs.flatten_equality.Goals as goal

pub overflow_add-first : goal.overflow_add-first
overflow_add-first c = omega (arith, left_inside c.requires.asks c.requires.equality, length_words c.args.rule.now)

pub get-a-requires : goal.get-a-requires
get-a-requires c = left_inside c.requires.asks c.requires.equality

-- ---- both sides are names or literals

pub overflow_add-second : goal.overflow_add-second
overflow_add-second c = omega (arith, left_inside c.requires.asks c.requires.equality, length_words c.args.rule.now)

pub get-b-requires : goal.get-b-requires
get-b-requires c = leaf_behind c.requires.asks c.requires.equality c.get-a.ensures.is (leaf_high c.is_leaf.ensures c.if-is_leaf.true)

pub overflow_add-result : goal.overflow_add-result
overflow_add-result c =
    let inside = leaf_behind c.requires.asks c.requires.equality c.get-a.ensures.is (leaf_high c.is_leaf.ensures c.if-is_leaf.true) in
    omega (arith, inside, length_words c.args.rule.now)

pub returns-then-is_leaf-2 : goal.returns-then-is_leaf-2
returns-then-is_leaf-2 c =
    let a = leaf_high c.is_leaf.ensures c.if-is_leaf.true in
    let b = leaf_high c.is_leaf-then-is_leaf.ensures c.if-is_leaf-2.true in
    let met = leaves_met c.requires.asks c.requires.equality c.get-a.ensures.is a c.get-b.ensures.is b in
    let e = c.put_all.ensures in
    equal_answer met _ _ e.0 e.1

-- ---- the left side

pub flatten-requires : goal.flatten-requires
flatten-requires c = left_asked (begun c.requires.asks refl) c.requires.equality

pub returns-in_err-left : goal.returns-in_err-left
returns-in_err-left c =
    let p = err_from_is_err_and c.from_residual.result c.from_residual.ensures.1 in
    rw (p.1, p.2) (left_refused (begun c.requires.asks refl) c.requires.equality c.in_err-left.ensures)

-- ---- the right side

pub flatten-requires-2 : goal.flatten-requires-2
flatten-requires-2 c =
    let l = c.flatten in
    let left =
    lefted c.requires.asks refl c.requires.equality c.in_ok-left.ensures (length_words_kept _ _ l.auto.counters)
    (length_words_kept _ _ l.auto.scratch) in
    rw c.tops.ensures (right_asked left)

pub returns-in_err-right : goal.returns-in_err-right
returns-in_err-right c =
    let l = c.flatten in
    let left =
    lefted c.requires.asks refl c.requires.equality c.in_ok-left.ensures (length_words_kept _ _ l.auto.counters)
    (length_words_kept _ _ l.auto.scratch) in
    let p = err_from_is_err_and c.from_residual-in_err-right.result c.from_residual-in_err-right.ensures.1 in
    rw (p.1, p.2) (right_refused left (rw c.tops.ensures at c.in_err-right.ensures))

-- ---- its own atom

pub put_all-to-requires : goal.put_all-to-requires
put_all-to-requires c =
    let l = c.flatten in
    let left =
    lefted c.requires.asks refl c.requires.equality c.in_ok-left.ensures (length_words_kept _ _ l.auto.counters)
    (length_words_kept _ _ l.auto.scratch) in
    let r = c.flatten-2 in
    let right = righted left (rw c.tops.ensures at c.in_ok-right.ensures) (length_words_kept _ _ (r.auto.scratch ∙ l.auto.scratch)) in
    (omega arith, three_room right)

pub returns : goal.returns
returns c =
    let l = c.flatten in
    let left =
    lefted c.requires.asks refl c.requires.equality c.in_ok-left.ensures (length_words_kept _ _ l.auto.counters)
    (length_words_kept _ _ l.auto.scratch) in
    let r = c.flatten-2 in
    let right = righted left (rw c.tops.ensures at c.in_ok-right.ensures) (length_words_kept _ _ (r.auto.scratch ∙ l.auto.scratch)) in
    let e = c.put_all-to.ensures in
    equal_answer right _ _ e.0 e.1
