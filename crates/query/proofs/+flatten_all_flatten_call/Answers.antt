-- Flattening a call and a row of arguments: the one proof of their cycle. The depth falls at each call's arguments. What is known at a place of the
-- code is said once, as a record of `Arguments`, `Exprs` or `Calls`, and the needs behind that place cite it. Assumes nothing.
use mathlib.Core.Path.{ap, ◌∙◌}
use Prim.Native.Nat.{◌-◌, ◌+◌, ◌^◌}
use native.Mathlib.Omega.{arith}
use Rattle.std.proofs.lemmas.Grind.{common_steps}
use Rattle.std.proofs.lemmas.Result.{err_from_is_err_and}
use Rattle.octets.specs.Words.{words}
use Rattle.octets.proofs.Words.{length_words, length_words_kept}
use Rattle.octets.proofs.Splice.{length_part}
use lib.ListN.{length}
use Rattle.walks.specs.Steps.{tops_at}
use Rattle.walks.proofs.Words.{leaf_high, call_low, head_says, count_says}
use Rattle.query.proofs.Spots.{spot_of}
use Rattle.query.proofs.Arguments.{row_start, row_fits, row_turn, row_asked, row_done, row_stop, row_next}
use Rattle.query.proofs.Exprs.{leaf_answer, begun, none_left}
use Rattle.query.proofs.Calls.{fronted, around_room, leaves_answer, args_asked, args_refused, atom_asks, call_answer}
use Rattle.query.proofs.+flatten_all_flatten_call.Goals as goal

-- ---- the row of arguments

pub flatten_all-overflow_add-top-end : goal.flatten_all-overflow_add-top-end
flatten_all-overflow_add-top-end t c =
    let a = c.args in
    let spot = spot_of (words a.rule.now) (words a.scratch.now) (words a.counters.now) a.at a.tops in
    omega (arith, row_fits {p = spot} a.depth a.n c.requires, length_words a.scratch.now)

pub flatten_all-loop-top-init : goal.flatten_all-loop-top-init
flatten_all-loop-top-init t c = row_start c.requires

pub flatten_all-get-w-requires : goal.flatten_all-get-w-requires
flatten_all-get-w-requires t c = (row_turn c.loop-top.invariant c.loop-top-test.true).inside

-- a leaf

pub flatten_all-overflow_add-walk : goal.flatten_all-overflow_add-walk
flatten_all-overflow_add-walk t c = omega (arith, (row_turn c.loop-top.invariant c.loop-top-test.true).inside, length_words c.args.rule.now)

pub flatten_all-loop-top-preserved-then-is_leaf : goal.flatten_all-loop-top-preserved-then-is_leaf
flatten_all-loop-top-preserved-then-is_leaf t c =
    let l = c.loop-top in
    let spot = spot_of (words c.args.rule.now) (words l.scratch) (words l.counters) l.walk.next (tops_at l.walk l.top) in
    let leaf = leaf_answer spot c.args.depth _ c.get-w.ensures.is (leaf_high c.is_leaf.ensures c.if-is_leaf.true) in
    let row = row_next l.invariant c.loop-top-test.true _ leaf c.put.ensures in
    record { asks = row.asks; going = row.going; rest = row.rest }

-- a call

pub flatten_all-flatten_call-requires : goal.flatten_all-flatten_call-requires
flatten_all-flatten_call-requires t c =
    let row = c.loop-top.invariant in
    let some = c.loop-top-test.true in (
      omega (arith, c.decreases, (row_turn row some).on),
      (rw c.tops.ensures (row_asked row some), (c.get-w.ensures.is, call_low c.is_leaf.ensures c.if-is_leaf.false)),
    )

pub flatten_all-returns-in_err-walk : goal.flatten_all-returns-in_err-walk
flatten_all-returns-in_err-walk t c =
    let p = err_from_is_err_and c.from_residual.result c.from_residual.ensures.1 in
    rw (p.1, p.2) (row_stop c.loop-top.invariant c.loop-top-test.true (rw c.tops.ensures at c.in_err-walk.ensures))

pub flatten_all-put-requires-in-loop-top : goal.flatten_all-put-requires-in-loop-top
flatten_all-put-requires-in-loop-top t c =
    let l = c.loop-top in
    let turn = row_turn l.invariant c.loop-top-test.true in
    omega (arith, turn.room, turn.inside, length_words_kept c.flatten_call.new.scratch l.scratch c.flatten_call.auto.scratch)

pub flatten_all-loop-top-preserved : goal.flatten_all-loop-top-preserved
flatten_all-loop-top-preserved t c =
    row_next c.loop-top.invariant c.loop-top-test.true _ (rw c.tops.ensures at c.in_ok-walk.ensures) c.put-in-loop-top.ensures

pub flatten_all-returns : goal.flatten_all-returns
flatten_all-returns t c = row_done c.loop-top.invariant c.loop-top-test.false

-- ---- a call: its head word

pub flatten_call-returns-in_err-v : goal.flatten_call-returns-in_err-v
flatten_call-returns-in_err-v t c =
    let start = begun c.requires.asks c.requires.call in
    let p = err_from_is_err_and c.from_residual.result c.from_residual.ensures.1 in
    rw (p.1, p.2) (none_left start _ _ (head_says c.head_word-call.ensures) c.take.result c.take.ensures (grind (arith, common_steps)))

pub flatten_call-overflow_add-tops : goal.flatten_call-overflow_add-tops
flatten_call-overflow_add-tops t c = omega (arith, begun c.requires.asks c.requires.call, length_words c.args.scratch.now)

pub flatten_call-overflow_add-first : goal.flatten_call-overflow_add-first
flatten_call-overflow_add-first t c = omega (arith, begun c.requires.asks c.requires.call, length_words c.args.rule.now)

-- ---- the arguments in front

pub flatten_call-part-row-requires : goal.flatten_call-part-row-requires
flatten_call-part-row-requires t c =
    let room = (begun c.requires.asks c.requires.call).atom in
    let count = count_says c.head_word-call.ensures in
    omega (arith, room.inside)

pub flatten_call-leaves-k-requires : goal.flatten_call-leaves-k-requires
flatten_call-leaves-k-requires t c =
    let room = (begun c.requires.asks c.requires.call).atom in
    let count = count_says c.head_word-call.ensures in
    let row = ap length c.part-row.ensures ∙ length_part (words c.args.rule.now) (c.args.at + 1) c.head_word-call.result.count (omega (arith, room.inside)) in
    omega (arith, row, room.words, length_words_kept c.take.new.scratch c.args.scratch.now c.take.auto.scratch)

-- ---- all are names or literals

pub flatten_call-put_around-to-requires : goal.flatten_call-put_around-to-requires
flatten_call-put_around-to-requires t c =
    let v = c.take in
    let front =
    fronted {v = c.in_ok-v.v} _ _ _ (2 ^ 32 - 1) c.requires.asks c.requires.call c.head_word-call.ensures v.result v.ensures (grind (arith, common_steps))
    (length_words_kept _ _ v.auto.counters) (length_words_kept _ _ v.auto.scratch) c.part-row.ensures c.leaves-k.ensures (length_words_kept _ _ c.leaves-k.auto.scratch) in
    around_room front

pub flatten_call-overflow_add-result : goal.flatten_call-overflow_add-result
flatten_call-overflow_add-result t c =
    let start = begun c.requires.asks c.requires.call in
    omega (arith, start, c.if-k-n.true, count_says c.head_word-call.ensures, length_words c.args.rule.now)

pub flatten_call-returns-then-k-n : goal.flatten_call-returns-then-k-n
flatten_call-returns-then-k-n t c =
    let v = c.take in
    let front =
    fronted {v = c.in_ok-v.v} _ _ _ (2 ^ 32 - 1) c.requires.asks c.requires.call c.head_word-call.ensures v.result v.ensures (grind (arith, common_steps))
    (length_words_kept _ _ v.auto.counters) (length_words_kept _ _ v.auto.scratch) c.part-row.ensures c.leaves-k.ensures (length_words_kept _ _ c.leaves-k.auto.scratch) in
    let e = c.put_around-to.ensures in
    leaves_answer front _ _ c.if-k-n.true e.0 e.1

-- ---- a call stands among them

pub flatten_call-flatten_all-requires : goal.flatten_call-flatten_all-requires
flatten_call-flatten_all-requires t c =
    let v = c.take in
    let front =
    fronted {v = c.in_ok-v.v} _ _ _ (2 ^ 32 - 1) c.requires.asks c.requires.call c.head_word-call.ensures v.result v.ensures (grind (arith, common_steps))
    (length_words_kept _ _ v.auto.counters) (length_words_kept _ _ v.auto.scratch) c.part-row.ensures c.leaves-k.ensures (length_words_kept _ _ c.leaves-k.auto.scratch) in
    let f = front.start.facts in
    (omega (arith, c.decreases, f.inside, f.deep), args_asked front)

pub flatten_call-returns-in_err-args : goal.flatten_call-returns-in_err-args
flatten_call-returns-in_err-args t c =
    let v = c.take in
    let front =
    fronted {v = c.in_ok-v.v} _ _ _ (2 ^ 32 - 1) c.requires.asks c.requires.call c.head_word-call.ensures v.result v.ensures (grind (arith, common_steps))
    (length_words_kept _ _ v.auto.counters) (length_words_kept _ _ v.auto.scratch) c.part-row.ensures c.leaves-k.ensures (length_words_kept _ _ c.leaves-k.auto.scratch) in
    let p = err_from_is_err_and c.from_residual-in_err-args.result c.from_residual-in_err-args.ensures.1 in
    rw (p.1, p.2) (args_refused front c.in_err-args.ensures)

pub flatten_call-put_atom-to-requires : goal.flatten_call-put_atom-to-requires
flatten_call-put_atom-to-requires t c =
    let v = c.take in
    let front =
    fronted {v = c.in_ok-v.v} _ _ _ (2 ^ 32 - 1) c.requires.asks c.requires.call c.head_word-call.ensures v.result v.ensures (grind (arith, common_steps))
    (length_words_kept _ _ v.auto.counters) (length_words_kept _ _ v.auto.scratch) c.part-row.ensures c.leaves-k.ensures (length_words_kept _ _ c.leaves-k.auto.scratch) in
    atom_asks front c.in_ok-args.ensures (length_words_kept _ _ c.flatten_all.auto.scratch)

pub flatten_call-returns : goal.flatten_call-returns
flatten_call-returns t c =
    let v = c.take in
    let front =
    fronted {v = c.in_ok-v.v} _ _ _ (2 ^ 32 - 1) c.requires.asks c.requires.call c.head_word-call.ensures v.result v.ensures (grind (arith, common_steps))
    (length_words_kept _ _ v.auto.counters) (length_words_kept _ _ v.auto.scratch) c.part-row.ensures c.leaves-k.ensures (length_words_kept _ _ c.leaves-k.auto.scratch) in
    let e = c.put_atom-to.ensures in
    call_answer front c.in_ok-args.ensures (length_words_kept _ _ c.flatten_all.auto.scratch) _ _ e.0 e.1
