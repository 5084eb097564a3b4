-- Both walks over a rule. What is known at a place of the code is a record of `Joined`: once the header is read, behind the body, behind the head.
-- Assumes nothing.
use Prim.Native.Nat.{ℕ, ◌-◌, ◌^◌, ◌<◌}
use mathlib.Core.Path.{◌≡◌, refl}
use mathlib.Core.List.{List}
use native.Mathlib.Omega.{arith}
use lib.ListN.{length, get_or}
use Rattle.std.specs.Prelude.{Ok}
use Rattle.std.proofs.lemmas.Result.{err_from_is_err_and}
use Rattle.octets.specs.Words.{words}
use Rattle.octets.proofs.Words.{length_words, length_words_kept}
use Rattle.rules.specs.Words.{signature_base}
use Rattle.lowering.specs.Lowered.{Good}
use Rattle.lowering.proofs.Joined.{Begun, begun, body_room, Flattened, flattened, body_halted}
use Rattle.lowering.proofs.Joined.{ready, actions_at, head_counted, names_at, head_room, head_scope_room, Headed, headed, head_halted, head_ends, both_done}
use Rattle.lowering.proofs.lower_both.Goals.{After-count-n, After-header_word-header, In_ok-body, In_ok-head}
use Rattle.lowering.proofs.lower_both.Goals as goal

-- ---- the words are counted, n, and the header is read, w

read : {gs ws cs : List ℕ} {n w : ℕ} (scratch : List ℕ) → Good gs ws cs (length (words scratch)) → length scratch < 2 ^ 64 → n ≡ length ws → w ≡ get_or ws 0 0
    → Begun gs ws cs (words scratch) n w
read scratch good fits counted is = rw is (begun good (omega (arith, length_words scratch)) counted)

counted : (c : After-count-n) → let a = c.args in
    Begun (words a.signature.now) (words a.rule.now) (words a.counters.now) (words a.scratch.now) c.count-n.result (get_or (words a.rule.now) 0 0)
counted c = read c.args.scratch.now c.requires (omega arith) c.count-n.ensures refl

pub overflow_mul-log : goal.overflow_mul-log
overflow_mul-log c = omega (arith, counted (goal.at.overflow_mul-log c).After-count-n)

pub overflow_mul-sp : goal.overflow_mul-sp
overflow_mul-sp c = omega (arith, counted (goal.at.overflow_mul-sp c).After-count-n)

header : (c : After-header_word-header) → let a = c.args in
    Begun (words a.signature.now) (words a.rule.now) (words a.counters.now) (words a.scratch.now) c.count-n.result c.get.result
header c = read c.args.scratch.now c.requires (omega arith) c.count-n.ensures c.get.ensures.is

-- ---- the body is flattened

pub to_query-requires : goal.to_query-requires
to_query-requires c =
    let k = header (goal.at.to_query-requires c).After-header_word-header in
    rw c.header_word-header.ensures (record { under = record { sig = k.good.sig; known = (k.read.facts, k.counted) }; room = body_room k })

pub returns-in_err-body : goal.returns-in_err-body
returns-in_err-body c =
    let k = header (goal.at.returns-in_err-body c).After-header_word-header in
    let q = c.to_query.auto in
    let walk = (rw c.header_word-header.ensures at c.in_err-body.ensures) k.good.sig k.read.facts k.counted in
    let p = err_from_is_err_and c.from_residual.result c.from_residual.ensures.1 in
    rw (p.1, p.2) (body_halted (flattened k (length_words_kept _ _ q.scratch) (length_words_kept _ _ q.counters) walk))

body : (c : In_ok-body) → let a = c.args in let n = c.to_query.new in
    Flattened (words a.signature.now) (words a.rule.now) (words a.counters.now) (words a.scratch.now) c.count-n.result c.get.result
    (words n.scratch) (words n.counters) (Ok c.in_ok-body.body)
body c =
    let k = read c.args.scratch.now c.requires (omega arith) c.count-n.ensures c.get.ensures.is in
    let q = c.to_query.auto in
    let walk = (rw c.header_word-header.ensures at c.in_ok-body.ensures) k.good.sig k.read.facts k.counted in
    flattened k (length_words_kept _ _ q.scratch) (length_words_kept _ _ q.counters) walk

-- ---- the globals are read, and the head is lowered

pub to_core_actions-requires : goal.to_core_actions-requires
to_core_actions-requires c =
    let y = ready (body (goal.at.to_core_actions-requires c).In_ok-body) c.get-globals.ensures.is in
    let k = y.flat.begun in
    rw (c.new-scope.ensures, c.header_word-header.ensures)
    (record { sig = k.good.sig; known = (actions_at y, head_counted y, names_at y, k.signature.signed) }, (head_room y, head_scope_room y))

pub returns-in_err-head : goal.returns-in_err-head
returns-in_err-head c =
    let y = ready (body (goal.at.returns-in_err-head c).In_ok-body) c.get-globals.ensures.is in
    let k = y.flat.begun in
    let walk = rw c.header_word-header.ensures at c.in_err-head.ensures in
    let p = err_from_is_err_and c.from_residual-in_err-head.result c.from_residual-in_err-head.ensures.1 in
    rw (p.1, p.2)
    (head_halted (headed y c.new-scope.ensures (length_words_kept _ _ c.to_core_actions.auto.scratch)
    (λ x bound sc. (walk k.good.sig x bound (head_counted y) sc k.signature.signed).0)))

head : (c : In_ok-head) → let a = c.args in let b = c.to_query.new in let n = c.to_core_actions.new in
    Flattened (words a.signature.now) (words a.rule.now) (words a.counters.now) (words a.scratch.now) c.count-n.result c.get.result
    (words b.scratch) (words b.counters) (Ok c.in_ok-body.body)
    → Headed (words a.signature.now) (words a.rule.now) (words a.counters.now) (words a.scratch.now) c.count-n.result c.get.result
    (words b.scratch) (words b.counters) c.in_ok-body.body (c.get-globals.result - signature_base) (words n.scratch) (words n.counters) (Ok c.in_ok-head.head)
head c f =
    let y = ready f c.get-globals.ensures.is in
    let k = y.flat.begun in
    let walk = rw c.header_word-header.ensures at c.in_ok-head.ensures in
    headed y c.new-scope.ensures (length_words_kept _ _ c.to_core_actions.auto.scratch)
    (λ x bound sc. (walk k.good.sig x bound (head_counted y) sc k.signature.signed).0)

pub overflow_sub-result : goal.overflow_sub-result
overflow_sub-result c = let h = goal.at.overflow_sub-result c in head_ends (head h.In_ok-head (body h.In_ok-body))

pub overflow_sub-result-2 : goal.overflow_sub-result-2
overflow_sub-result-2 c = let h = goal.at.overflow_sub-result-2 c in (head h.In_ok-head (body h.In_ok-body)).log_from

pub returns : goal.returns
returns c = let h = goal.at.returns c in both_done (head h.In_ok-head (body h.In_ok-body))
