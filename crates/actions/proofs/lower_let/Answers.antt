-- A let: a name that is bound already is refused, and so is what its expression is refused for; else the action's words are the name and the term, and
-- the name, put behind those let so far, is one name more of the scope. Assumes nothing.
use Prim.Native.Nat.{ℕ, ◌+◌, ◌^◌, ◌<◌}
use mathlib.Core.Path.{◌≡◌}
use mathlib.Core.List.{List}
use native.Mathlib.Omega.{arith}
use lib.ListN.{length}
use Rattle.std.specs.Prelude.{Ok}
use Rattle.std.proofs.lemmas.Result.{err_from_is_err_and}
use Rattle.octets.specs.Words.{words}
use Rattle.octets.proofs.Words.{length_words_kept}
use Rattle.walks.specs.declared.Tops.{Tops}
use Rattle.head_exprs.specs.Sites.{Asks}
use Rattle.head_exprs.specs.declared.Reading.{Reading}
use Rattle.head_exprs.proofs.Scopes.{taken_as}
use Rattle.head_exprs.proofs.Sites.{site, starts}
use Rattle.actions.specs.Lowers.{second}
use Rattle.actions.proofs.Acting.{LowAt, low_at}
use Rattle.actions.proofs.Lets.{LetThere, Letting, let_twice, Free, is_free, let_refused, let_fine, let_done}
use Rattle.actions.proofs.lower_let.Goals.{Else-taken, In_ok-e}
use Rattle.actions.proofs.lower_let.Goals as goal

pub overflow_add-at : goal.overflow_add-at
overflow_add-at c = let a = c.args in omega (arith, starts a.reading.now a.scratch.now a.counters.now c.requires.known (omega arith) (omega arith))

-- ---- the name is read as v

letting : (r : Reading) (scratch counters : List ℕ) {at v : ℕ} {t : Tops}
    → (let k = site r scratch counters at t in
    Asks k (LetThere k) at → r.scope.first + r.scope.names ≡ t.sp → length r.rule.now < 2 ^ 64 → length scratch < 2 ^ 64 → v ≡ second k → Letting k v)
letting r scratch counters known top rule_fits scratch_fits is = record { begun = starts r scratch counters known rule_fits scratch_fits; is = is; end = top }

pub returns-then-taken : goal.returns-then-taken
returns-then-taken c =
    let a = c.args in
    let named = letting a.reading.now a.scratch.now a.counters.now c.requires.known c.requires.top (omega arith) (omega arith) c.get-name.ensures.is in
    let_twice named (taken_as c.get-name.result c.taken.ensures) c.if-taken.true c.at.ensures (omega arith)

-- ---- it is free

free : (c : Else-taken) → let a = c.args in Free (site a.reading.now a.scratch.now a.counters.now a.at a.tops) c.get-name.result
free c =
    let a = c.args in
    let named = letting a.reading.now a.scratch.now a.counters.now c.requires.known c.requires.top (omega arith) (omega arith) c.get-name.ensures.is in
    is_free named (taken_as c.get-name.result c.taken.ensures) c.if-taken.false

pub overflow_add-at-2 : goal.overflow_add-at-2
overflow_add-at-2 c = let f = free (goal.at.overflow_add-at-2 c).Else-taken in omega (arith, f.letting.begun)

-- ---- its expression is lowered

pub returns-in_err-e : goal.returns-in_err-e
returns-in_err-e c =
    let e = c.lower.auto in
    let p = err_from_is_err_and c.from_residual.result c.from_residual.ensures.1 in
    rw (p.1, p.2)
    (let_refused (free (goal.at.returns-in_err-e c).Else-taken)
    (low_at c.in_err-e.ensures (length_words_kept _ _ e.scratch) (length_words_kept _ _ e.counters)))

low : (c : In_ok-e) → let a = c.args in let n = c.lower.new in
    LowAt (site a.reading.now a.scratch.now a.counters.now a.at a.tops) (a.at + 2) (words n.scratch) (words n.counters) (Ok c.in_ok-e.e)
low c = let e = c.lower.auto in low_at c.in_ok-e.ensures (length_words_kept _ _ e.scratch) (length_words_kept _ _ e.counters)

pub put_all-end-requires : goal.put_all-end-requires
put_all-end-requires c = let h = goal.at.put_all-end-requires c in (omega arith, (let_fine (free h.Else-taken) (low h.In_ok-e)).words)

pub put-requires : goal.put-requires
put-requires c =
    let h = goal.at.put-requires c in
    omega (arith, (let_fine (free h.Else-taken) (low h.In_ok-e)).top, length_words_kept _ _ c.put_all-end.auto.buf)

pub overflow_sub-result : goal.overflow_sub-result
overflow_sub-result c = let h = goal.at.overflow_sub-result c in (let_fine (free h.Else-taken) (low h.In_ok-e)).logged

pub returns : goal.returns
returns c = let h = goal.at.returns c in let_done (free h.Else-taken) (low h.In_ok-e) c.put_all-end.ensures c.put.ensures
