-- Lowering an expression and a row of arguments: the one proof of their cycle. The depth falls at each call's arguments; a name or a literal is its own
-- term, a call's term is the variable that its action binds, and what is left of a row makes the whole. Assumes nothing.
use Prim.Native.Nat.{ℕ, ◌+◌, ◌-◌, ◌^◌, ◌<◌}
use mathlib.Core.Path.{◌≡◌, refl, sym, ◌∙◌}
use mathlib.Core.List.{List}
use native.Mathlib.Omega.{arith}
use lib.ListN.{length, get_or}
use Rattle.std.proofs.lemmas.Result.{err_from_is_err_and}
use Rattle.octets.specs.Words.{words}
use Rattle.octets.proofs.Words.{length_words, length_words_kept}
use Rattle.rules.specs.Words.{literal_base}
use Rattle.walks.specs.Steps.{ExprAt}
use Rattle.rules.specs.Signature.{Sig}
use Rattle.walks.specs.declared.Tops.{Tops}
use Rattle.walks.proofs.Read.{recount}
use Rattle.walks.proofs.Words.{leaf_high, call_low, count_says}
use Rattle.head_exprs.specs.Scopes.{Scoped}
use Rattle.head_exprs.specs.Sites.{Asks}
use Rattle.head_exprs.specs.declared.Reading.{Reading}
use Rattle.head_exprs.proofs.Scopes.{reads_as}
use Rattle.head_exprs.proofs.Sites.{site, starts}
use Rattle.head_exprs.proofs.Expressions.{scope_in}
use Rattle.head_exprs.proofs.Arguments.{row_start, row_is, row_fits, row_done, on, top_inside, next_asks, row_stop, row_next}
use Rattle.head_exprs.proofs.Calls.{Place, place, Begun, word_inside, args_room, leaf_read, leaf_unbound, Called, called, argued, bare}
use Rattle.head_exprs.proofs.Calls.{args_refused, end_fits, call_answer}
use Rattle.head_exprs.proofs.Reading.+lower_lower_all.Goals as goal

-- ---- an expression: its place, whose word is w, and which names are bound there

abbrev expression : (r : Reading) (scratch counters : List ℕ) (d at : ℕ) → Tops → ℕ → Place
expression r scratch counters d at t w = place (words r.rule.now) (words scratch) (words counters) d at t.to t.sp t.log w

abbrev Bound : Reading → List ℕ → Sig → List ℕ → Type 0
Bound r scratch sig bound = Scoped sig bound (words scratch) r.scope

-- the word is read
word : (r : Reading) (scratch counters : List ℕ) {d at w : ℕ} {t : Tops}
    → (let k = site r scratch counters at t in
    Asks k (λ sig. ExprAt sig k.ws d at) at → length r.rule.now < 2 ^ 64 → length scratch < 2 ^ 64 → w ≡ get_or k.ws at 0
    → Begun (expression r scratch counters d at t w) (Bound r scratch))
word r scratch counters asks rule_fits scratch_fits is =
    let q = asks.0 in
    let names = q.known.2 in
    record {
      known = record { sig = q.sig; known = (q.known.0, q.known.1) };
      bound = names.bound;
      binds = names.scoped;
      room = asks.1.0;
      rule_fits = omega (arith, length_words r.rule.now);
      scratch_fits = omega (arith, length_words scratch);
      is = is;
    }

-- and it is a call's
call : (r : Reading) (scratch counters : List ℕ) {d at w : ℕ} {t : Tops}
    → (let k = site r scratch counters at t in
    Asks k (λ sig. ExprAt sig k.ws d at) at → length r.rule.now < 2 ^ 64 → length scratch < 2 ^ 64 → w ≡ get_or k.ws at 0 → w < literal_base
    → Called (expression r scratch counters d at t w) (Bound r scratch))
call r scratch counters asks rule_fits scratch_fits is low = called (word r scratch counters asks rule_fits scratch_fits is) low

pub lower-overflow_add-here : goal.lower-overflow_add-here
lower-overflow_add-here t c =
    let here = let a = c.args in word a.self.now a.scratch.now a.counters.now c.requires (omega arith) (omega arith) c.get-w.ensures.is in
    omega (arith, word_inside here, here.rule_fits)

-- ---- a name or a literal

pub lower-returns-then-may_read : goal.lower-returns-then-may_read
lower-returns-then-may_read t c =
    let here = let a = c.args in word a.self.now a.scratch.now a.counters.now c.requires (omega arith) (omega arith) c.get-w.ensures.is in
    leaf_read here (leaf_high c.is_leaf.ensures c.if-is_leaf.true) (reads_as c.get-w.result c.may_read.ensures) c.if-may_read.true

pub lower-returns-then-is_leaf : goal.lower-returns-then-is_leaf
lower-returns-then-is_leaf t c =
    let here = let a = c.args in word a.self.now a.scratch.now a.counters.now c.requires (omega arith) (omega arith) c.get-w.ensures.is in
    leaf_unbound here (leaf_high c.is_leaf.ensures c.if-is_leaf.true) (reads_as c.get-w.result c.may_read.ensures) c.if-may_read.false c.at.ensures

-- ---- a call without arguments

pub lower-put_called-requires : goal.lower-put_called-requires
lower-put_called-requires t c =
    let a = c.args in
    let low = call_low c.is_leaf.ensures c.if-is_leaf.false in
    let here = call a.self.now a.scratch.now a.counters.now c.requires (omega arith) (omega arith) c.get-w.ensures.is low in
    end_fits (bare here (sym (count_says c.head_word-n.ensures) ∙ c.if-n-eq0.true))

pub lower-returns-then-n-eq0 : goal.lower-returns-then-n-eq0
lower-returns-then-n-eq0 t c =
    let a = c.args in
    let low = call_low c.is_leaf.ensures c.if-is_leaf.false in
    let here = call a.self.now a.scratch.now a.counters.now c.requires (omega arith) (omega arith) c.get-w.ensures.is low in
    call_answer (bare here (sym (count_says c.head_word-n.ensures) ∙ c.if-n-eq0.true)) c.put_called.ensures

-- ---- a call with arguments

pub lower-lower_all-requires : goal.lower-lower_all-requires
lower-lower_all-requires t c =
    let a = c.args in
    let low = call_low c.is_leaf.ensures c.if-is_leaf.false in
    let here = call a.self.now a.scratch.now a.counters.now c.requires (omega arith) (omega arith) c.get-w.ensures.is low in
    let g = here.begun in
    let q = g.known in
    let args = recount q.sig (words a.self.now.rule.now) (a.depth - 1) _ _ (a.at + 1) (sym (count_says c.head_word-n.ensures)) here.facts.args in (
      omega (arith, c.decreases, here.facts.inside, here.facts.deep),
      (record { sig = q.sig; known = (args, q.known.1, record { bound = g.bound; scoped = g.binds }) }, (args_room g, scope_in c.requires.1.1)),
    )

pub lower-returns-in_err-args : goal.lower-returns-in_err-args
lower-returns-in_err-args t c =
    let a = c.args in
    let low = call_low c.is_leaf.ensures c.if-is_leaf.false in
    let here = call a.self.now a.scratch.now a.counters.now c.requires (omega arith) (omega arith) c.get-w.ensures.is low in
    let k = c.lower_all.auto in
    let args = argued here (count_says c.head_word-n.ensures) c.in_err-args.ensures (length_words_kept _ _ k.counters) (length_words_kept _ _ k.scratch) in
    let p = err_from_is_err_and c.from_residual.result c.from_residual.ensures.1 in
    rw (p.1, p.2) (args_refused args)

pub lower-put_called-requires-2 : goal.lower-put_called-requires-2
lower-put_called-requires-2 t c =
    let a = c.args in
    let low = call_low c.is_leaf.ensures c.if-is_leaf.false in
    let here = call a.self.now a.scratch.now a.counters.now c.requires (omega arith) (omega arith) c.get-w.ensures.is low in
    let k = c.lower_all.auto in
    end_fits (argued here (count_says c.head_word-n.ensures) c.in_ok-args.ensures (length_words_kept _ _ k.counters) (length_words_kept _ _ k.scratch))

pub lower-returns : goal.lower-returns
lower-returns t c =
    let a = c.args in
    let low = call_low c.is_leaf.ensures c.if-is_leaf.false in
    let here = call a.self.now a.scratch.now a.counters.now c.requires (omega arith) (omega arith) c.get-w.ensures.is low in
    let k = c.lower_all.auto in
    let args = argued here (count_says c.head_word-n.ensures) c.in_ok-args.ensures (length_words_kept _ _ k.counters) (length_words_kept _ _ k.scratch) in
    call_answer args c.put_called-2.ensures

-- ---- the row of arguments

pub lower_all-loop-top-init : goal.lower_all-loop-top-init
lower_all-loop-top-init t c = (
  refl,
  refl,
  row_is (omega arith) (row_start (let a = c.args in starts a.self.now a.scratch.now a.counters.now c.requires (omega arith) (omega arith))),
)

pub lower_all-overflow_add-top-end : goal.lower_all-overflow_add-top-end
lower_all-overflow_add-top-end t c =
    omega (arith, row_fits (row_start (let a = c.args in starts a.self.now a.scratch.now a.counters.now c.requires (omega arith) (omega arith))))

pub lower_all-lower-requires : goal.lower_all-lower-requires
lower_all-lower-requires t c =
    let some : 0 < c.args.tops.sp + c.args.n - c.loop-top.top = omega arith in
    let row = c.loop-top.invariant.2 in
    (omega (arith, c.decreases, on row some), rw c.tops-here.ensures (next_asks row some))

pub lower_all-returns-in_err-walk : goal.lower_all-returns-in_err-walk
lower_all-returns-in_err-walk t c =
    let some : 0 < c.args.tops.sp + c.args.n - c.loop-top.top = omega arith in
    let p = err_from_is_err_and c.from_residual.result c.from_residual.ensures.1 in
    rw (p.1, p.2) (row_stop c.loop-top.invariant.2 some (rw c.tops-here.ensures at c.in_err-walk.ensures))

pub lower_all-put-requires : goal.lower_all-put-requires
lower_all-put-requires t c =
    let some : 0 < c.args.tops.sp + c.args.n - c.loop-top.top = omega arith in
    let kept = length_words_kept c.lower.new.scratch c.loop-top.scratch c.lower.auto.scratch in
    omega (arith, top_inside c.loop-top.invariant.2 some, kept)

pub lower_all-loop-top-preserved : goal.lower_all-loop-top-preserved
lower_all-loop-top-preserved t c =
    let some : 0 < c.args.tops.sp + c.args.n - c.loop-top.top = omega arith in
    let k = c.lower in
    let p = c.put in (
      k.auto.counters ∙ c.loop-top.invariant.0,
      p.auto.s ∙ k.auto.scratch ∙ c.loop-top.invariant.1,
      row_is (omega arith) (row_next c.loop-top.invariant.2 some (rw c.tops-here.ensures at c.in_ok-walk.ensures) (length_words_kept _ _ k.auto.counters)
          (length_words_kept _ _ (p.auto.s ∙ k.auto.scratch)) p.ensures),
    )

pub lower_all-returns : goal.lower_all-returns
lower_all-returns t c = row_done c.loop-top.invariant.2 (omega arith)
