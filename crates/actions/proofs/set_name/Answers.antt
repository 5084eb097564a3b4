-- A union of a name and a call that becomes a set: the name is one more term behind those of the call's arguments, so that the end of the action is that
-- of any other with a head; it is refused where an argument, the name or the count is. Assumes nothing.
use Prim.Native.Nat.{ℕ, ◌+◌, ◌-◌, ◌^◌, ◌<◌}
use mathlib.Core.Path.{◌≡◌, ap, ◌∙◌}
use mathlib.Core.List.{List}
use native.Mathlib.Omega.{arith}
use lib.ListN.{length, set}
use Rattle.std.specs.Prelude.{Ok}
use Rattle.std.proofs.lemmas.Result.{err_from_is_err_and}
use Rattle.octets.specs.Words.{words}
use Rattle.octets.proofs.Words.{length_words_kept}
use Rattle.rules.specs.Words.{max_depth, count_of}
use Rattle.walks.specs.declared.Tops.{Tops}
use Rattle.walks.proofs.Words.{count_says}
use Rattle.head_exprs.specs.Sites.{Asks}
use Rattle.head_exprs.specs.declared.Reading.{Reading}
use Rattle.head_exprs.proofs.Scopes.{reads_as}
use Rattle.head_exprs.proofs.Sites.{begun_as, site, starts}
use Rattle.actions.specs.Acts.{NameCallAt}
use Rattle.actions.specs.Lowers.{second, third}
use Rattle.actions.proofs.Changes.{Argued, argued, Fine, is_fine, fits_as}
use Rattle.actions.proofs.NameSets.{name_call_at, Naming, args_refused, name_asks, name_refused, end_asks, set_ends}
use Rattle.actions.proofs.set_name.Goals.{After-get-w, In_ok-args, After-put}
use Rattle.actions.proofs.set_name.Goals as goal

pub overflow_add-at : goal.overflow_add-at
overflow_add-at c = let a = c.args in omega (arith, starts a.reading.now a.scratch.now a.counters.now c.requires (omega arith) (omega arith))

pub overflow_add-at-2 : goal.overflow_add-at-2
overflow_add-at-2 c = let a = c.args in omega (arith, starts a.reading.now a.scratch.now a.counters.now c.requires (omega arith) (omega arith))

-- ---- the name is read as v, and the call's kind 3 word as w

naming : (r : Reading) (scratch counters : List ℕ) {at v w : ℕ} {t : Tops}
    → (let k = site r scratch counters at t in
    Asks k (λ sig. NameCallAt sig k.ws at) at → length r.rule.now < 2 ^ 64 → length scratch < 2 ^ 64 → v ≡ second k → w ≡ third k → Naming k v w)
naming r scratch counters known rule_fits scratch_fits isv isw =
    record {
      begun = begun_as (starts r scratch counters known rule_fits scratch_fits) (λ sig x. (name_call_at isv isw sig x).call);
      isv = isv;
      isw = isw;
    }

named : (c : After-get-w) → let a = c.args in Naming (site a.reading.now a.scratch.now a.counters.now a.at a.tops) c.get-name.result c.get-w.result
named c = let a = c.args in naming a.reading.now a.scratch.now a.counters.now c.requires (omega arith) (omega arith) c.get-name.ensures.is c.get-w.ensures.is

pub overflow_add-at-3 : goal.overflow_add-at-3
overflow_add-at-3 c = omega (arith, (named (goal.at.overflow_add-at-3 c).After-get-w).begun)

-- ---- its arguments are lowered

pub returns-in_err-args : goal.returns-in_err-args
returns-in_err-args c =
    let here = named (goal.at.returns-in_err-args c).After-get-w in
    let a = c.lower_all.auto in
    let counted = count_says c.head_word-n.ensures in
    let p = err_from_is_err_and c.from_residual.result c.from_residual.ensures.1 in
    rw (p.1, p.2) (args_refused here (argued counted here.begun (length_words_kept _ _ a.scratch) (length_words_kept _ _ a.counters) c.in_err-args.ensures))

argument : (c : In_ok-args) → let a = c.args in let w = c.get-w.result in let n = c.lower_all.new in
    Argued (site a.reading.now a.scratch.now a.counters.now a.at a.tops) 3 (max_depth - 1) (count_of w) w (words n.scratch) (words n.counters)
    (Ok c.in_ok-args.args)
argument c =
    let a = c.args in
    let here = naming a.reading.now a.scratch.now a.counters.now c.requires (omega arith) (omega arith) c.get-name.ensures.is c.get-w.ensures.is in
    let n = c.lower_all.auto in
    argued (count_says c.head_word-n.ensures) here.begun (length_words_kept _ _ n.scratch) (length_words_kept _ _ n.counters) c.in_ok-args.ensures

fine : (c : In_ok-args) → Fine (argument c)
fine c = is_fine (argument c) (omega arith)

pub may_read-requires : goal.may_read-requires
may_read-requires c = let h = goal.at.may_read-requires c in name_asks (named h.After-get-w) (argument h.In_ok-args)

-- ---- the name may be read, and is put behind them

pub overflow_add-tops : goal.overflow_add-tops
overflow_add-tops c = omega (arith, fine (goal.at.overflow_add-tops c).In_ok-args, count_says c.head_word-n.ensures)

pub put-requires : goal.put-requires
put-requires c = omega (arith, fine (goal.at.put-requires c).In_ok-args, count_says c.head_word-n.ensures)

pub overflow_add-at-then-may_read : goal.overflow_add-at-then-may_read
overflow_add-at-then-may_read c = omega (arith, fine (goal.at.overflow_add-at-then-may_read c).In_ok-args)

pushed : (c : After-put) → let w = c.get-w.result in
    words c.put.new.s ≡ set (words c.lower_all.new.scratch) (c.args.tops.sp + count_of w) c.get-name.result
pushed c = c.put.ensures ∙ ap (λ (i : ℕ). set (words c.lower_all.new.scratch) (c.args.tops.sp + i) c.get-name.result) (count_says c.head_word-n.ensures)

pub put_change-requires : goal.put_change-requires
put_change-requires c =
    let h = goal.at.put_change-requires c in
    fits_as (ap (λ (i : ℕ). i + 1) (count_says c.head_word-n.ensures))
    (end_asks (named h.After-get-w) (argument h.In_ok-args) (reads_as c.get-name.result c.may_read.ensures) c.if-may_read.true (pushed h.After-put)
    (length_words_kept _ _ c.put.auto.s))

pub returns-then-may_read : goal.returns-then-may_read
returns-then-may_read c =
    let h = goal.at.returns-then-may_read c in
    set_ends (named h.After-get-w) (argument h.In_ok-args) (reads_as c.get-name.result c.may_read.ensures) c.if-may_read.true (pushed h.After-put)
    (count_says c.head_word-n.ensures) c.put_change.ensures

-- ---- it may not be read

pub overflow_add-at-4 : goal.overflow_add-at-4
overflow_add-at-4 c = omega (arith, fine (goal.at.overflow_add-at-4 c).In_ok-args)

pub returns : goal.returns
returns c =
    let h = goal.at.returns c in
    name_refused (named h.After-get-w) (argument h.In_ok-args) (reads_as c.get-name.result c.may_read.ensures) c.if-may_read.false c.at.ensures
