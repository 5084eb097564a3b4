-- Set, delete and subsume: the expressions are lowered onto the stack, and what lies there is what the end of an action with a head asks; a refusal of
-- either step is the action's own. Assumes nothing.
use Prim.Native.Nat.{ℕ, ◌+◌, ◌^◌, ◌≤◌, ◌<◌}
use mathlib.Core.Path.{◌≡◌, ap}
use mathlib.Core.List.{List}
use native.Mathlib.Omega.{arith}
use lib.ListN.{length}
use Rattle.std.specs.Prelude.{Ok}
use Rattle.std.proofs.lemmas.Result.{err_from_is_err_and}
use Rattle.octets.specs.Words.{words}
use Rattle.octets.proofs.Words.{length_words_kept}
use Rattle.rules.specs.Words.{max_depth, count_of}
use Rattle.walks.specs.declared.Tops.{Tops}
use Rattle.walks.proofs.Words.{count_says}
use Rattle.head_exprs.specs.Sites.{Asks}
use Rattle.head_exprs.specs.declared.Reading.{Reading}
use Rattle.head_exprs.proofs.Sites.{begun_as, site, starts}
use Rattle.actions.specs.Acts.{ChangeAt}
use Rattle.actions.specs.Lowers.{second}
use Rattle.actions.proofs.Changes.{Argued, argued, is_fine, fits_as, change_at, Changing, change_refused, change_ends}
use Rattle.actions.proofs.lower_change.Goals.{After-get-w, In_ok-args}
use Rattle.actions.proofs.lower_change.Goals as goal

pub overflow_add-at : goal.overflow_add-at
overflow_add-at c = let a = c.args in omega (arith, starts a.reading.now a.scratch.now a.counters.now c.requires.known (omega arith) (omega arith))

-- ---- the kind 3 word is read as w

changing : (r : Reading) (scratch counters : List ℕ) {code at more w : ℕ} {t : Tops}
    → (let k = site r scratch counters at t in
    Asks k (λ sig. ChangeAt sig k.ws more at) at → more ≤ 1 → length r.rule.now < 2 ^ 64 → length scratch < 2 ^ 64 → w ≡ second k → Changing k code more w)
changing r scratch counters known few rule_fits scratch_fits is =
    record { begun = begun_as (starts r scratch counters known rule_fits scratch_fits) (change_at is); is = is; few = few }

change : (c : After-get-w) → let a = c.args in Changing (site a.reading.now a.scratch.now a.counters.now a.at a.tops) a.code a.more c.get-w.result
change c = let a = c.args in changing a.reading.now a.scratch.now a.counters.now c.requires.known c.requires.few (omega arith) (omega arith) c.get-w.ensures.is

pub overflow_add-at-2 : goal.overflow_add-at-2
overflow_add-at-2 c = omega (arith, (change (goal.at.overflow_add-at-2 c).After-get-w).begun)

-- ---- its expressions are lowered

pub returns-in_err-args : goal.returns-in_err-args
returns-in_err-args c =
    let here = change (goal.at.returns-in_err-args c).After-get-w in
    let counted = ap (λ (i : ℕ). i + c.args.more) (count_says c.head_word.ensures) in
    let a = c.lower_arguments.auto in
    let p = err_from_is_err_and c.from_residual.result c.from_residual.ensures.1 in
    rw (p.1, p.2) (change_refused here (argued counted here.begun (length_words_kept _ _ a.scratch) (length_words_kept _ _ a.counters) c.in_err-args.ensures))

argument : (c : In_ok-args) → let a = c.args in let w = c.get-w.result in let n = c.lower_arguments.new in
    Argued (site a.reading.now a.scratch.now a.counters.now a.at a.tops) 2 max_depth (count_of w + a.more) w (words n.scratch) (words n.counters)
    (Ok c.in_ok-args.args)
argument c =
    let a = c.args in
    let q = c.requires in
    let here = changing a.reading.now a.scratch.now a.counters.now {code = a.code} q.known q.few (omega arith) (omega arith) c.get-w.ensures.is in
    let counted = ap (λ (i : ℕ). i + a.more) (count_says c.head_word.ensures) in
    let n = c.lower_arguments.auto in
    argued counted here.begun (length_words_kept _ _ n.scratch) (length_words_kept _ _ n.counters) c.in_ok-args.ensures

pub overflow_add-at-3 : goal.overflow_add-at-3
overflow_add-at-3 c = omega (arith, (change (goal.at.overflow_add-at-3 c).After-get-w).begun)

pub put_change-requires : goal.put_change-requires
put_change-requires c =
    fits_as (ap (λ (i : ℕ). i + c.args.more) (count_says c.head_word.ensures))
    (is_fine (argument (goal.at.put_change-requires c).In_ok-args) (omega arith)).fits

pub returns : goal.returns
returns c =
    let h = goal.at.returns c in
    change_ends (change h.After-get-w) (argument h.In_ok-args) _ (ap (λ (i : ℕ). i + c.args.more) (count_says c.head_word.ensures)) c.put_change.ensures
