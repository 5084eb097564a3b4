-- Lowering a row of actions: each is lowered under the names that those before it let, and what is left of the row makes the whole. Assumes nothing.
use mathlib.Core.Path.{refl, ◌∙◌}
use native.Mathlib.Omega.{arith}
use Rattle.std.proofs.lemmas.Result.{err_from_is_err_and}
use Rattle.octets.proofs.Words.{length_words, length_words_kept}
use Rattle.core_actions.proofs.HeadRows.{row_is, row_start, row_done, turn_asks, names_below, row_stop, names_fit, count_fits, row_next}
use Rattle.core_actions.proofs.to_core_actions.Goals as goal

pub loop-init : goal.loop-init
loop-init c = (refl, refl, row_is (omega arith) (row_start c.requires (omega (arith, length_words c.args.scratch.now, c.well_formed))))

pub overflow_add-tops : goal.overflow_add-tops
overflow_add-tops c = omega (arith, names_below c.loop.invariant.2 (omega arith))

pub lower_action-requires : goal.lower_action-requires
lower_action-requires c = record { known = turn_asks c.loop.invariant.2 (omega arith); top = refl }

pub returns-in_err-one : goal.returns-in_err-one
returns-in_err-one c =
    let p = err_from_is_err_and c.from_residual.result c.from_residual.ensures.1 in
    rw (p.1, p.2) (row_stop c.loop.invariant.2 (omega arith) c.in_err-one.ensures)

pub overflow_add-row : goal.overflow_add-row
overflow_add-row c = omega (arith, names_fit c.loop.invariant.2 (omega arith) c.in_ok-one.ensures)

pub overflow_add-row-in-loop : goal.overflow_add-row-in-loop
overflow_add-row-in-loop c = omega (arith, count_fits c.loop.invariant.2 (omega arith) c.in_ok-one.ensures)

pub loop-preserved : goal.loop-preserved
loop-preserved c =
    let k = c.lower_action in (
      k.auto.counters ∙ c.loop.invariant.0,
      k.auto.scratch ∙ c.loop.invariant.1,
      row_is (omega arith)
          (row_next c.loop.invariant.2 (omega arith) c.in_ok-one.ensures (length_words_kept _ _ k.auto.counters)
          (length_words_kept _ _ k.auto.scratch)),
    )

pub returns : goal.returns
returns c = row_done c.loop.invariant.2 (omega arith)
