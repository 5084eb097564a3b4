-- The end of an action with a head: the terms of the walk lie on the stack, so that behind one count of the head the action's words are its code, its kind
-- 3 word and what lies there. Assumes nothing.
use native.Mathlib.Omega.{arith}
use Rattle.octets.proofs.Words.{length_words, length_words_kept}
use Rattle.walks.proofs.Uses.{head_used}
use Rattle.walks.proofs.Words.{head_says}
use Rattle.actions.proofs.Closing.{closed}
use Rattle.actions.proofs.put_change.Goals as goal

pub overflow_add-result : goal.overflow_add-result
overflow_add-result c = omega (arith, c.requires.0.log, length_words c.args.scratch.now, c.well_formed)

pub overflow_add-result-2 : goal.overflow_add-result-2
overflow_add-result-2 c = omega (arith, c.requires.0.log, length_words c.args.scratch.now, c.well_formed)

pub returns : goal.returns
returns c =
    let t = c.take in
    closed c.args.code
    (head_used c.requires.0 (head_says c.head_word-h.ensures) c.in_ok-take.ensures
    (length_words_kept _ _ t.auto.scratch) (length_words_kept _ _ t.auto.counters))
    c.put_row-end.ensures
