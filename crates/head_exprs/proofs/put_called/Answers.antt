-- The end of a call: the terms of its arguments lie on the stack, so that behind one count of its head the words of its action are 7, the variable, its
-- kind 3 word and what lies there. Assumes nothing.
use native.Mathlib.Omega.{arith}
use Rattle.octets.proofs.Words.{length_words, length_words_kept}
use Rattle.walks.proofs.Uses.{head_used}
use Rattle.walks.proofs.Words.{head_says, count_says}
use Rattle.head_exprs.proofs.Binding.{bound_done}
use Rattle.head_exprs.proofs.put_called.Goals as goal

pub overflow_add-result : goal.overflow_add-result
overflow_add-result c = omega (arith, c.requires.log, length_words c.args.scratch.now, c.well_formed)

pub returns : goal.returns
returns c =
    let t = c.take in
    bound_done
    (head_used c.requires (head_says c.head_word-head.ensures) c.in_ok-v.ensures (length_words_kept _ _ t.auto.scratch) (length_words_kept _ _ t.auto.counters))
    (count_says c.head_word-head.ensures) c.put_row-end.ensures
