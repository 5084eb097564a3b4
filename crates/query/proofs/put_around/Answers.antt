-- Two stores around words that stand: with these they are one row. Assumes nothing.
use native.Mathlib.Omega.{arith}
use Rattle.octets.proofs.Words.{length_words, length_words_kept}
use Rattle.query.proofs.Direct.{around}
use Rattle.query.proofs.put_around.Goals as goal

pub overflow_add-end : goal.overflow_add-end
overflow_add-end c = omega (arith, length_words c.args.scratch.now, c.requires)

pub overflow_add-end-2 : goal.overflow_add-end-2
overflow_add-end-2 c = omega (arith, length_words c.args.scratch.now, c.requires)

pub overflow_add-result : goal.overflow_add-result
overflow_add-result c = omega (arith, length_words c.args.scratch.now, c.requires)

pub returns : goal.returns
returns c = (omega arith, around _ _ _ _ _ _ _ c.requires (length_words_kept _ _ c.put.auto.s) c.put.ensures c.put-2.ensures)
