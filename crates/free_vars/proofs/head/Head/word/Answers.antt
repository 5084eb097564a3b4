-- A head ends where its rule does. Assumes nothing.
use native.Mathlib.Omega.{arith}
use Rattle.octets.proofs.Words.{length_words}
use Rattle.free_vars.proofs.head.Head.word.Goals as goal

pub overflow_add-self : goal.overflow_add-self
overflow_add-self c = omega (arith, length_words c.args.self.now.rule.now)
