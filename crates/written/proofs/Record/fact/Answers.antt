-- One word that takes no arguments is a fact by itself, and any other is told by its first word. Assumes nothing.
use native.Mathlib.Omega.{arith}
use Rattle.octets.proofs.Words.{length_words}
use Rattle.written.specs.Written.{with_heads}
use Rattle.written.proofs.Laws.{starts, leaf_fact}
use Rattle.written.proofs.Record.fact.Goals as goal

pub overflow_add-result : goal.overflow_add-result
overflow_add-result c = omega (arith, (starts {s = with_heads c.args.self.now.heads} c.start_at.ensures c.in-Some-eq0.is).inside, length_words c.args.self.now.rule.now)

pub returns-in-Some-eq0 : goal.returns-in-Some-eq0
returns-in-Some-eq0 c = leaf_fact c.args.self.now.heads (starts {s = with_heads c.args.self.now.heads} c.start_at.ensures c.in-Some-eq0.is) (omega arith)
