-- It is taken by how it begins, and its arguments stand one deeper; where it has none, it ends behind its word. Assumes nothing.
use mathlib.Core.Path.{◌∙◌}
use native.Mathlib.Omega.{arith}
use Rattle.refusals.proofs.Passing.{passed_on}
use Rattle.octets.specs.Words.{words}
use Rattle.octets.proofs.Words.{length_words}
use Rattle.rules.specs.Words.{max_depth}
use Rattle.written.specs.Written.{with_heads}
use Rattle.written.proofs.Laws.{starts, no_expression, leaf_read, one_deeper}
use Rattle.written.proofs.Record.outermost.Goals as goal

-- none begins here
pub returns-in_default : goal.returns-in_default
returns-in_default c =
    let a = c.args in
    rw (c.at.ensures.0, c.at.ensures.1) (no_expression (with_heads a.self.now.heads) (words a.self.now.rule.now) max_depth a.at c.start_at.ensures c.in_default.is)

pub overflow_add-next : goal.overflow_add-next
overflow_add-next c = omega (arith, (starts {s = with_heads c.args.self.now.heads} c.start_at.ensures c.in-Some.is).inside, length_words c.args.self.now.rule.now)

pub returns-then-some-eq0 : goal.returns-then-some-eq0
returns-then-some-eq0 c = leaf_read (starts {s = with_heads c.args.self.now.heads} c.start_at.ensures c.in-Some.is) max_depth c.if-some-eq0.true (λ z. omega arith)

pub returns-in_err-end : goal.returns-in_err-end
returns-in_err-end c =
    passed_on _ _ c.from_residual.ensures.1
    (c.in_err-end.ensures ∙ one_deeper (starts {s = with_heads c.args.self.now.heads} c.start_at.ensures c.in-Some.is) max_depth (λ z. omega arith))

pub returns : goal.returns
returns c = c.in_ok-end.ensures ∙ one_deeper (starts {s = with_heads c.args.self.now.heads} c.start_at.ensures c.in-Some.is) max_depth (λ z. omega arith)
