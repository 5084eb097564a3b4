-- The number of words left and the depth left fall together, and `arguments`, which calls `expression` at its own place, has one more: the one proof of
-- their cycle. Each expression is taken by how it begins, and what is left of a row answers as the whole does: its next one is read, or, where that is the
-- last, its arguments stand for it. Assumes nothing.
use mathlib.Core.Path.{◌∙◌}
use native.Mathlib.Omega.{arith}
use Rattle.refusals.proofs.Passing.{passed_on}
use Rattle.octets.specs.Words.{words}
use Rattle.octets.proofs.Words.{length_words}
use Rattle.written.specs.Written.{with_heads}
use Rattle.written.proofs.Laws.{starts, no_expression, too_deep_lem, one_deeper, rest_start, leaf_read, rest_end, rest_stops, rest_on, rest_next, rest_last}
use Rattle.written.proofs.Record.+arguments_expression.Goals as goal

pub arguments-loop-left-init : goal.arguments-loop-left-init
arguments-loop-left-init t c = rest_start

-- none begins here
pub arguments-returns-in_default : goal.arguments-returns-in_default
arguments-returns-in_default t c =
    let a = c.args in
    let at = c.at.ensures in
    let none = no_expression (with_heads a.self.now.heads) (words a.self.now.rule.now) c.loop-left.deep c.loop-left.next c.start_at.ensures c.in_default.is in
    rw (at.0, at.1) (rest_stops c.loop-left.invariant (omega arith) none)

-- it is a name or a literal
pub arguments-overflow_add-next : goal.arguments-overflow_add-next
arguments-overflow_add-next t c = omega (arith, (starts {s = with_heads c.args.self.now.heads} c.start_at.ensures c.in-Some.is).inside, length_words c.args.self.now.rule.now)

pub arguments-loop-left-preserved-then-some-eq0 : goal.arguments-loop-left-preserved-then-some-eq0
arguments-loop-left-preserved-then-some-eq0 t c =
    let begins = starts {s = with_heads c.args.self.now.heads} c.start_at.ensures c.in-Some.is in
    rest_next c.loop-left.invariant (leaf_read begins c.loop-left.deep c.if-some-eq0.true (λ z. omega arith)) (omega arith)

-- it is the last one
pub arguments-overflow_add-next-then-left-eq0 : goal.arguments-overflow_add-next-then-left-eq0
arguments-overflow_add-next-then-left-eq0 t c =
    omega (arith, (starts {s = with_heads c.args.self.now.heads} c.start_at.ensures c.in-Some.is).inside, length_words c.args.self.now.rule.now)

pub arguments-loop-left-preserved-then-left-eq0 : goal.arguments-loop-left-preserved-then-left-eq0
arguments-loop-left-preserved-then-left-eq0 t c =
    rest_last c.loop-left.invariant (starts {s = with_heads c.args.self.now.heads} c.start_at.ensures c.in-Some.is) (omega arith) c.if-left-eq0.true (omega arith)

-- it is read by itself
pub arguments-expression-requires : goal.arguments-expression-requires
arguments-expression-requires t c =
    (omega (arith, c.decreases, c.loop-left.invariant.on, c.loop-left.invariant.down), starts {s = with_heads c.args.self.now.heads} c.start_at.ensures c.in-Some.is)

pub arguments-returns-in_err-next : goal.arguments-returns-in_err-next
arguments-returns-in_err-next t c =
    passed_on _ _ c.from_residual.ensures.1 (rest_stops c.loop-left.invariant (omega arith) c.in_err-next.ensures)

-- what was read ends behind its first word
pub arguments-loop-left-smaller : goal.arguments-loop-left-smaller
arguments-loop-left-smaller t c =
    omega (arith, (starts {s = with_heads c.args.self.now.heads} c.start_at.ensures c.in-Some.is).inside, rest_on c.loop-left.invariant c.in_ok-next.ensures)

pub arguments-loop-left-preserved : goal.arguments-loop-left-preserved
arguments-loop-left-preserved t c = rest_next c.loop-left.invariant c.in_ok-next.ensures (omega arith)

pub arguments-returns : goal.arguments-returns
arguments-returns t c = rest_end c.loop-left.invariant (omega arith)

pub expression-returns-then-depth-eq0 : goal.expression-returns-then-depth-eq0
expression-returns-then-depth-eq0 t c = rw (c.at.ensures.0, c.at.ensures.1) (too_deep_lem c.requires c.args.depth c.if-depth-eq0.true)

pub expression-overflow_add-next : goal.expression-overflow_add-next
expression-overflow_add-next t c = omega (arith, c.requires.inside, length_words c.args.self.now.rule.now)

pub expression-returns-then-count-eq0 : goal.expression-returns-then-count-eq0
expression-returns-then-count-eq0 t c =
    leaf_read c.requires c.args.depth c.if-count-eq0.true c.if-depth-eq0.false

pub expression-arguments-requires : goal.expression-arguments-requires
expression-arguments-requires t c = (omega (arith, c.requires.inside, c.decreases), tt)

pub expression-returns : goal.expression-returns
expression-returns t c =
    c.arguments.ensures ∙ one_deeper c.requires c.args.depth c.if-depth-eq0.false
