-- Each test is the definition's, in its order; behind them a front of the scratch is lent, the rule is lowered and settled there, and written if there is
-- room; only then are counters used. Assumes nothing.
use Prim.Native.Nat.{◌*◌}
use mathlib.Core.Path.{sym}
use native.Mathlib.Omega.{arith}
use Rattle.std.proofs.Common.{rules}
use Rattle.answers.specs.Answers.{scratch_written}
use Rattle.answers.proofs.Lent.{Lent, lent_size}
use Rattle.answers.proofs.Calls.{answered_at, answered_on, Given, slices_ragged, Ready, front_refuses, ready}
use Rattle.lower_call.proofs.LowerCall.{lowering, lower_gives, lower_whole, lower_front, lower_lent, lower_asks}
use Rattle.lower_call.proofs.LowerCall.{worked, rule_refused, lower_within}
use Rattle.lower_call.proofs.lower_or_refuse.Goals.{After-whole_words, After-count-size}
use Rattle.lower_call.proofs.lower_or_refuse.Goals as goal

-- the bytes that the call is lent
abbrev given : After-whole_words → Given
given c =
    let a = c.args in
    record { signature = a.signature.now; rule = a.rule.now; counters = a.counters.now; output = a.output.now; scratch = a.scratch.now }

abbrev call : After-count-size → Given
call c = given (goal.at.After-count-size c).After-whole_words

-- all tests in front are passed
passed : (c : After-count-size) → Ready (lowering (call c)) c.in_ok-sign.sign
passed c =
    ready (lower_whole (call c) c.whole_words.ensures c.if-not-whole_words.false)
    (lower_front (call c) c.count-many.ensures c.count-room.ensures c.in_ok-sign.ensures)

-- a front of the scratch is lent
lent : (c : After-count-size) → Lent (scratch_written (call c).rule) (call c).scratch (128 * c.count-size.result)
lent c = lower_lent (call c) (passed c) c.count-size.ensures

-- ---- a test refuses

pub returns-then-not-whole_words-clause-gives_both : goal.returns-then-not-whole_words-clause-gives_both
returns-then-not-whole_words-clause-gives_both c =
    let k = given (goal.at.returns-then-not-whole_words-clause-gives_both c).After-whole_words in
    lower_gives k (slices_ragged (lowering k) c.whole_words.ensures c.if-not-whole_words.true (answered_at c.at.ensures))

pub returns-in_err-sign-clause-gives_both : goal.returns-in_err-sign-clause-gives_both
returns-in_err-sign-clause-gives_both c =
    let k = given (goal.at.returns-in_err-sign-clause-gives_both c).After-whole_words in
    let whole = lower_whole k c.whole_words.ensures c.if-not-whole_words.false in
    let front = lower_front k c.count-many.ensures c.count-room.ensures c.in_err-sign.ensures in
    lower_gives k (front_refuses whole front (answered_on _ _ c.from_residual.ensures.1))

-- ---- a front of the scratch is lent

pub overflow_mul-lent : goal.overflow_mul-lent
overflow_mul-lent c = omega (arith, (lent (goal.at.overflow_mul-lent c).After-count-size).fits)

pub slice_bounds-lent-end : goal.slice_bounds-lent-end
slice_bounds-lent-end c = (lent (goal.at.slice_bounds-lent-end c).After-count-size).inside

pub slice_bounds-lent-end-2 : goal.slice_bounds-lent-end-2
slice_bounds-lent-end-2 c = sym (lent_size (lent (goal.at.slice_bounds-lent-end-2 c).After-count-size))

-- ---- the rule is lowered and settled there

pub lower_good-requires : goal.lower_good-requires
lower_good-requires c =
    let k = (goal.at.lower_good-requires c).After-count-size in
    lower_asks (call k) (passed k) (lent k)

pub returns-in_err-counts-clause-gives_both : goal.returns-in_err-counts-clause-gives_both
returns-in_err-counts-clause-gives_both c =
    let k = (goal.at.returns-in_err-counts-clause-gives_both c).After-count-size in
    let g = c.lower_good in
    let done = worked (call k) (passed k) c.in_err-counts.ensures g.auto.output g.auto.counters (search rules) (search rules) (search rules) (search rules) in
    lower_gives (call k) (rule_refused {y = passed k} done (answered_on _ _ c.from_residual-in_err-counts.ensures.1))

pub returns-clause-gives_both : goal.returns-clause-gives_both
returns-clause-gives_both c =
    let k = (goal.at.returns-clause-gives_both c).After-count-size in
    let g = c.lower_good in
    let done = worked (call k) (passed k) c.in_ok-counts.ensures g.auto.output g.auto.counters (search rules) (search rules) (search rules) (search rules) in
    lower_gives (call k) (lower_within {y = passed k} done c.count.ensures _ (grind rules))
