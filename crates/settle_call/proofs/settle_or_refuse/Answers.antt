-- Each test is the definition's, in its order; behind them a front of the scratch is lent, the rule is settled there, and written if there is room. Assumes
-- nothing.
use Prim.Native.Nat.{◌*◌}
use mathlib.Core.Path.{refl, sym}
use mathlib.Core.List.{[]}
use native.Mathlib.Omega.{arith}
use Rattle.std.proofs.Common.{rules}
use Rattle.octets.specs.Words.{bytes_of}
use Rattle.answers.specs.Answers.{scratch_flat}
use Rattle.answers.proofs.Lent.{Lent, lent_size}
use Rattle.answers.proofs.Calls.{answered_at, answered_on, Given, slices_ragged, Ready, front_refuses, ready, ends_within}
use Rattle.settle_call.proofs.Settled.{settling, settle_gives, settle_whole, settle_front, settle_lent, settle_asks, settle_done}
use Rattle.settle_call.proofs.settle_or_refuse.Goals.{After-whole_words, After-count-n}
use Rattle.settle_call.proofs.settle_or_refuse.Goals as goal

-- the bytes that the call is lent, which has no counters
abbrev given : After-whole_words → Given
given c =
    let a = c.args in record { signature = a.signature.now; rule = a.rule.now; counters = []; output = a.output.now; scratch = a.scratch.now }

abbrev call : After-count-n → Given
call c = given (goal.at.After-count-n c).After-whole_words

-- all tests in front are passed
passed : (c : After-count-n) → Ready (settling (call c)) c.in_ok-sign.sign
passed c =
    ready (settle_whole (call c) c.whole_words.ensures c.if-not-whole_words.false) (settle_front (call c) c.count.ensures c.in_ok-sign.ensures)

-- a front of the scratch is lent
lent : (c : After-count-n) → Lent (scratch_flat (call c).rule) (call c).scratch (64 * c.count-n.result)
lent c = settle_lent (call c) (passed c) c.count-n.ensures

-- ---- a test refuses

pub returns-then-not-whole_words-clause-gives : goal.returns-then-not-whole_words-clause-gives
returns-then-not-whole_words-clause-gives c =
    let k = given (goal.at.returns-then-not-whole_words-clause-gives c).After-whole_words in
    settle_gives k (slices_ragged (settling k) c.whole_words.ensures c.if-not-whole_words.true (answered_at c.at.ensures))

pub returns-in_err-sign-clause-gives : goal.returns-in_err-sign-clause-gives
returns-in_err-sign-clause-gives c =
    let k = given (goal.at.returns-in_err-sign-clause-gives c).After-whole_words in
    let whole = settle_whole k c.whole_words.ensures c.if-not-whole_words.false in
    settle_gives k (front_refuses whole (settle_front k c.count.ensures c.in_err-sign.ensures) (answered_on _ _ c.from_residual.ensures.1))

-- ---- a front of the scratch is lent

pub overflow_mul-n : goal.overflow_mul-n
overflow_mul-n c = omega (arith, (lent (goal.at.overflow_mul-n c).After-count-n).fits)

pub slice_bounds-settle_good-end : goal.slice_bounds-settle_good-end
slice_bounds-settle_good-end c = (lent (goal.at.slice_bounds-settle_good-end c).After-count-n).inside

pub slice_bounds-settle_good-end-2 : goal.slice_bounds-settle_good-end-2
slice_bounds-settle_good-end-2 c = sym (lent_size (lent (goal.at.slice_bounds-settle_good-end-2 c).After-count-n))

-- ---- the rule is settled there

pub settle_good-counts-requires : goal.settle_good-counts-requires
settle_good-counts-requires c =
    let k = (goal.at.settle_good-counts-requires c).After-count-n in
    let h = settle_asks (call k) (passed k) (lent k) in
    record { some_flat = h.0; rule_in_bounds = h.1 }

pub returns-clause-gives : goal.returns-clause-gives
unfolding bytes_of
returns-clause-gives c =
    let k = (goal.at.returns-clause-gives c).After-count-n in
    let g = c.settle_good-counts in
    let done = settle_done (call k) (passed k) g.ensures g.auto.output (search rules) (search rules) in
    settle_gives (call k) (ends_within {y = passed k} done c.count-2.ensures _ (grind rules) (λ l. refl) (λ l. refl))
