-- Each test is the definition's, in its order; behind them the free variables are found, and written if there is room. Assumes nothing.
use mathlib.Core.Path.{◌≡◌, refl}
use mathlib.Core.Bool.{Bool, true}
use mathlib.Core.List.{List, []}
use Prim.Native.Nat.{ℕ}
use Rattle.std.proofs.Common.{rules}
use Rattle.octets.specs.Words.{bytes_of}
use Rattle.rules.specs.Calls.{whole_words}
use Rattle.rules.specs.Refusals.{ok}
use Rattle.refusals.specs.Numbers.{told}
use Rattle.signature.specs.Signature.{sign_of}
use Rattle.signature.specs.declared.Signature.{Signature}
use Rattle.answers.proofs.Tests.{front}
use Rattle.answers.proofs.Calls.{answered_at, answered_on, Given, slices_ragged, Ready, front_refuses, ready, ends_within}
use Rattle.free_vars_call.proofs.FreeVars.{freeing, free_gives, free_whole, free_asks, free_done}
use Rattle.free_vars_call.proofs.find_or_refuse.Goals as goal

-- the bytes that the call is lent, which has no counters and no scratch
abbrev given : (signature rule output : List ℕ) → Given
given s r o = record { signature = s; rule = r; counters = []; output = o; scratch = [] }

-- all tests in front are passed
tests_passed : (k : Given) {all : Bool} {g : Signature} → all ≡ whole_words (freeing k).lengths → all ≡ true → ok g ≡ told sign_of (front (freeing k).tests)
    → Ready (freeing k) g
tests_passed k test whole sign = ready (free_whole k test whole) sign

pub returns-then-not-whole_words : goal.returns-then-not-whole_words
returns-then-not-whole_words c =
    let k = given c.args.signature.now c.args.rule.now c.args.output.now in
    free_gives k (slices_ragged (freeing k) c.whole_words.ensures c.if-not-whole_words.true (answered_at c.at.ensures))

pub returns-in_err-sign : goal.returns-in_err-sign
returns-in_err-sign c =
    let k = given c.args.signature.now c.args.rule.now c.args.output.now in
    let whole = free_whole k c.whole_words.ensures c.if-not-whole_words.false in
    free_gives k (front_refuses whole c.in_err-sign.ensures (answered_on _ _ c.from_residual.ensures.1))

pub get_free_vars-requires : goal.get_free_vars-requires
get_free_vars-requires c =
    let k = given c.args.signature.now c.args.rule.now c.args.output.now in
    free_asks k (tests_passed k c.whole_words.ensures c.if-not-whole_words.false c.in_ok-sign.ensures)

pub returns : goal.returns
unfolding bytes_of
returns c =
    let k = given c.args.signature.now c.args.rule.now c.args.output.now in
    let passed = tests_passed k c.whole_words.ensures c.if-not-whole_words.false c.in_ok-sign.ensures in
    let v = c.get_free_vars in
    let done = free_done k passed v.ensures v.auto.out (search rules) (search rules) in
    free_gives k (ends_within {y = passed} done c.count.ensures _ (grind rules) (λ l. refl) (λ l. refl))
