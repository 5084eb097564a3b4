-- Passing over an expression: each word passed leaves the expressions under it to be passed, and where none is left the end is reached.
-- Assumes nothing.
use native.Mathlib.Omega.{arith}
use Rattle.octets.proofs.Words.{length_words}
use Rattle.core_actions.proofs.Forests.{passing, left_few, passed, next_inside, word_high, pass_word}
use Rattle.core_actions.proofs.unions.skip.Goals as goal

pub loop-left-init : goal.loop-left-init
loop-left-init c = passing c.requires (omega (arith, length_words c.args.rule.now, c.well_formed))

pub get-w-requires : goal.get-w-requires
get-w-requires c = next_inside c.loop-left.invariant c.loop-left-test.true

pub overflow_sub-left : goal.overflow_sub-left
overflow_sub-left c = omega (arith, c.loop-left-test.true)

pub arity-requires : goal.arity-requires
arity-requires c = word_high c.loop-left.invariant c.loop-left-test.true c.get-w.ensures.is

pub overflow_add-left : goal.overflow_add-left
overflow_add-left c = let i = c.loop-left.invariant in omega (arith, c.arity.ensures.1, left_few i, i.fits)

pub overflow_add-next : goal.overflow_add-next
overflow_add-next c = let i = c.loop-left.invariant in omega (arith, next_inside i c.loop-left-test.true, i.fits)

pub loop-left-smaller : goal.loop-left-smaller
loop-left-smaller c = omega (arith, next_inside c.loop-left.invariant c.loop-left-test.true)

pub loop-left-preserved : goal.loop-left-preserved
loop-left-preserved c = pass_word c.loop-left.invariant c.loop-left-test.true c.get-w.ensures.is c.arity.ensures.0

pub returns : goal.returns
returns c = passed c.loop-left.invariant (omega (arith, c.loop-left-test.false))
