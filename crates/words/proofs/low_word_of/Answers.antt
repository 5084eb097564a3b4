-- A count of leading zeros is a range of numbers, and the definition goes by the same ranges. Below 2^28 what has none of the kinds 4 to 7 is below 2^24,
-- and no word. Assumes nothing.
use Prim.Native.Nat.{◌*◌}
use native.Mathlib.Omega.{arith}
use mathlib.Core.Path.{refl}
use Rattle.rules.specs.Words.{limit12, equality_base, header_base, signature_base, action_word}
use Rattle.words.proofs.Ranges.{kind_range, none_of_four, true_within}
use Rattle.words.proofs.WordLaws.{answers, is_equality, is_header, is_action, is_signature, unfit_header, unfit_action, unfit_no_action, unfit_low}
use Rattle.words.proofs.low_word_of.Goals as goal

pub overflow_sub-result : goal.overflow_sub-result
overflow_sub-result c = (kind_range 4 27 c.args.w refl c.ranges.w.fits c.in-4.is).0

pub overflow_sub-p : goal.overflow_sub-p
overflow_sub-p c = (kind_range 5 26 c.args.w refl c.ranges.w.fits c.in-5.is).0

pub overflow_sub-code : goal.overflow_sub-code
overflow_sub-code c = (kind_range 6 25 c.args.w refl c.ranges.w.fits c.in-6.is).0

pub overflow_sub-result-in-7 : goal.overflow_sub-result-in-7
overflow_sub-result-in-7 c = (kind_range 7 24 c.args.w refl c.ranges.w.fits c.in-7.is).0

pub returns-in-4 : goal.returns-in-4
returns-in-4 c =
    let r = kind_range 4 27 c.args.w refl c.ranges.w.fits c.in-4.is in
    answers c.args.w (is_equality c.args.w (true_within equality_base equality_base c.args.w (omega arith) (omega arith)))

pub returns-then-p : goal.returns-then-p
returns-then-p c =
    let r = kind_range 5 26 c.args.w refl c.ranges.w.fits c.in-5.is in
    answers c.args.w (is_header c.args.w (true_within header_base (limit12 * limit12) c.args.w (omega arith) (omega arith)))

pub returns-else-p : goal.returns-else-p
returns-else-p c =
    let r = kind_range 5 26 c.args.w refl c.ranges.w.fits c.in-5.is in
    answers c.args.w (unfit_header c.args.w (omega arith) (omega arith))

pub returns-in-1-to-8 : goal.returns-in-1-to-8
returns-in-1-to-8 c =
    let r = kind_range 6 25 c.args.w refl c.ranges.w.fits c.in-6.is in
    answers c.args.w (is_action c.args.w (true_within (action_word 1) 8 c.args.w (omega arith) (omega arith)))

pub returns-in_default-code : goal.returns-in_default-code
returns-in_default-code c =
    let r = kind_range 6 25 c.args.w refl c.ranges.w.fits c.in-6.is in
    answers c.args.w (unfit_no_action c.args.w (omega arith) (omega arith))

pub returns-in_default-code-2 : goal.returns-in_default-code-2
returns-in_default-code-2 c =
    let r = kind_range 6 25 c.args.w refl c.ranges.w.fits c.in-6.is in
    answers c.args.w (unfit_action c.args.w (omega arith) (omega arith))

pub returns-in-7 : goal.returns-in-7
returns-in-7 c =
    let r = kind_range 7 24 c.args.w refl c.ranges.w.fits c.in-7.is in
    answers c.args.w (is_signature c.args.w (true_within signature_base signature_base c.args.w (omega arith) (omega arith)))

pub returns-in_default : goal.returns-in_default
returns-in_default c =
    answers c.args.w (unfit_low c.args.w (none_of_four 4 24 c.args.w refl (omega arith) (omega arith) (omega arith) (omega arith) c.requires))
