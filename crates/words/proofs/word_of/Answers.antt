-- A count of leading zeros is a range of numbers, and the definition goes by the same ranges. Of the kinds from 4 up `low_word_of` tells. Assumes nothing.
use native.Mathlib.Omega.{arith}
use mathlib.Core.Path.{refl}
use Rattle.rules.specs.Words.{limit12, limit16, name_base, literal_base, head_base}
use Rattle.words.proofs.Ranges.{kind_range, none_of_four, true_within}
use Rattle.words.proofs.WordLaws.{answers, is_fresh_lem, is_name_lem, is_literal, is_head, unfit_name, unfit_literal}
use Rattle.words.proofs.word_of.Goals as goal

pub overflow_sub-p : goal.overflow_sub-p
overflow_sub-p c = (kind_range 0 31 c.args.w refl c.ranges.w.fits c.in-0.is).0

pub overflow_sub-n : goal.overflow_sub-n
overflow_sub-n c = (kind_range 1 30 c.args.w refl c.ranges.w.fits c.in-1.is).0

pub overflow_sub-n-in-2 : goal.overflow_sub-n-in-2
overflow_sub-n-in-2 c = (kind_range 2 29 c.args.w refl c.ranges.w.fits c.in-2.is).0

pub overflow_sub-p-in-3 : goal.overflow_sub-p-in-3
overflow_sub-p-in-3 c = (kind_range 3 28 c.args.w refl c.ranges.w.fits c.in-3.is).0

pub low_word_of-requires : goal.low_word_of-requires
low_word_of-requires c = none_of_four 0 28 c.args.w refl (omega arith) (omega arith) (omega arith) (omega arith) c.ranges.w.fits

pub returns-in-0 : goal.returns-in-0
returns-in-0 c =
    let r = kind_range 0 31 c.args.w refl c.ranges.w.fits c.in-0.is in
    answers c.args.w (is_fresh_lem c.args.w r.0)

pub returns-then-n-lt-LIMIT_12 : goal.returns-then-n-lt-LIMIT_12
returns-then-n-lt-LIMIT_12 c =
    let r = kind_range 1 30 c.args.w refl c.ranges.w.fits c.in-1.is in
    answers c.args.w (is_name_lem c.args.w (true_within name_base limit12 c.args.w (omega arith) (omega arith)))

pub returns-else-n-lt-LIMIT_12 : goal.returns-else-n-lt-LIMIT_12
returns-else-n-lt-LIMIT_12 c =
    let r = kind_range 1 30 c.args.w refl c.ranges.w.fits c.in-1.is in
    answers c.args.w (unfit_name c.args.w (omega arith) (omega arith))

pub returns-then-n-lt-LIMIT_16 : goal.returns-then-n-lt-LIMIT_16
returns-then-n-lt-LIMIT_16 c =
    let r = kind_range 2 29 c.args.w refl c.ranges.w.fits c.in-2.is in
    answers c.args.w (is_literal c.args.w (true_within literal_base limit16 c.args.w (omega arith) (omega arith)))

pub returns-else-n-lt-LIMIT_16 : goal.returns-else-n-lt-LIMIT_16
returns-else-n-lt-LIMIT_16 c =
    let r = kind_range 2 29 c.args.w refl c.ranges.w.fits c.in-2.is in
    answers c.args.w (unfit_literal c.args.w (omega arith) (omega arith))

pub returns-in-3 : goal.returns-in-3
returns-in-3 c =
    let r = kind_range 3 28 c.args.w refl c.ranges.w.fits c.in-3.is in
    answers c.args.w (is_head c.args.w (true_within head_base head_base c.args.w (omega arith) (omega arith)))

pub returns-in_default : goal.returns-in_default
returns-in_default c = c.low_word_of.ensures
