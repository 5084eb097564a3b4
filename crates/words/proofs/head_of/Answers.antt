-- Of the words below 2^29, those with fewer than four leading zero bits are from 2^28 up and say a head, and the others say the equality sign. Assumes nothing.
use mathlib.Core.Path.{refl}
use borrow.Author.Tests.{le-leb, lt-leb}
use Rattle.rules.specs.Words.{head_base}
use Rattle.words.proofs.Ranges.{kind_below, kind_from}
use Rattle.words.proofs.head_of.Goals as goal

pub overflow_sub-result : goal.overflow_sub-result
overflow_sub-result c = kind_below 4 28 c.args.w refl c.ranges.w.fits c.if-kind-lt4.true

pub returns-then-kind-lt4 : goal.returns-then-kind-lt4
returns-then-kind-lt4 c =
    let w = c.args.w in
    let b = le-leb head_base w (kind_below 4 28 w refl c.ranges.w.fits c.if-kind-lt4.true) in
    record { kind_is = rw b; number_is = rw b }

pub returns : goal.returns
returns c =
    let w = c.args.w in
    let b = lt-leb head_base w (kind_from 4 28 w refl c.ranges.w.fits c.if-kind-lt4.false) in
    record { kind_is = rw b; number_is = rw b }
