-- Kind 0 is 2^31 and up, kind 1 is from 2^30, and the other kinds are below. Assumes nothing.
use mathlib.Core.Path.{refl}
use native.Mathlib.Omega.{arith}
use Rattle.words.proofs.Ranges.{kind_range, kind_from}
use Rattle.words.proofs.AtomLaws.{term_fresh, term_name, term_global, term_literal}
use Rattle.words.proofs.term_of.Goals as goal

pub overflow_sub-w : goal.overflow_sub-w
overflow_sub-w c = (kind_range 1 30 c.args.w refl c.ranges.w.fits c.in-1.is).0

pub returns-in-0 : goal.returns-in-0
returns-in-0 c =
    let r = kind_range 0 31 c.args.w refl c.ranges.w.fits c.in-0.is in
    term_fresh c.args.globals c.args.w r.0

pub returns-then-w-globals : goal.returns-then-w-globals
returns-then-w-globals c =
    let r = kind_range 1 30 c.args.w refl c.ranges.w.fits c.in-1.is in
    term_global c.args.globals c.args.w r.1 r.0 (omega arith)

pub returns-else-w-globals : goal.returns-else-w-globals
returns-else-w-globals c =
    let r = kind_range 1 30 c.args.w refl c.ranges.w.fits c.in-1.is in
    term_name c.args.globals c.args.w r.1 (omega arith)

pub returns-in_default : goal.returns-in_default
returns-in_default c = term_literal c.args.globals c.args.w (kind_from 2 30 c.args.w refl c.ranges.w.fits (omega arith))
