-- A word from the first name that is no global up is a variable. Below it lie no fresh variables, since there are few globals: so kind 1 is a global there, and
-- what is left is a literal. Assumes nothing.
use mathlib.Core.Path.{refl}
use native.Mathlib.Omega.{arith}
use Rattle.words.proofs.Ranges.{kind_range, not_kind}
use Rattle.words.proofs.AtomLaws.{term_above, term_global, term_literal}
use Rattle.words.proofs.good_term_of.Goals as goal

pub returns-then-globals-w : goal.returns-then-globals-w
returns-then-globals-w c = term_above c.args.globals c.args.w c.if-globals-w.true

pub returns-in-1 : goal.returns-in-1
returns-in-1 c =
    let r = kind_range 1 30 c.args.w refl c.ranges.w.fits c.in-1.is in
    term_global c.args.globals c.args.w r.1 r.0 c.if-globals-w.false

pub returns-in_default : goal.returns-in_default
returns-in_default c =
    term_literal c.args.globals c.args.w (not_kind 1 30 c.args.w refl (omega arith) (omega (arith, c.requires, c.if-globals-w.false)))
