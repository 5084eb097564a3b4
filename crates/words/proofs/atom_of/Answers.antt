-- Of the words from 2^27 to 2^29, those of kind 3 are from 2^28 up, and the others are equalities. Assumes nothing.
use mathlib.Core.Path.{refl}
use native.Mathlib.Omega.{arith}
use Rattle.words.proofs.Ranges.{kind_range, not_kind}
use Rattle.words.proofs.AtomLaws.{says_head, says_equality}
use Rattle.words.proofs.atom_of.Goals as goal

pub overflow_sub-p : goal.overflow_sub-p
overflow_sub-p c = (kind_range 3 28 c.args.w refl c.ranges.w.fits c.in-3.is).0

pub returns-in-3 : goal.returns-in-3
returns-in-3 c =
    says_head (kind_range 3 28 c.args.w refl c.ranges.w.fits c.in-3.is).0 c.laid_out.ensures

pub returns-in_default : goal.returns-in_default
returns-in_default c =
    says_equality (not_kind 3 28 c.args.w refl (omega arith) c.requires.1) c.laid_out-in_default.ensures
