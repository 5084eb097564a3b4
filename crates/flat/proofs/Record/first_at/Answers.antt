-- The kind of the word at the index, which is its range, tells whether an atom begins there. Assumes nothing.
use mathlib.Core.Path.{refl}
use native.Mathlib.Omega.{arith}
use Rattle.octets.specs.Words.{words}
use Rattle.octets.proofs.Words.{length_words}
use Rattle.words.proofs.Ranges.{kind_from, kind_below}
use Rattle.flat.proofs.Laws.{first_missing, first_low, first_high, first_here}
use Rattle.flat.proofs.Record.first_at.Goals as goal

pub returns-then-count-at : goal.returns-then-count-at
returns-then-count-at c = first_missing (words c.args.self.now.rule.now) c.args.at (omega arith)

pub atom_of-requires : goal.atom_of-requires
atom_of-requires c =
    let g = c.get-w in
    (kind_below 5 27 g.result refl g.ensures.fits (omega arith), kind_from 3 29 g.result refl g.ensures.fits (omega arith), omega (arith, length_words c.args.self.now.rule.now, c.well_formed))

pub returns-in-3-to-4 : goal.returns-in-3-to-4
returns-in-3-to-4 c =
    let g = c.get-w in
    let low = kind_below 5 27 g.result refl g.ensures.fits (omega arith) in
    let high = kind_from 3 29 g.result refl g.ensures.fits (omega arith) in
    first_here (words c.args.self.now.rule.now) c.args.at (omega arith) g.ensures.is c.atom_of.ensures low high

-- it is less, or more
pub returns-in_default : goal.returns-in_default
returns-in_default c =
    let g = c.get-w in
    first_high (words c.args.self.now.rule.now) c.args.at (omega arith) g.ensures.is (kind_below 3 29 g.result refl g.ensures.fits (omega arith))

pub returns-in_default-2 : goal.returns-in_default-2
returns-in_default-2 c =
    let g = c.get-w in
    first_low (words c.args.self.now.rule.now) c.args.at (omega arith) g.ensures.is (kind_from 5 27 g.result refl g.ensures.fits (omega arith))
