-- A first word that reading let pass says a head or the equality of two, and in both cases its low bits are the count. An index of a slice of words is
-- below 2^62. Assumes nothing.
use native.Mathlib.Omega.{arith}
use mathlib.Core.Path.{subst, sym}
use Prim.Native.Nat.{ℕ}
use Rattle.octets.proofs.Words.{length_words}
use Rattle.words.specs.Atom.{AtomSays, FirstWord}
use Rattle.words.proofs.AtomLaws.{says_good}
use Rattle.words.proofs.good_atom_at.Goals as goal

pub head_of-head-requires : goal.head_of-head-requires
head_of-head-requires c =
    let at_get : FirstWord c.get-w.result = subst FirstWord (sym c.get-w.ensures.is) c.requires.first in
    at_get.high

pub laid_out-requires : goal.laid_out-requires
laid_out-requires c = omega (arith, length_words c.args.s.now, c.well_formed)

pub returns : goal.returns
returns c =
    let at_get : FirstWord c.get-w.result = subst FirstWord (sym c.get-w.ensures.is) c.requires.first in
    subst (λ (w : ℕ). AtomSays c.laid_out.result w c.args.at) c.get-w.ensures.is
    (says_good at_get c.head_of-head.ensures c.laid_out.ensures)
