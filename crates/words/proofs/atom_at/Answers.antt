-- The word at an index of kind 3 or 4 begins an atom there; an index of a slice of words is below 2^62. Assumes nothing.
use native.Mathlib.Omega.{arith}
use mathlib.Core.Path.{subst}
use Prim.Native.Nat.{ℕ}
use Rattle.octets.proofs.Words.{length_words}
use Rattle.words.specs.Atom.{AtomSays}
use Rattle.words.proofs.atom_at.Goals as goal

pub atom_of-requires : goal.atom_of-requires
atom_of-requires c =
    let is = c.get-w.ensures.is in
    (omega arith, omega arith, omega (arith, length_words c.args.rule.now, c.well_formed))

pub returns : goal.returns
returns c =
    subst (λ (w : ℕ). AtomSays c.atom_of.result w c.args.at) c.get-w.ensures.is c.atom_of.ensures
