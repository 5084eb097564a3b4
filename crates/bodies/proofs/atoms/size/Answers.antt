-- The next atom may begin behind as many words as the first one says, and the atom has those. Assumes nothing.
use native.Mathlib.Omega.{arith}
use Rattle.bodies.proofs.Standing.{next_at_lem}
use Rattle.bodies.proofs.atoms.size.Goals as goal

pub returns : goal.returns
returns c = omega (arith, next_at_lem c.requires c.good_atom_at-atom.ensures)
