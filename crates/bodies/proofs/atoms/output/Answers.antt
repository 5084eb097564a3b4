-- An atom's output is the last of its terms: it stands right before the place where the next atom may begin. Assumes nothing.
use mathlib.Core.Path.{◌∙◌}
use Rattle.octets.specs.Words.{words}
use Rattle.bodies.proofs.Alike.{Read, out_at, read}
use Rattle.bodies.proofs.atoms.output.Goals as goal

pub returns : goal.returns
returns c =
    let at_atom : (let a = c.args in Read (words a.s.now) a.p c.good_atom_at-atom.result) = read c.requires c.good_atom_at-atom.ensures in
    c.get.ensures.is ∙ out_at at_atom
