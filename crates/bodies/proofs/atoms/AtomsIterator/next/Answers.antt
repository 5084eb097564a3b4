-- The first of the atoms is read, and the words behind it are left. Assumes nothing.
use native.Mathlib.Omega.{arith}
use Rattle.std.proofs.Common.{rules}
use mathlib.Core.Path.{ap}
use lib.ListN.{length}
use Rattle.bodies.proofs.Shapes.{first_here, left_body, next_inside, no_shapes, shapes_next}
use Rattle.bodies.proofs.atoms.AtomsIterator.next.Goals as goal

pub returns-then-n-eq0-clause-steps : goal.returns-then-n-eq0-clause-steps
returns-then-n-eq0-clause-steps c =
    let none = no_shapes c.args.self.now.good (omega arith) in
    (none, none)

pub good_atom_at-atom-requires : goal.good_atom_at-atom-requires
good_atom_at-atom-requires c = (first_here c.args.self.now.good (omega arith)).begins

pub overflow_sub-n : goal.overflow_sub-n
overflow_sub-n c = omega (arith, next_inside c.args.self.now.good (omega arith) c.good_atom_at-atom.ensures)

pub part-self-requires : goal.part-self-requires
part-self-requires c = omega (arith, next_inside c.args.self.now.good (omega arith) c.good_atom_at-atom.ensures)

pub invariant_of-self : goal.invariant_of-self
invariant_of-self c =
    record { good = left_body c.args.self.now.good (omega arith) c.good_atom_at-atom.ensures _ (omega arith) c.part-self.ensures }

pub returns-clause-steps : goal.returns-clause-steps
returns-clause-steps c = shapes_next c.args.self.now.good (omega arith) c.good_atom_at-atom.ensures _ (omega arith) c.part-self.ensures

pub returns-clause-goes : goal.returns-clause-goes
returns-clause-goes c =
    let size = ap length (shapes_next c.args.self.now.good (omega arith) c.good_atom_at-atom.ensures _ (omega arith) c.part-self.ensures) in
    record { on = λ f. search rules; keeps = search rules; rests = λ f. search rules }
