-- The words that are lent are those of the body, so its equalities are counted. Assumes nothing.
use Rattle.bodies.proofs.Standing.{lent_body}
use Rattle.canonicalize.proofs.spans.Table.build.Goals as goal

pub equalities-requires : goal.equalities-requires
equalities-requires c = lent_body c.args.at c.args.n c.part.ensures c.requires.atoms_at
