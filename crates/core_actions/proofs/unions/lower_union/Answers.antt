-- Lowering a union: where `as_set` names a side, the walk over the set that the union becomes is the union's, and else it is walked as a union.
-- Assumes nothing.
use native.Mathlib.Omega.{arith}
use Rattle.octets.specs.Words.{words}
use Rattle.head_exprs.proofs.Sites.{site}
use Rattle.core_actions.proofs.UnionAsSet.{Sided, left_asks, left_done, right_asks, right_done, stays_done}
use Rattle.core_actions.proofs.unions.lower_union.Goals.{After-as_set}
use Rattle.core_actions.proofs.unions.lower_union.Goals as goal

-- the side is known
sided : (c : After-as_set) → let a = c.args in
    Sided (words a.signature.now) (site a.reading.now a.scratch.now a.counters.now a.at a.tops) c.as_set.result
sided c = let q = c.requires in record { known = q.0; room = q.1.0; scope_room = q.1.1; is = c.as_set.ensures }

pub lower_change-requires : goal.lower_change-requires
lower_change-requires c =
    let g = sided (goal.at.lower_change-requires c).After-as_set in
    record { known = (left_asks g (cc), (g.room, g.scope_room)); few = omega arith }

pub returns-in-Some-Left : goal.returns-in-Some-Left
returns-in-Some-Left c = left_done (sided (goal.at.returns-in-Some-Left c).After-as_set) (cc) c.lower_change.ensures

pub set_name-requires : goal.set_name-requires
set_name-requires c =
    let g = sided (goal.at.set_name-requires c).After-as_set in
    (right_asks g (cc), (g.room, g.scope_room))

pub returns-in-Some-Right : goal.returns-in-Some-Right
returns-in-Some-Right c = right_done (sided (goal.at.returns-in-Some-Right c).After-as_set) (cc) c.set_name.ensures

pub returns-in-None : goal.returns-in-None
returns-in-None c = stays_done (sided (goal.at.returns-in-None c).After-as_set) c.in-None.is c.unite.ensures
