-- Lowering the arguments of an action: the literals and globals in front are their own terms, so that with these on the stack a walk over the others is
-- a walk over the whole row. Assumes nothing.
use native.Mathlib.Omega.{arith}
use Rattle.octets.specs.Words.{words}
use Rattle.octets.proofs.Words.{length_words_kept}
use Rattle.rules.specs.Words.{max_depth}
use Rattle.head_exprs.proofs.Sites.{Begun, tree, site, starts}
use Rattle.head_exprs.proofs.Fronts.{Row, row, row_inside, front_room, Stacked, stacked, rest_asks, row_walked}
use Rattle.head_exprs.proofs.Reading.lower_arguments.Goals.{Start, After-leaves-k}
use Rattle.head_exprs.proofs.Reading.lower_arguments.Goals as goal

-- the row at the start
begun : (c : Start) → let a = c.args in let k = site a.self.now a.scratch.now a.counters.now a.at a.tops in Begun k (Row k max_depth a.n)
begun c = let a = c.args in row (starts a.self.now a.scratch.now a.counters.now c.requires (omega arith) (omega arith))

pub overflow_add-last : goal.overflow_add-last
overflow_add-last c = omega (arith, (begun (goal.at.overflow_add-last c).Start).scope_room)

pub part-requires : goal.part-requires
part-requires c = row_inside (begun (goal.at.part-requires c).Start)

pub leaves-k-requires : goal.leaves-k-requires
leaves-k-requires c = front_room (begun (goal.at.leaves-k-requires c).Start) c.part.ensures

-- the literals and globals in front are on the stack
front : (c : After-leaves-k) → let a = c.args in
    Stacked (site a.self.now a.scratch.now a.counters.now a.at a.tops) max_depth a.n c.leaves-k.result (words c.leaves-k.new.scratch)
front c =
    let a = c.args in
    stacked (row (starts a.self.now a.scratch.now a.counters.now c.requires (omega arith) (omega arith))) (length_words_kept _ _ c.leaves-k.auto.scratch)
    c.part.ensures c.leaves-k.ensures

pub overflow_add-rest : goal.overflow_add-rest
overflow_add-rest c = omega (arith, front (goal.at.overflow_add-rest c).After-leaves-k)

pub overflow_add-at : goal.overflow_add-at
overflow_add-at c = omega (arith, front (goal.at.overflow_add-at c).After-leaves-k)

pub overflow_sub-n : goal.overflow_sub-n
overflow_sub-n c = (front (goal.at.overflow_sub-n c).After-leaves-k).most

pub lower_all-requires : goal.lower_all-requires
lower_all-requires c = rest_asks (front (goal.at.lower_all-requires c).After-leaves-k)

pub returns : goal.returns
returns c = λ sig x bound n sc. row_walked (front (goal.at.returns c).After-leaves-k) c.lower_all.ensures (tree sig (record { exprs = x }) bound n sc)
