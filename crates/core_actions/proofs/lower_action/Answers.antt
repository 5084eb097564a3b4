-- Lowering an action: its code says which action stands there, and the function for that action does what its definition says. No other code is read.
-- Assumes nothing.
use native.Mathlib.Omega.{arith}
use Rattle.octets.specs.Words.{words}
use Rattle.head_exprs.proofs.Sites.{site}
use Rattle.core_actions.proofs.ReadActions.{action_inside}
use Rattle.core_actions.proofs.ByCode.{Coded, coded, let_asks, let_done, set_asks, set_done, change_asks, change_done}
use Rattle.core_actions.proofs.ByCode.{union_asks, union_done, panic_asks, panic_done, expression_asks, expression_done, no_code_lem}
use Rattle.core_actions.proofs.lower_action.Goals.{After-get-w}
use Rattle.core_actions.proofs.lower_action.Goals as goal

pub get-w-requires : goal.get-w-requires
get-w-requires c = let q = c.requires.known.0 in action_inside q.sig (words c.args.reading.now.rule.now) c.args.at q.known.0

code : (c : After-get-w) → let a = c.args in
    Coded (words a.signature.now) (site a.reading.now a.scratch.now a.counters.now a.at a.tops) c.get-w.result
code c = coded c.requires.known c.requires.top c.get-w.ensures.is

pub overflow_sub-code : goal.overflow_sub-code
overflow_sub-code c = omega (arith, code (goal.at.overflow_sub-code c).After-get-w)

-- ---- what the function for each code asks

pub lower_let-requires : goal.lower_let-requires
lower_let-requires c =
    let g = code (goal.at.lower_let-requires c).After-get-w in
    record { known = (let_asks g c.in-1.is, (g.room, g.scope_room)); top = g.top }

pub lower_change-requires : goal.lower_change-requires
lower_change-requires c =
    let g = code (goal.at.lower_change-requires c).After-get-w in
    record { known = (set_asks g c.in-2.is, (g.room, g.scope_room)); few = omega arith }

pub lower_change-requires-in-3-to-4 : goal.lower_change-requires-in-3-to-4
lower_change-requires-in-3-to-4 c =
    let g = code (goal.at.lower_change-requires-in-3-to-4 c).After-get-w in
    record { known = (change_asks g (omega arith) (omega arith), (g.room, g.scope_room)); few = omega arith }

pub lower_union-requires : goal.lower_union-requires
lower_union-requires c =
    let g = code (goal.at.lower_union-requires c).After-get-w in
    (union_asks g c.in-5.is, (g.room, g.scope_room))

pub lower_panic-requires : goal.lower_panic-requires
lower_panic-requires c =
    let g = code (goal.at.lower_panic-requires c).After-get-w in
    record { at_in_bounds = panic_asks g c.in-6.is; room = (g.room, g.scope_room) }

pub lower_expression-requires : goal.lower_expression-requires
lower_expression-requires c =
    let g = code (goal.at.lower_expression-requires c).After-get-w in
    (expression_asks g c.in-8.is, (g.room, g.scope_room))

pub returns-in-1 : goal.returns-in-1
returns-in-1 c = let_done (code (goal.at.returns-in-1 c).After-get-w) c.in-1.is c.lower_let.ensures

pub returns-in-2 : goal.returns-in-2
returns-in-2 c = set_done (code (goal.at.returns-in-2 c).After-get-w) c.in-2.is c.lower_change.ensures

pub returns-in-3-to-4 : goal.returns-in-3-to-4
returns-in-3-to-4 c = change_done (code (goal.at.returns-in-3-to-4 c).After-get-w) (omega arith) (omega arith) c.lower_change-in-3-to-4.ensures

pub returns-in-5 : goal.returns-in-5
returns-in-5 c = union_done (code (goal.at.returns-in-5 c).After-get-w) c.in-5.is c.lower_union.ensures

pub returns-in-6 : goal.returns-in-6
returns-in-6 c = panic_done (code (goal.at.returns-in-6 c).After-get-w) c.in-6.is c.lower_panic.ensures

pub returns-in-8 : goal.returns-in-8
returns-in-8 c = expression_done (code (goal.at.returns-in-8 c).After-get-w) c.in-8.is c.lower_expression.ensures

pub returns-in_default : goal.returns-in_default
returns-in_default c =
    no_code_lem (code (goal.at.returns-in_default c).After-get-w)
    (λ e. omega arith) (λ e. omega arith) (λ e. omega arith) (λ e. omega arith) (λ e. omega arith) (λ e. omega arith) (λ e. omega arith)
