-- Flattening an expression: a name or a literal is its own term, and a call is flattened as its own contract says. Assumes nothing.
use native.Mathlib.Omega.{arith}
use Rattle.std.proofs.lemmas.Result.{err_from_is_err_and}
use Rattle.octets.specs.Words.{words}
use Rattle.octets.proofs.Words.{length_words}
use Rattle.walks.proofs.Asks.{expr_inside}
use Rattle.walks.proofs.Words.{leaf_high, call_low}
use Rattle.query.proofs.Spots.{spot_of}
use Rattle.query.proofs.Exprs.{leaf_answer}
use Rattle.query.proofs.flatten.Goals as goal

pub get-w-requires : goal.get-w-requires
get-w-requires c = let q = c.requires.under in expr_inside q.sig _ _ _ q.known.0

pub overflow_add-result : goal.overflow_add-result
overflow_add-result c = let q = c.requires.under in omega (arith, expr_inside q.sig _ _ _ q.known.0, length_words c.args.rule.now)

pub returns-then-is_leaf : goal.returns-then-is_leaf
returns-then-is_leaf c =
    let a = c.args in
    let spot = spot_of (words a.rule.now) (words a.scratch.now) (words a.counters.now) a.at a.tops in
    leaf_answer spot a.depth _ c.get-w.ensures.is (leaf_high c.is_leaf.ensures c.if-is_leaf.true)

-- ---- a call

pub flatten_call-requires : goal.flatten_call-requires
flatten_call-requires c = record { asks = c.requires; call = (c.get-w.ensures.is, call_low c.is_leaf.ensures c.if-is_leaf.false) }

pub returns-in_err-walk : goal.returns-in_err-walk
returns-in_err-walk c =
    let p = err_from_is_err_and c.from_residual.result c.from_residual.ensures.1 in
    rw (p.1, p.2) c.in_err-walk.ensures
