-- The atoms that pass are those in front that are of the run's kind, and their sizes are added up. Assumes nothing.
use mathlib.Core.Bool.{beq}
use mathlib.Core.Path.{ap}
use native.Mathlib.Omega.{arith}
use Rattle.std.proofs.Common.{rules, tests}
use Rattle.std.proofs.lemmas.Iterator.{YieldsList-from_map}
use Rattle.std.proofs.lemmas.Iterator.Consumers.{YieldsList-at, YieldsList-from_first, fits_by_from_yields_list, sum_by_from_yields_List}
use Rattle.std.proofs.lemmas.Iterator.Search.{YieldsList-from_take_while}
use Rattle.octets.proofs.Words.{length_words}
use Rattle.octets.specs.Words.{words}
use Rattle.bodies.specs.Shapes.{seen, shapes}
use Rattle.canonicalize.proofs.Walking.{run_far, sizes_fit}
use Rattle.canonicalize.proofs.run.Goals as goal

pub sum-requires-clause-fits : goal.sum-requires-clause-fits
sum-requires-clause-fits c =
    let a = c.args in
    let ws = words a.body.now in
    let here = ap (λ s. shapes (words s.left.now)) c.take_while.ensures.source in
    let few = sizes_fit c.requires a.equalities in
    fits_by_from_yields_list (λ x. x.1) _ c.map.result _
    (YieldsList-from_map _ (λ x. x.1) (YieldsList-at c.map.ensures.source
    (YieldsList-from_take_while _ (λ x. beq x.0 a.equalities) (YieldsList-from_first seen (λ s. shapes (words s.left.now)) (shapes ws) here)
    c.take_while.ensures.closure c.take_while.ensures.done (λ x r q k. search (rules, tests))))
    c.map.ensures.closure (λ x r q k. search (rules, tests)))
    (omega (arith, few, length_words a.body.now, c.well_formed))

pub returns : goal.returns
returns c =
    let a = c.args in
    let ws = words a.body.now in
    let here = ap (λ s. shapes (words s.left.now)) c.take_while.ensures.source in
    run_far c.requires a.equalities c.sum.result
    (sum_by_from_yields_List (λ x. x.1) _ c.map.result _ c.sum.ensures.ran
    (YieldsList-from_map _ (λ x. x.1) (YieldsList-at c.map.ensures.source
    (YieldsList-from_take_while _ (λ x. beq x.0 a.equalities) (YieldsList-from_first seen (λ s. shapes (words s.left.now)) (shapes ws) here)
    c.take_while.ensures.closure c.take_while.ensures.done (λ x r q k. search (rules, tests))))
    c.map.ensures.closure (λ x r q k. search (rules, tests))))
