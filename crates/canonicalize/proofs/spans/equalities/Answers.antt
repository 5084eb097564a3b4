-- The atoms that pass are the equalities. Assumes nothing.
use mathlib.Core.Logic.{inl}
use mathlib.Core.Path.{◌∙◌, ap}
use native.Mathlib.Omega.{arith}
use lib.ListN.{length}
use Rattle.std.proofs.Common.{rules}
use Rattle.std.proofs.lemmas.Iterator.Consumers.{YieldsList-from_filter, YieldsList-from_first, count_from_yields_List}
use Rattle.octets.proofs.Words.{length_words}
use Rattle.octets.specs.Words.{words}
use Rattle.bodies.specs.Shapes.{seen, shapes}
use Rattle.bodies.proofs.Shapes.{few_shapes}
use Rattle.canonicalize.proofs.Runs.{equations_shapes}
use Rattle.canonicalize.proofs.spans.equalities.Goals as goal

pub count-requires-clause-fits : goal.count-requires-clause-fits
count-requires-clause-fits c =
    let here = ap (λ s. length (shapes (words s.left.now))) c.filter.ensures.source in
    inl (omega (arith, here, few_shapes c.requires, length_words c.args.body.now, c.well_formed))

pub returns : goal.returns
returns c =
    let ws = words c.args.body.now in
    let here = ap (λ s. shapes (words s.left.now)) c.filter.ensures.source in
    count_from_yields_List c.filter.result c.count.result c.count.ensures.ran
    (YieldsList-from_filter _ (λ x. x.0) (YieldsList-from_first seen (λ s. shapes (words s.left.now)) (shapes ws) here) c.filter.ensures.closure
    (λ x r q k. search rules))
    ∙ equations_shapes ws
