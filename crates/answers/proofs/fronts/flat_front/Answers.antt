-- The tests are the definition's, in its order. A rule is read by the number of heads alone, and so as under the signature. Assumes nothing.
use Rattle.octets.specs.Words.{words}
use Rattle.rules.specs.Flat.{FlatRule}
use Rattle.refusals.proofs.Passing.{passed_on}
use Rattle.answers.proofs.Tests.{Front, flat, Reached, from_record, good_signature, good_sizes, bad_record, good_record}
use Rattle.answers.proofs.fronts.flat_front.Goals as goal

pub returns-in_err-flat : goal.returns-in_err-flat
returns-in_err-flat c =
    let tests : Front FlatRule =
    let a = c.args in flat (words a.signature.now) (words a.rule.now) a.scratch in
    let at_record : Reached tests c.in_ok-sign.sign (from_record tests) = good_sizes (good_signature tests c.in_ok-sign.ensures) c.in_ok-sizes.ensures in
    passed_on _ _ c.from_residual-in_err-flat.ensures.1 (bad_record at_record c.in_err-flat.ensures)

pub returns : goal.returns
returns c =
    let tests : Front FlatRule =
    let a = c.args in flat (words a.signature.now) (words a.rule.now) a.scratch in
    let at_record : Reached tests c.in_ok-sign.sign (from_record tests) = good_sizes (good_signature tests c.in_ok-sign.ensures) c.in_ok-sizes.ensures in
    good_record at_record c.in_ok-flat.ensures
