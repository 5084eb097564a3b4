-- The tests are the definition's, in its order. A rule is read by the number of heads alone, and so as under the signature. Assumes nothing.
use Rattle.octets.specs.Words.{words}
use Rattle.rules.specs.Written.{Rule}
use Rattle.refusals.proofs.Passing.{passed_on}
use Rattle.answers.proofs.Tests.{Front, written, Reached, from_record, good_signature, counters_there, good_sizes, bad_record, good_record}
use Rattle.answers.proofs.fronts.written_front.Goals as goal

pub returns-in_err-written : goal.returns-in_err-written
returns-in_err-written c =
    let tests : Front Rule =
    let a = c.args in written (words a.signature.now) (words a.rule.now) a.counters a.scratch in
    let at_record : Reached tests c.in_ok-sign.sign (from_record tests) = good_sizes (counters_there (good_signature tests c.in_ok-sign.ensures) c.if-counters-sign.false) c.in_ok-sizes.ensures in
    passed_on _ _ c.from_residual-in_err-written.ensures.1 (bad_record at_record c.in_err-written.ensures)

pub returns : goal.returns
returns c =
    let tests : Front Rule =
    let a = c.args in written (words a.signature.now) (words a.rule.now) a.counters a.scratch in
    let at_record : Reached tests c.in_ok-sign.sign (from_record tests) = good_sizes (counters_there (good_signature tests c.in_ok-sign.ensures) c.if-counters-sign.false) c.in_ok-sizes.ensures in
    good_record at_record c.in_ok-written.ensures
