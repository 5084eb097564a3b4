-- What a call's answer is bound to is read, and then its kind 3 word with its terms: what the first refuses is the whole answer. Assumes nothing.
use Rattle.octets.specs.Words.{words}
use Rattle.refusals.proofs.Passing.{passed_on}
use Rattle.written.specs.Written.{with_heads}
use Rattle.flat.proofs.Laws.{call_stops, call_goes}
use Rattle.flat.proofs.Record.call_action.Goals as goal

pub returns-in_err-behind : goal.returns-in_err-behind
returns-in_err-behind c =
    let a = c.args in
    passed_on _ _ c.from_residual.ensures.1 (call_stops (with_heads a.self.now.heads) (words a.self.now.rule.now) a.at c.in_err-behind.ensures)

pub returns : goal.returns
returns c =
    let a = c.args in
    call_goes (with_heads a.self.now.heads) (words a.self.now.rule.now) a.at c.in_ok-behind.ensures c.head_terms.ensures
