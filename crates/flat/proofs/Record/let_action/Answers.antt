-- What a let binds is read, and then its term: what the first refuses is the whole answer. Assumes nothing.
use Rattle.octets.specs.Words.{words}
use Rattle.refusals.proofs.Passing.{passed_on}
use Rattle.written.specs.Written.{with_heads}
use Rattle.flat.proofs.Laws.{let_stops, let_goes}
use Rattle.flat.proofs.Record.let_action.Goals as goal

pub returns-in_err-behind : goal.returns-in_err-behind
returns-in_err-behind c =
    let a = c.args in
    passed_on _ _ c.from_residual.ensures.1 (let_stops (with_heads a.self.now.heads) (words a.self.now.rule.now) a.at c.in_err-behind.ensures)

pub returns : goal.returns
returns c =
    let a = c.args in
    let_goes (with_heads a.self.now.heads) (words a.self.now.rule.now) a.at c.in_ok-behind.ensures c.term.ensures
