-- A term is one word: it is taken if it is one, and else refused where it stands. Assumes nothing.
use native.Mathlib.Omega.{arith}
use Rattle.octets.specs.Words.{words}
use Rattle.octets.proofs.Words.{length_words}
use Rattle.written.specs.Written.{with_globals}
use Rattle.flat.proofs.Laws.{term_inside, term_taken, term_refused}
use Rattle.flat.proofs.Record.term.Goals as goal

pub returns-in_default : goal.returns-in_default
returns-in_default c =
    let a = c.args in
    rw (c.at.ensures.0, c.at.ensures.1)
    (term_refused (with_globals a.self.now.heads a.self.now.globals) (words a.self.now.rule.now) a.at c.term_at.ensures c.in_default.is)

pub overflow_add-result : goal.overflow_add-result
overflow_add-result c =
    let a = c.args in
    let here = term_inside (with_globals a.self.now.heads a.self.now.globals) (words a.self.now.rule.now) a.at c.term_at.ensures c.in-Some.is in
    omega (arith, length_words a.self.now.rule.now)

pub returns : goal.returns
returns c =
    let a = c.args in
    term_taken (with_globals a.self.now.heads a.self.now.globals) (words a.self.now.rule.now) a.at c.term_at.ensures c.in-Some.is
