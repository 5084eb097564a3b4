-- Behind the action word stands a name, and behind that an expression; any other word is refused at its own place. Assumes nothing.
use mathlib.Core.Path.{refl, ap, ◌∙◌}
use native.Mathlib.Omega.{arith}
use borrow.Enum.Refused.{opened}
use Rattle.std.specs.Prelude.{Some}
use Rattle.octets.specs.Words.{words}
use Rattle.octets.proofs.Words.{length_words}
use Rattle.words.specs.declared.Word.TheVariants.{Name}
use Rattle.words.proofs.WordAt.{There, there, not_kind, none_there}
use Rattle.written.specs.Written.{with_heads}
use Rattle.written.proofs.Laws.{let_other, let_goes}
use Rattle.written.proofs.Record.let_action.Goals as goal
use Rattle.written.proofs.Record.let_action.Goals.{in_default-via-in-Some+in_default, in_default-via-in_default}

pub returns-in_default : goal.returns-in_default
returns-in_default c = λ p.
    rw (c.at.ensures.0, c.at.ensures.1)
    (let_other (with_heads c.args.self.now.heads) p
    (elim c.in_default.branch [
      | in_default-via-in-Some+in_default w ↦ not_kind w.in_default.ensures 1 tt (opened w.in_default.in-Fresh-own.keys2)
      | in_default-via-in_default w ↦ none_there c.word_at.ensures 1 refl w.in_default.is
    ]))

pub overflow_add-name : goal.overflow_add-name
overflow_add-name c =
    let f = c.in-Some-Name in
    omega (arith, (there c.word_at.ensures f.is).inside, length_words c.args.self.now.rule.now)

pub returns : goal.returns
returns c = λ p.
    let f = c.in-Some-Name in
    let at_name : There (words c.args.self.now.rule.now) c.args.name (Name f.field-0-0) = there c.word_at.ensures (f.is ∙ ap Some f.field-0-is) in
    c.outermost.ensures ∙ let_goes (with_heads c.args.self.now.heads) p at_name
