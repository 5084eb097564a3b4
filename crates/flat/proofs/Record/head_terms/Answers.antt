-- A kind 3 word of a head below H is read with its terms; any other word is refused. Assumes nothing.
use mathlib.Core.Path.{refl, ap, ◌∙◌}
use native.Mathlib.Omega.{arith}
use borrow.Enum.Refused.{opened}
use Rattle.std.specs.Prelude.{Some}
use Rattle.octets.specs.Words.{words}
use Rattle.octets.proofs.Words.{length_words}
use Rattle.words.specs.declared.Word.TheVariants.{Head}
use Rattle.words.proofs.WordAt.{There, there, not_kind, none_there}
use Rattle.flat.proofs.Laws.{terms_other, terms_high, terms_go}
use Rattle.flat.proofs.Record.head_terms.Goals as goal
use Rattle.flat.proofs.Record.head_terms.Goals.{in_default-via-in-Some+in_default, in_default-via-in_default}

pub returns-in_default : goal.returns-in_default
returns-in_default c =
    rw (c.at.ensures.0, c.at.ensures.1)
    (terms_other c.args.self.now.heads
    (elim c.in_default.branch [
      | in_default-via-in-Some+in_default w ↦ not_kind w.in_default.ensures 3 tt (opened w.in_default.in-Fresh-own.keys2)
      | in_default-via-in_default w ↦ none_there c.word_at.ensures 3 refl w.in_default.is
    ]))

pub overflow_add-at : goal.overflow_add-at
overflow_add-at c = omega (arith, (there c.word_at.ensures c.in-Some-Head.is).inside, length_words c.args.self.now.rule.now)

pub returns-then-head-self : goal.returns-then-head-self
returns-then-head-self c =
    let f = c.in-Some-Head in
    let at_word : There (words c.args.self.now.rule.now) c.args.at (Head f.head f.count) = there c.word_at.ensures (f.is ∙ ap Some f.field-0-is) in
    c.terms.ensures ∙ terms_go c.args.self.now.heads at_word c.if-head-self.true

pub returns-else-head-self : goal.returns-else-head-self
returns-else-head-self c =
    let f = c.in-Some-Head in
    let at_word : There (words c.args.self.now.rule.now) c.args.at (Head f.head f.count) = there c.word_at.ensures (f.is ∙ ap Some f.field-0-is) in
    let a = c.at-else-head-self.ensures in
    rw (a.0, a.1) (terms_high c.args.self.now.heads at_word c.if-head-self.false)
