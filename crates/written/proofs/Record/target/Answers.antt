-- A kind 3 word of a head below H is read with its arguments, and a set's with its value as one more of them; any other word is refused. Assumes nothing.
use mathlib.Core.Path.{◌≡◌, refl, ap, ◌∙◌}
use Prim.Native.Nat.{◌+◌}
use native.Mathlib.Omega.{arith}
use borrow.Enum.Refused.{opened}
use Rattle.std.specs.Prelude.{Some}
use Rattle.octets.specs.Words.{words}
use Rattle.octets.proofs.Words.{length_words}
use Rattle.words.specs.declared.Word.TheVariants.{Head}
use Rattle.words.proofs.WordAt.{There, there, not_kind, none_there}
use Rattle.written.proofs.Expected.{head_count}
use Rattle.written.proofs.Laws.{target_other, target_high, target_goes, set_other, set_high, set_goes}
use Rattle.written.proofs.Record.target.Goals as goal
use Rattle.written.proofs.Record.target.Goals.{in_default-via-in-Some+in_default, in_default-via-in_default}

pub returns-in_default-clause-change : goal.returns-in_default-clause-change
returns-in_default-clause-change c = λ none.
    rw (c.at.ensures.0, c.at.ensures.1)
    (target_other c.args.self.now.heads
    (elim c.in_default.branch [
      | in_default-via-in-Some+in_default w ↦ not_kind w.in_default.ensures 3 tt (opened w.in_default.in-Fresh-own.keys2)
      | in_default-via-in_default w ↦ none_there c.word_at.ensures 3 refl w.in_default.is
    ]))

pub returns-in_default-clause-set : goal.returns-in_default-clause-set
returns-in_default-clause-set c = λ p one.
    rw (c.at.ensures.0, c.at.ensures.1)
    (set_other c.args.self.now.heads p
    (elim c.in_default.branch [
      | in_default-via-in-Some+in_default w ↦ not_kind w.in_default.ensures 3 tt (opened w.in_default.in-Fresh-own.keys2)
      | in_default-via-in_default w ↦ none_there c.word_at.ensures 3 refl w.in_default.is
    ]))

pub overflow_add-at : goal.overflow_add-at
overflow_add-at c = omega (arith, (there c.word_at.ensures c.in-Some-Head.is).inside, length_words c.args.self.now.rule.now)

pub overflow_add-count : goal.overflow_add-count
overflow_add-count c =
    let f = c.in-Some-Head in
    let at_word : There (words c.args.self.now.rule.now) c.args.at (Head f.head f.count) = there c.word_at.ensures (f.is ∙ ap Some f.field-0-is) in
    omega (arith, head_count at_word)

pub returns-then-head-self-clause-change : goal.returns-then-head-self-clause-change
returns-then-head-self-clause-change c = λ none.
    let f = c.in-Some-Head in
    let at_word : There (words c.args.self.now.rule.now) c.args.at (Head f.head f.count) = there c.word_at.ensures (f.is ∙ ap Some f.field-0-is) in
    let row : f.count + c.args.more ≡ f.count = omega (arith, none) in
    (rw row at c.arguments.ensures) ∙ target_goes c.args.self.now.heads at_word c.if-head-self.true

pub returns-then-head-self-clause-set : goal.returns-then-head-self-clause-set
returns-then-head-self-clause-set c = λ p one.
    let f = c.in-Some-Head in
    let at_word : There (words c.args.self.now.rule.now) c.args.at (Head f.head f.count) = there c.word_at.ensures (f.is ∙ ap Some f.field-0-is) in
    (rw one at c.arguments.ensures) ∙ set_goes c.args.self.now.heads p at_word c.if-head-self.true

pub returns-else-head-self-clause-change : goal.returns-else-head-self-clause-change
returns-else-head-self-clause-change c = λ none.
    let f = c.in-Some-Head in
    let at_word : There (words c.args.self.now.rule.now) c.args.at (Head f.head f.count) = there c.word_at.ensures (f.is ∙ ap Some f.field-0-is) in
    let a = c.at-else-head-self.ensures in
    rw (a.0, a.1) (target_high c.args.self.now.heads at_word c.if-head-self.false)

pub returns-else-head-self-clause-set : goal.returns-else-head-self-clause-set
returns-else-head-self-clause-set c = λ p one.
    let f = c.in-Some-Head in
    let at_word : There (words c.args.self.now.rule.now) c.args.at (Head f.head f.count) = there c.word_at.ensures (f.is ∙ ap Some f.field-0-is) in
    let a = c.at-else-head-self.ensures in
    rw (a.0, a.1) (set_high c.args.self.now.heads p at_word c.if-head-self.false)
