-- A fresh variable's word fits if its head is below H and can be told; any other word has to be a name. Assumes nothing.
use mathlib.Core.Path.{refl, ap, ◌∙◌}
use native.Mathlib.Omega.{arith}
use borrow.Enum.Refused.{opened}
use Rattle.std.specs.Prelude.{Some}
use Rattle.octets.specs.Words.{words}
use Rattle.octets.proofs.Words.{length_words}
use Rattle.words.specs.declared.Word.TheVariants.{Fresh}
use Rattle.words.proofs.WordAt.{There, there, not_kind, none_there}
use Rattle.flat.proofs.Laws.{target_name, target_fresh, target_high}
use Rattle.flat.proofs.Record.target.Goals as goal
use Rattle.flat.proofs.Record.target.Goals.{in_default-via-in-Some+in_default, in_default-via-in_default}

pub returns-in_default : goal.returns-in_default
returns-in_default c =
    c.name.ensures ∙ target_name c.args.self.now.heads
    (elim c.in_default.branch [
      | in_default-via-in-Some+in_default w ↦ not_kind w.in_default.ensures 0 tt (opened w.in_default.in-Name-own.keys2)
      | in_default-via-in_default w ↦ none_there c.word_at.ensures 0 refl w.in_default.is
    ])

pub overflow_add-result : goal.overflow_add-result
overflow_add-result c = omega (arith, (there c.word_at.ensures c.in-Some-Fresh.is).inside, length_words c.args.self.now.rule.now)

pub returns-then-head-min : goal.returns-then-head-min
returns-then-head-min c =
    let f = c.in-Some-Fresh in
    let at_word : There (words c.args.self.now.rule.now) c.args.at (Fresh f.head f.field-0-1) = there c.word_at.ensures (f.is ∙ ap Some f.field-0-is) in
    target_fresh c.args.self.now.heads at_word (omega (arith, c.min.ensures, c.if-head-min.true))

pub returns-else-head-min : goal.returns-else-head-min
returns-else-head-min c =
    let f = c.in-Some-Fresh in
    let at_word : There (words c.args.self.now.rule.now) c.args.at (Fresh f.head f.field-0-1) = there c.word_at.ensures (f.is ∙ ap Some f.field-0-is) in
    rw (c.at.ensures.0, c.at.ensures.1) (target_high c.args.self.now.heads at_word (omega (arith, c.min.ensures, c.if-head-min.false)))
