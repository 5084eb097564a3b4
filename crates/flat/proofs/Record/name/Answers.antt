-- A name's word is taken, and any other is refused where it stands. Assumes nothing.
use mathlib.Core.Path.{refl, ap, ◌∙◌}
use native.Mathlib.Omega.{arith}
use borrow.Enum.Refused.{opened}
use Rattle.std.specs.Prelude.{Some}
use Rattle.octets.specs.Words.{words}
use Rattle.octets.proofs.Words.{length_words}
use Rattle.words.specs.declared.Word.TheVariants.{Name}
use Rattle.words.proofs.WordAt.{There, there, not_kind, none_there}
use Rattle.rules.specs.Words.{is_name_word}
use Rattle.words.proofs.WordLaws.{name_kind}
use Rattle.written.proofs.Expected.{kind_taken, kind_refused}
use Rattle.flat.proofs.Record.name.Goals as goal
use Rattle.flat.proofs.Record.name.Goals.{in_default-via-in-Some+in_default, in_default-via-in_default}

pub returns-in_default : goal.returns-in_default
returns-in_default c =
    rw (c.at.ensures.0, c.at.ensures.1)
    (kind_refused is_name_word 1 name_kind
    (elim c.in_default.branch [
      | in_default-via-in-Some+in_default w ↦ not_kind w.in_default.ensures 1 tt (opened w.in_default.in-Fresh-own.keys2)
      | in_default-via-in_default w ↦ none_there c.word_at.ensures 1 refl w.in_default.is
    ]))

pub overflow_add-result : goal.overflow_add-result
overflow_add-result c = omega (arith, (there c.word_at.ensures c.in-Some-Name.is).inside, length_words c.args.self.now.rule.now)

pub returns : goal.returns
returns c =
    let f = c.in-Some-Name in
    let at_word : There (words c.args.self.now.rule.now) c.args.at (Name f.field-0-0) = there c.word_at.ensures (f.is ∙ ap Some f.field-0-is) in
    kind_taken is_name_word 1 name_kind at_word refl
