-- An equality of two is read as a pair, and any other word but an equality begins an expression. Assumes nothing.
use mathlib.Core.Path.{refl, ap, ◌∙◌}
use native.Mathlib.Omega.{arith}
use borrow.Enum.Refused.{opened}
use Rattle.std.specs.Prelude.{Some}
use Rattle.octets.specs.Words.{words}
use Rattle.octets.proofs.Words.{length_words}
use Rattle.words.specs.declared.Word.TheVariants.{Equality}
use Rattle.words.proofs.WordAt.{There, there, not_kind, none_there}
use Rattle.written.specs.Written.{with_heads}
use Rattle.written.proofs.Laws.{fact_holds, fact_equal, fact_odd, pair_goes}
use Rattle.written.proofs.Record.longer_fact.Goals as goal
use Rattle.written.proofs.Record.longer_fact.Goals.{in_default-via-in-Some+in_default, in_default-via-in_default}

pub returns-in_default : goal.returns-in_default
returns-in_default c =
    c.outermost.ensures ∙ fact_holds (with_heads c.args.self.now.heads)
    (elim c.in_default.branch [
      | in_default-via-in-Some+in_default w ↦ not_kind w.in_default.ensures 4 tt (opened w.in_default.in-Fresh-own.keys2)
      | in_default-via-in_default w ↦ none_there c.word_at.ensures 4 refl w.in_default.is
    ])

pub overflow_add-at : goal.overflow_add-at
overflow_add-at c = omega (arith, (there c.word_at.ensures c.in-Some-Equality.is).inside, length_words c.args.self.now.rule.now)

pub returns-then-count-eq2 : goal.returns-then-count-eq2
returns-then-count-eq2 c =
    let f = c.in-Some-Equality in
    let at_word : There (words c.args.self.now.rule.now) c.args.at (Equality f.count) = there c.word_at.ensures (f.is ∙ ap Some f.field-0-is) in
    c.pair.ensures ∙ pair_goes (with_heads c.args.self.now.heads) (words c.args.self.now.rule.now) c.args.at ∙ fact_equal (with_heads c.args.self.now.heads) at_word c.if-count-eq2.true

pub returns-else-count-eq2 : goal.returns-else-count-eq2
returns-else-count-eq2 c =
    let f = c.in-Some-Equality in
    let at_word : There (words c.args.self.now.rule.now) c.args.at (Equality f.count) = there c.word_at.ensures (f.is ∙ ap Some f.field-0-is) in
    rw (c.at.ensures.0, c.at.ensures.1) (fact_odd c.args.self.now.heads at_word c.if-count-eq2.false)
