-- The word at the index says which code the action has, and by its code the walk is the one behind the word; any other word is refused. Assumes nothing.
use mathlib.Core.Path.{refl, ap, ◌∙◌}
use native.Mathlib.Omega.{arith}
use borrow.Enum.Refused.{opened}
use Rattle.std.specs.Prelude.{Some}
use Rattle.octets.specs.Words.{words}
use Rattle.octets.proofs.Words.{length_words}
use Rattle.written.specs.Written.{with_heads}
use Rattle.words.proofs.WordAt.{there, not_kind, none_there}
use Rattle.written.proofs.Expected.{none_of}
use Rattle.written.proofs.Laws.{action_other, action_by, pair_goes, union_goes, expression_goes, change_goes, action_none}
use Rattle.written.proofs.Record.action.Goals as goal
use Rattle.written.proofs.Record.action.Goals.{in_default-via-in-Some+in_default, in_default-via-in_default}
use Rattle.written.proofs.Record.action.Goals.{in_default-code-via-then-code-lt1, in_default-code-via-else-code-lt1+else-code-lt5}

pub overflow_add-next : goal.overflow_add-next
overflow_add-next c = omega (arith, (there c.word_at.ensures c.in-Some-Action.is).inside, length_words c.args.self.now.rule.now)

-- it is no action's
pub returns-in_default : goal.returns-in_default
returns-in_default c =
    rw (c.at.ensures.0, c.at.ensures.1)
    (action_other (with_heads c.args.self.now.heads)
    (elim c.in_default.branch [
      | in_default-via-in-Some+in_default w ↦ not_kind w.in_default.ensures 6 tt (opened w.in_default.in-Fresh-own.keys2)
      | in_default-via-in_default w ↦ none_there c.word_at.ensures 6 refl w.in_default.is
    ]))

-- by its code
pub returns-in-1 : goal.returns-in-1
returns-in-1 c =
    action_by (with_heads c.args.self.now.heads) (there c.word_at.ensures (c.in-Some-Action.is ∙ ap Some c.in-Some-Action.field-0-is)) 1 c.in-1.is
    (c.let_action.ensures c.args.at)

pub returns-in-2 : goal.returns-in-2
returns-in-2 c =
    action_by (with_heads c.args.self.now.heads) (there c.word_at.ensures (c.in-Some-Action.is ∙ ap Some c.in-Some-Action.field-0-is)) 2 c.in-2.is
    (c.target.ensures.set c.args.at refl)

pub returns-in-5 : goal.returns-in-5
returns-in-5 c =
    union_goes (with_heads c.args.self.now.heads) (there c.word_at.ensures (c.in-Some-Action.is ∙ ap Some c.in-Some-Action.field-0-is)) c.in-5.is
    (c.pair.ensures ∙ pair_goes (with_heads c.args.self.now.heads) (words c.args.self.now.rule.now) c.args.at)

pub returns-in-6 : goal.returns-in-6
returns-in-6 c =
    action_by (with_heads c.args.self.now.heads) (there c.word_at.ensures (c.in-Some-Action.is ∙ ap Some c.in-Some-Action.field-0-is)) 6 c.in-6.is
    (c.panic_action.ensures c.args.at)

pub returns-in-8 : goal.returns-in-8
returns-in-8 c =
    expression_goes (with_heads c.args.self.now.heads) (there c.word_at.ensures (c.in-Some-Action.is ∙ ap Some c.in-Some-Action.field-0-is))
    c.in-8.is c.outermost.ensures

pub returns-in-3-to-4 : goal.returns-in-3-to-4
returns-in-3-to-4 c =
    change_goes (with_heads c.args.self.now.heads) (there c.word_at.ensures (c.in-Some-Action.is ∙ ap Some c.in-Some-Action.field-0-is)) (omega arith) (omega arith)
    (c.target-in-3-to-4.ensures.change refl)

-- no code is left
pub returns-in_default-code : goal.returns-in_default-code
returns-in_default-code c =
    rw (c.at-in_default-code.ensures.0, c.at-in_default-code.ensures.1)
    (action_none (with_heads c.args.self.now.heads) (there c.word_at.ensures (c.in-Some-Action.is ∙ ap Some c.in-Some-Action.field-0-is))
    (elim c.in_default-code.branch [
      | in_default-code-via-then-code-lt1 w ↦ none_of c.in_default-1.rest (λ e. omega (arith, w.if-code-lt1-1)) (λ e. omega (arith, w.if-code-lt1-1))
      | in_default-code-via-else-code-lt1+else-code-lt5 w ↦ none_of c.in_default-1.rest (λ e. omega (arith, w.if-code-lt5-1)) (λ e. omega (arith, w.if-code-lt5-1))
    ]))
