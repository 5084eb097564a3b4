-- A rule is its header, a row of what its body holds and a row of actions, so many as the header says, and nothing behind them: what one row refuses is the
-- whole answer. Assumes nothing.
use mathlib.Core.Path.{refl, ap, ◌∙◌}
use native.Mathlib.Omega.{arith}
use borrow.Enum.Refused.{opened}
use Rattle.std.specs.Prelude.{Some}
use Rattle.octets.specs.Words.{words}
use Rattle.rules.specs.Refusals.{ok}
use Rattle.refusals.proofs.Passing.{passed_on}
use Rattle.words.specs.declared.Word.TheVariants.{Header}
use Rattle.words.proofs.WordAt.{There, there, not_kind, none_there}
use Rattle.records.proofs.Items.{header_other, body_stops, head_stops, surplus, all_read_lem}
use Rattle.records.proofs.whole_rule.Goals as goal
use Rattle.records.proofs.whole_rule.Goals.{in_default-via-in-Some+in_default, in_default-via-in_default}

pub returns-in_default : goal.returns-in_default
returns-in_default g c f h s t =
    rw (c.at.ensures.0, c.at.ensures.1)
    (header_other f h
    (elim c.in_default.branch [
      | in_default-via-in-Some+in_default w ↦ not_kind w.in_default.ensures 5 tt (opened w.in_default.in-Fresh-own.keys2)
      | in_default-via-in_default w ↦ none_there c.word_at.ensures 5 refl w.in_default.is
    ]))

pub returns-in_err-actions : goal.returns-in_err-actions
returns-in_err-actions g c f h s t =
    let k = c.in-Some-Header in
    let header : There (words c.args.rule.now) 0 (Header k.some k.more) = there c.word_at.ensures (k.is ∙ ap Some k.field-0-is) in
    passed_on _ _ c.from_residual.ensures.1 (body_stops f h header (c.in_err-actions.ensures f s))

pub returns-in_err-end : goal.returns-in_err-end
returns-in_err-end g c f h s t =
    let k = c.in-Some-Header in
    let header : There (words c.args.rule.now) 0 (Header k.some k.more) = there c.word_at.ensures (k.is ∙ ap Some k.field-0-is) in
    passed_on _ _ c.from_residual-in_err-end.ensures.1 (head_stops f h header (c.in_ok-actions.ensures f s) (c.in_err-end.ensures h t))

pub returns-then-end-count : goal.returns-then-end-count
returns-then-end-count g c f h s t =
    let k = c.in-Some-Header in
    let header : There (words c.args.rule.now) 0 (Header k.some k.more) = there c.word_at.ensures (k.is ∙ ap Some k.field-0-is) in
    let a = c.at-then-end-count.ensures in
    rw (a.0, a.1) (surplus f h header (c.in_ok-actions.ensures f s) (c.in_ok-end.ensures h t) (omega arith))

pub returns : goal.returns
returns g c f h s t =
    let k = c.in-Some-Header in
    let header : There (words c.args.rule.now) 0 (Header k.some k.more) = there c.word_at.ensures (k.is ∙ ap Some k.field-0-is) in
    ap ok c.count-count.ensures ∙ all_read_lem f h header (c.in_ok-actions.ensures f s) (c.in_ok-end.ensures h t) (omega arith)
