-- A rule is its header, a row of what its body holds and a row of actions, so many as the header says: what one row refuses is the whole answer. Assumes nothing.
use mathlib.Core.List.{List}
use mathlib.Core.Path.{refl, ap, ◌∙◌}
use native.Mathlib.Omega.{arith}
use Prim.Native.Nat.{ℕ}
use borrow.Enum.Refused.{opened}
use Rattle.std.specs.Prelude.{Some}
use Rattle.octets.specs.Words.{words}
use Rattle.octets.proofs.Words.{length_words}
use Rattle.refusals.proofs.Passing.{passed_on}
use Rattle.rules.specs.Written.{Reader}
use Rattle.words.specs.declared.Word.TheVariants.{Header}
use Rattle.words.proofs.WordAt.{There, there, not_kind, none_there}
use Rattle.written.specs.Written.{with_heads}
use Rattle.written.proofs.Walking.{Went}
use Rattle.written.proofs.Expected.{header_other, first_stops, then_second}
use Rattle.records.specs.Rows.{Of, read_item}
use Rattle.records.specs.declared.rows.Item.{Item}
use Rattle.records.proofs.Items.{went, pair}
use Rattle.records.proofs.rows.rule_at.Goals as goal
use Rattle.records.proofs.rows.rule_at.Goals.{in_default-via-in-Some+in_default, in_default-via-in_default}

pub returns-in_default : goal.returns-in_default
returns-in_default c =
    let ws : List ℕ = words c.args.rule.now in
    let reads : (i : Item) → Reader (Of i) = λ i. read_item i (with_heads c.args.heads) ws in
    let goes_on : (p : ℕ) → Went ws p 1 (reads c.args.body p) = went c.args.body (with_heads c.args.heads) ws in
    rw (c.at.ensures.0, c.at.ensures.1)
    (header_other ws pair (reads c.args.body) (reads c.args.head) goes_on
    (elim c.in_default.branch [
      | in_default-via-in-Some+in_default w ↦ not_kind w.in_default.ensures 5 tt (opened w.in_default.in-Fresh-own.keys2)
      | in_default-via-in_default w ↦ none_there c.word_at.ensures 5 refl w.in_default.is
    ]))

pub overflow_add-at : goal.overflow_add-at
overflow_add-at c =
    let k = c.in-Some-Header in
    let header : There (words c.args.rule.now) c.args.at (Header k.some k.more) = there c.word_at.ensures (k.is ∙ ap Some k.field-0-is) in
    omega (arith, header.inside, length_words c.args.rule.now)

pub returns-in_err-actions : goal.returns-in_err-actions
returns-in_err-actions c =
    let ws : List ℕ = words c.args.rule.now in
    let reads : (i : Item) → Reader (Of i) = λ i. read_item i (with_heads c.args.heads) ws in
    let goes_on : (p : ℕ) → Went ws p 1 (reads c.args.body p) = went c.args.body (with_heads c.args.heads) ws in
    let k = c.in-Some-Header in
    let header : There ws c.args.at (Header k.some k.more) = there c.word_at.ensures (k.is ∙ ap Some k.field-0-is) in
    passed_on _ _ c.from_residual.ensures.1 (first_stops ws pair (reads c.args.body) (reads c.args.head) goes_on header c.in_err-actions.ensures)

pub returns : goal.returns
returns c =
    let ws : List ℕ = words c.args.rule.now in
    let reads : (i : Item) → Reader (Of i) = λ i. read_item i (with_heads c.args.heads) ws in
    let goes_on : (p : ℕ) → Went ws p 1 (reads c.args.body p) = went c.args.body (with_heads c.args.heads) ws in
    let k = c.in-Some-Header in
    let header : There ws c.args.at (Header k.some k.more) = there c.word_at.ensures (k.is ∙ ap Some k.field-0-is) in
    then_second ws pair (reads c.args.body) (reads c.args.head) goes_on header c.in_ok-actions.ensures c.row-2.ensures
