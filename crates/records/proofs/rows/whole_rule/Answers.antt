-- A whole rule is one that begins at index 0 and has nothing behind it: the walk's refusal stands, and else its end is tested. Assumes nothing.
use mathlib.Core.List.{List}
use mathlib.Core.Path.{ap, ◌∙◌}
use native.Mathlib.Omega.{arith}
use Prim.Native.Nat.{ℕ}
use Rattle.octets.specs.Words.{words}
use Rattle.refusals.proofs.Passing.{passed_on}
use Rattle.rules.specs.Refusals.{ok}
use Rattle.rules.specs.Signature.{Sig}
use Rattle.written.specs.Written.{with_heads}
use Rattle.written.proofs.Walking.{Whole, whole_stops, surplus, all_read_lem}
use Rattle.written.proofs.Expected.{headed_whole}
use Rattle.records.specs.Rows.{read_item, read_headed, read_whole}
use Rattle.records.specs.declared.rows.Item.{Item}
use Rattle.records.proofs.Items.{went, pair}
use Rattle.records.proofs.rows.whole_rule.Goals as goal

at_whole : (body head : Item) (s : Sig) (ws : List ℕ) → Whole ws (read_headed body head s ws 0) (read_whole body head s ws)
at_whole body head s ws = headed_whole ws pair (read_item body s ws) (read_item head s ws) (went body s ws) (went head s ws)

pub returns-in_err-end : goal.returns-in_err-end
returns-in_err-end c =
    let a = c.args in
    passed_on _ _ c.from_residual.ensures.1 (whole_stops (at_whole a.body a.head (with_heads a.heads) (words a.rule.now)) c.in_err-end.ensures)

pub returns-then-end-count : goal.returns-then-end-count
returns-then-end-count c =
    let a = c.args in
    let at = c.at.ensures in
    rw (at.0, at.1) (surplus (at_whole a.body a.head (with_heads a.heads) (words a.rule.now)) c.in_ok-end.ensures (omega arith))

pub returns : goal.returns
returns c =
    let a = c.args in
    ap ok c.count-count.ensures ∙ all_read_lem (at_whole a.body a.head (with_heads a.heads) (words a.rule.now)) c.in_ok-end.ensures (omega arith)
