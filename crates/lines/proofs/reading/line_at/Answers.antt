-- Reading one line: with all tests met its digits decide. Assumes nothing.
use mathlib.Core.Path.{ap, ◌∙◌}
use mathlib.Core.List.{List}
use Prim.Native.Nat.{ℕ}
use Rattle.lines.specs.Reading.{spelling}
use Rattle.lines.proofs.Spelling.{line_spelt}
use Rattle.lines.proofs.reading.line_at.Goals as goal

pub returns : goal.returns
returns c =
    c.spelled.ensures c.args.line
    ∙ ap (λ (bs : List ℕ). spelling bs c.args.line) c.in_ok-first_chunk.ensures.cases.same
    ∙ line_spelt c.args.text.now 0 c.args.line c.if-line-ge-MAX_LINES.false c.if-text-lt9.false c.if-text-ne10.false
