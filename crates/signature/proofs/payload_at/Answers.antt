-- The word at the index fits just if it is there, is a signature's, and its payload lies in the range. Assumes nothing.
use mathlib.Core.Path.{refl, ap, ◌∙◌}
use native.Mathlib.Omega.{arith}
use borrow.Enum.Refused.{opened}
use Rattle.std.specs.Prelude.{Some}
use Rattle.octets.specs.Words.{words}
use Rattle.words.proofs.WordAt.{there, not_kind, none_there}
use Rattle.signature.proofs.Laws.{PayloadAt, payload_there, payload_other, payload_low, payload_high, payload_good}
use Rattle.signature.proofs.payload_at.Goals as goal
use Rattle.signature.proofs.payload_at.Goals.{in_default-via-in-Some+in_default, in_default-via-in_default}
use Rattle.signature.proofs.payload_at.Goals.{else-low-n-via-then-low-n+else-n-low, else-low-n-via-else-low-n}

-- there is no word of a signature
pub returns-in_default : goal.returns-in_default
returns-in_default c =
    rw (c.at.ensures.0, c.at.ensures.1)
    (payload_other _ c.args.low c.args.size c.args.at c.requires
    (elim c.in_default.branch [
      | in_default-via-in-Some+in_default w ↦ not_kind w.in_default.ensures 7 tt (opened w.in_default.in-Fresh-own.keys2)
      | in_default-via-in_default w ↦ none_there c.word_at.ensures 7 refl w.in_default.is
    ]))

pub returns-then-n-low : goal.returns-then-n-low
returns-then-n-low c =
    let f = c.in-Some-Signature in
    let here : PayloadAt (words c.args.signature.now) c.args.at f.n = payload_there (there c.word_at.ensures (f.is ∙ ap Some f.field-0-is)) in
    payload_good _ c.args.low c.args.size c.args.at here c.if-low-n.true (omega arith)

pub returns-else-low-n : goal.returns-else-low-n
returns-else-low-n c =
    let f = c.in-Some-Signature in
    let here : PayloadAt (words c.args.signature.now) c.args.at f.n = payload_there (there c.word_at.ensures (f.is ∙ ap Some f.field-0-is)) in
    let a = c.at-else-low-n.ensures in
    rw (a.0, a.1)
    (elim c.else-low-n.branch [
      | else-low-n-via-then-low-n+else-n-low w ↦ payload_high _ c.args.low c.args.size c.args.at here (omega arith)
      | else-low-n-via-else-low-n w ↦ payload_low _ c.args.low c.args.size c.args.at here w.if-low-n.false
    ])
