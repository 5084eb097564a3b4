-- The first kind that is bad or missing, a surplus word, and a value-eq head that is no primitive are each a way out of `read_signature`, in this order;
-- with none of them the signature is read. Assumes nothing.
use mathlib.Core.Path.{sym, ◌∙◌}
use native.Mathlib.Omega.{arith}
use Rattle.signature.proofs.Laws.{kind_bad, none_bad, surplus_bad, equals_no_primitive, signature_read}
use Rattle.signature.proofs.read_kinds.Goals as goal

pub returns-in-Some : goal.returns-in-Some
returns-in-Some c = rw (c.at.ensures.0, c.at.ensures.1) (kind_bad c.requires (sym c.in-Some.is ∙ c.first_bad.ensures))

pub returns-then-end-count : goal.returns-then-end-count
returns-then-end-count c =
    let a = c.at-then-end-count.ensures in
    let kinds = none_bad c.requires (sym c.in_default.is ∙ c.first_bad.ensures) in
    rw (a.0, a.1) (surplus_bad kinds (omega arith))

pub get-requires : goal.get-requires
get-requires c = omega (arith, none_bad c.requires (sym c.in_default.is ∙ c.first_bad.ensures))

pub returns-then-get-word : goal.returns-then-get-word
returns-then-get-word c =
    let kinds = none_bad c.requires (sym c.in_default.is ∙ c.first_bad.ensures) in
    signature_read kinds (omega (arith, kinds)) c.get.ensures.is (c.if-get-word.true ∙ c.word.ensures)

pub returns-else-get-word : goal.returns-else-get-word
returns-else-get-word c =
    let a = c.at-else-get-word.ensures in
    let kinds = none_bad c.requires (sym c.in_default.is ∙ c.first_bad.ensures) in
    rw (a.0, a.1) (equals_no_primitive kinds (omega (arith, kinds)) c.get.ensures.is (λ e. c.if-get-word.false (e ∙ sym c.word.ensures)))
