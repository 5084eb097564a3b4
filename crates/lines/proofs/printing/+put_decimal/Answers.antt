-- Printing a number: the digits of its tenth, and behind them its last one. The measure is the number: its tenth is less. Assumes nothing.
use mathlib.Core.Path.{sym, ap, ◌∙◌}
use mathlib.Core.List.{[], ◌∷◌, ◌++◌}
use native.Mathlib.Omega.{arith}
use Rattle.rules.specs.Program.{decimal_up_to}
use Rattle.lines.proofs.Texts.{wrote_one, wrote_snoc, wrote_same, decimal_one, decimal_more, length_tenth}
use Prim.Native.Nat.{ℕ, ◌/◌}
use Rattle.lines.proofs.printing.+put_decimal.Goals as goal

-- ---- one digit

pub returns-then-k-lt10 : goal.returns-then-k-lt10
returns-then-k-lt10 t c =
    let a = c.args in
    let digit = wrote_one a.text.now a.at c.byte_of.result (omega arith) in
    wrote_same (ap (λ (b : ℕ). b ∷ []) c.byte_of.ensures ∙ sym (decimal_one a.k (omega arith))) digit

-- ---- more than one: those of the tenth are written, and the last digit behind them

pub returns : goal.returns
returns t c =
    let k = c.args.k in
    let size = length_tenth k (omega arith) in
    let digits = wrote_snoc c.byte_of-2.result c.put_decimal-end.ensures (omega (arith, size)) (omega arith) in
    let last = ap (λ (b : ℕ). decimal_up_to 20 (k / 10) [] ++ (b ∷ [])) c.byte_of-2.ensures in
    wrote_same (last ∙ sym (decimal_more k c.if-k-lt10.false (omega arith))) digits
