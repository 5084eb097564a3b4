-- Where all words that are there are kinds, the first bad index is behind them, if one is missing; else it is among them. Assumes nothing.
use mathlib.Core.Path.{◌≡◌, sym, ap, ◌∙◌}
use Prim.Native.Nat.{◌+◌, ◌-◌}
use native.Mathlib.Omega.{arith}
use Rattle.std.specs.Prelude.{Some}
use Rattle.octets.specs.Words.{words}
use Rattle.signature.proofs.Laws.{part_kinds, part_short, part_below, first_bad_missing, first_bad_none}
use Rattle.signature.proofs.first_bad.Goals as goal

pub returns-in_err-find_bad : goal.returns-in_err-find_bad
returns-in_err-find_bad c =
    let a = c.args in
    let n = c.min-there.result - 4 in
    c.from_residual.ensures
    ∙ part_short (words a.signature.now) 4 n (omega arith) (a.end - 4) c.part-kinds.ensures (sym c.all_kinds.ensures ∙ c.if-not-all_kinds.true)
    (omega arith) (sym c.in_err-find_bad.was ∙ c.find_bad.ensures)

pub overflow_add-result : goal.overflow_add-result
overflow_add-result c =
    let n = c.min-there.result - 4 in
    omega (arith, part_below (words c.args.signature.now) 4 n (omega arith) c.part-kinds.ensures (sym c.in_ok-find_bad.was ∙ c.find_bad.ensures))

pub returns-then-not-all_kinds : goal.returns-then-not-all_kinds
returns-then-not-all_kinds c =
    let a = c.args in
    let n = c.min-there.result - 4 in
    part_short (words a.signature.now) 4 n (omega arith) (a.end - 4) c.part-kinds.ensures (sym c.all_kinds.ensures ∙ c.if-not-all_kinds.true)
    (omega arith) (sym c.in_ok-find_bad.was ∙ c.find_bad.ensures)

pub returns-then-there-end : goal.returns-then-there-end
returns-then-there-end c =
    let a = c.args in
    let n = c.min-there.result - 4 in
    let same : c.min-there.result ≡ 4 + n = omega arith in
    let all = sym (part_kinds (words a.signature.now) 4 n (omega arith) c.part-kinds.ensures) ∙ sym c.all_kinds.ensures ∙ c.if-not-all_kinds.false in
    ap Some same ∙ sym (first_bad_missing (words a.signature.now) n (a.end - 4) 4 all (omega arith) (omega arith))

pub returns-else-there-end : goal.returns-else-there-end
returns-else-there-end c =
    let a = c.args in
    let n = c.min-there.result - 4 in
    let same : n ≡ a.end - 4 = omega arith in
    let all = sym (part_kinds (words a.signature.now) 4 n (omega arith) c.part-kinds.ensures) ∙ sym c.all_kinds.ensures ∙ c.if-not-all_kinds.false in
    sym (first_bad_none (words a.signature.now) (a.end - 4) 4 (rw same at all))
