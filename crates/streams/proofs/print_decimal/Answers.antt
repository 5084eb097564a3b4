-- Each turn puts the last digit of what is left in front of those that stand already, and the first one stands alone. Assumes nothing.
use Rattle.std.proofs.Common.{◌≡◌, ℕ, ◌+◌, ◌-◌, ◌/◌, ◌%◌, ◌^◌, ◌<◌, ◌≤◌, List, [], ◌∷◌, ◌++◌, length, take, drop, arith, sym, ap, ◌∙◌, subst, append_assoc, length-append, length-drop, slice_set, refl}
use lib.Seq.{take_all}
use Rattle.std.proofs.lemmas.Fmt.{decimal_digit, decimal_step, length-decimal-le, decimal_nonempty}
use Rattle.std.proofs.lemmas.List.{drop-set, length-set}
use Rattle.std.specs.Prelude.{OnOk}
use Rattle.std.specs.Fmt.{decimal}
use Rattle.std.specs.Io.KnownBytes.{Appends}
use Rattle.streams.proofs.print_decimal.Goals as goal

append_nil : (xs : List ℕ) → xs ≡ xs ++ []
append_nil [] = refl
append_nil (x ∷ xs) = ap (λ (l : List ℕ). x ∷ l) (append_nil xs)

pub loop-left-init : goal.loop-left-init
loop-left-init g c =
    (length-decimal-le 20 c.args.n (omega arith) (omega (arith, c.ranges.n.fits)) (omega (arith, c.ranges.n.fits)), omega arith, refl, append_nil (decimal c.args.n))

-- a number of two digits or more has one more than without its last
longer : (n : ℕ) → 10 ≤ n → n < 2 ^ 64 → (length (decimal n) ≡ length (decimal (n / 10)) + 1) × (0 < length (decimal (n / 10)))
longer n many fits =
    (ap length (decimal_step n many fits) ∙ length-append (decimal (n / 10)) ((48 + n % 10) ∷ []), decimal_nonempty (n / 10) (omega arith))

pub overflow_sub-at : goal.overflow_sub-at
overflow_sub-at g c =
    let more = longer c.loop-left.left c.loop-left-test.true c.loop-left.auto.left-fits.fits in
    omega (arith, more.0, more.1, c.loop-left.invariant.0)

pub loop-left-preserved : goal.loop-left-preserved
loop-left-preserved g c =
    let l = c.loop-left in
    let left = l.left in
    let more = longer left c.loop-left-test.true l.auto.left-fits.fits in
    let back : l.at - 1 + 1 ≡ l.at = omega (arith, more.0, more.1, l.invariant.0) in
    let put = drop-set l.digits l.at (48 + left % 10) (omega (arith, l.invariant.1, l.invariant.2)) in
    let apart = decimal_step left c.loop-left-test.true l.auto.left-fits.fits in (
      omega (arith, more.0, more.1, l.invariant.0),
      omega (arith, l.invariant.1),
      length-set l.digits l.at (48 + left % 10) ∙ l.invariant.2,
      l.invariant.3 ∙ ap (λ (xs : List ℕ). xs ++ drop (l.at + 1) l.digits) apart
          ∙ append_assoc (decimal (left / 10)) ((48 + left % 10) ∷ []) (drop (l.at + 1) l.digits)
          ∙ ap (λ (xs : List ℕ). decimal (left / 10) ++ xs) (sym put ∙ ap (λ (k : ℕ). drop k (slice_set l.digits l.at (48 + left % 10))) (sym back)),
    )

pub returns : goal.returns
returns g c =
    let l = c.loop-left in
    let put = drop-set l.digits l.at (48 + l.left) (omega (arith, l.invariant.1, l.invariant.2)) in
    let one = decimal_digit l.left (omega (arith, c.loop-left-test.false)) in
    let written = slice_set l.digits l.at (48 + l.left) in
    let size = length-drop l.at written ∙ ap (λ (n : ℕ). n - l.at) (length-set l.digits l.at (48 + l.left)) in
    let all : take (20 - l.at) (drop l.at written) ≡ decimal c.args.n =
    take_all (20 - l.at) (drop l.at written) (omega (arith, size, l.invariant.2)) ∙ put
    ∙ sym (l.invariant.3 ∙ ap (λ (xs : List ℕ). xs ++ drop (l.at + 1) l.digits) one) in
    subst (λ (xs : List ℕ). OnOk c.write_all.result (Appends (g.W.Write.contents c.args.to.now) (g.W.Write.contents c.write_all.new.to) xs)) all c.write_all.ensures
