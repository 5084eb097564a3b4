-- What is left of the row answers as the whole does: a term that is read leaves one less, and one that is refused is the whole answer. Assumes nothing.
use mathlib.Core.Path.{◌≡◌}
use Prim.Native.Nat.{◌-◌, ◌+◌}
use native.Mathlib.Omega.{arith}
use Rattle.refusals.proofs.Passing.{passed_on}
use Rattle.written.proofs.Walking.{left_start, left_stops, left_next, left_end}
use Rattle.flat.proofs.Record.terms.Goals as goal

pub loop-init : goal.loop-init
loop-init c = let all : c.args.count - 0 ≡ c.args.count = omega arith in rw all left_start

pub returns-in_err-next : goal.returns-in_err-next
returns-in_err-next c = passed_on _ _ c.from_residual.ensures.1 (left_stops c.loop.invariant (omega arith) c.in_err-next.ensures)

pub loop-preserved : goal.loop-preserved
loop-preserved c =
    let less : c.args.count - (c.loop.counter + 1) ≡ c.args.count - c.loop.counter - 1 = omega arith in
    rw less (left_next c.loop.invariant (omega arith) c.in_ok-next.ensures)

pub returns : goal.returns
returns c = left_end c.loop.invariant (omega (arith, c.loop-test.false))
