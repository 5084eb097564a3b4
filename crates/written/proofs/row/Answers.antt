-- One that is read leaves one less, and one that is refused is the whole answer. Assumes nothing.
use mathlib.Core.Path.{◌≡◌, ◌∙◌}
use Prim.Native.Nat.{◌-◌, ◌+◌, suc}
use native.Mathlib.Omega.{arith}
use Rattle.refusals.proofs.Passing.{passed_on}
use Rattle.written.proofs.Rows.{ends_none, ends_next, ends_stops}
use Rattle.written.proofs.row.Goals as goal

pub returns-in_err-next : goal.returns-in_err-next
returns-in_err-next g c f t =
    let more : c.args.count - c.loop.counter ≡ suc (c.args.count - (c.loop.counter + 1)) = omega arith in
    passed_on _ _ c.from_residual.ensures.1 (ends_stops f more (t _ _ c.in_err-next.ensures) ∙ c.loop.invariant f t)

pub loop-preserved : goal.loop-preserved
loop-preserved g c f t =
    let more : c.args.count - c.loop.counter ≡ suc (c.args.count - (c.loop.counter + 1)) = omega arith in
    ends_next f more (t _ _ c.in_ok-next.ensures) ∙ c.loop.invariant f t

pub returns : goal.returns
returns g c f t = ends_none f (omega (arith, c.loop-test.false)) ∙ c.loop.invariant f t
