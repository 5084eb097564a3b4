use Prim.Native.Nat.{ℕ, ◌-◌}
use mathlib.Core.Path.{◌≡◌}
use Rattle.rules.specs.Refusals.{Res}
use Rattle.written.specs.Written.{Tells, ends}
use Rattle.written.proofs.row.Given as goal

-- what is left of them answers as the whole does
abbrev pub invariant-loop : goal.invariant-loop
invariant-loop g l = (f : ℕ → Res ℕ) → Tells (goal.F-post g l.one) f → ends f (l.count - l.counter) l.next ≡ ends f l.count l.at
