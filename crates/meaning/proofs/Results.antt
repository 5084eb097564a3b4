-- Laws of results and refusals. Assumes nothing.
use Prim.Native.Nat.{ℕ}
use native.Mathlib.Omega.{arith}
use mathlib.Core.Path.{◌≡◌, refl}
use mathlib.Core.Bool.{Bool, true, false}
use Rattle.rules.specs.Refusals.{Res, ok, refuse, ◌>>=◌, demand}

-- a refusal is no result
pub refuse_ok : {A : Type 0} (n p : ℕ) (a : A) → ◌≡◌ {A = Res A} (refuse n p) (ok a) → ⊥
refuse_ok n p a e = let z : ◌≡◌ {A = ℕ} 0 1 = cc in omega arith

-- where two steps give a result, each does
pub bind_ok : {A B : Type 0} (m : Res A) (k : A → Res B) (b : B) → ◌>>=◌ m k ≡ ok b → (a : A) × (m ≡ ok a) × (k a ≡ ok b)
bind_ok (ok a) k b e = (a, refl, e)
bind_ok (refuse n p) k b e = absurd (refuse_ok n p b e)

pub ok_inj : {A : Type 0} (a b : A) → ◌≡◌ {A = Res A} (ok a) (ok b) → a ≡ b
ok_inj a b e = cc

-- a test that lets a value through holds
pub demand_ok : {A : Type 0} (b : Bool) (n p : ℕ) (x y : A) → demand b n p x ≡ ok y → (b ≡ true) × (x ≡ y)
demand_ok true n p x y e = (refl, ok_inj x y e)
demand_ok false n p x y e = absurd (refuse_ok n p y e)
