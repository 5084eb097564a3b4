-- Lowering makes a set of just those unions that mean one: `UnionsAgree`. Four shapes of two sides; where one is a name and the other a call, the flag,
-- the name and the head decide, each by one test. Assumes nothing.
use Prim.Native.Nat.{ℕ}
use mathlib.Core.Path.{refl}
use mathlib.Core.Bool.{Bool, true, false, cond, ◌&&◌}
use mathlib.Core.Option.{Option, none, some}
use Rattle.rules.specs.Signature.{is_name, is_constructor}
use Rattle.rules.specs.Written.{Exprs, leaf, call}
use Rattle.rules.specs.ToCoreActions.{AsSet, optional}
use Rattle.meaning.specs.Meaning.{Built, set_to, either}
use Rattle.meaning.specs.Demand3.{SameSet, UnionsAgree}

-- a set at most, by the three tests
module _ (p q w h : ℕ) (es : Exprs) where
  abbrev made : AsSet
  made = record { place = q; head = h; args = es; value = leaf p w }

  abbrev built : Bool → Option Built
  built k = cond k (some (record { head = h; args = es })) none

  abbrev named : Bool → Option ℕ
  named n = cond n (some w) none

  call_left : (n f k : Bool) → SameSet (optional (n && f && k) made) (cond f (either (set_to (built k) (named n)) (set_to none none)) none)
  call_left true true true = (refl, refl, (p, refl))
  call_left true true false = tt
  call_left true false k = tt
  call_left false true true = tt
  call_left false true false = tt
  call_left false false k = tt

  call_right : (n f k : Bool) → SameSet (optional (n && f && k) made) (cond f (either (set_to none none) (set_to (built k) (named n))) none)
  call_right true true true = (refl, refl, (p, refl))
  call_right true true false = tt
  call_right true false k = tt
  call_right false true true = tt
  call_right false true false = tt
  call_right false false k = tt

-- no set, whatever the flag
no_set : (f : Bool) → SameSet none (cond f none none)
no_set true = tt
no_set false = tt

two_calls : (b c f : Bool) (x y : Built) → SameSet none (cond f (either (set_to (cond b (some x) none) none) (set_to (cond c (some y) none) none)) none)
two_calls b c false x y = tt
two_calls true true true x y = tt
two_calls true false true x y = tt
two_calls false true true x y = tt
two_calls false false true x y = tt

pub unions_agree : UnionsAgree
unions_agree s (leaf p w) (leaf q v) = no_set s.flag
unions_agree s (leaf p w) (call q h es) = call_right p q w h es (is_name w) s.flag (is_constructor s h)
unions_agree s (call q h es) (leaf p w) = call_left p q w h es (is_name w) s.flag (is_constructor s h)
unions_agree s (call p h es) (call q g fs) =
    two_calls (is_constructor s h) (is_constructor s g) s.flag (record { head = h; args = es }) (record { head = g; args = fs })
