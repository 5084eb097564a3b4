-- Fresh variables: a word tells its pair, and what is taken from the counters never comes again. Assumes nothing.
use Prim.Native.Nat.{ℕ, suc, ◌+◌, ◌≤◌, ◌<◌}
use native.Mathlib.Nat.{le_refl, le_trans}
use native.Mathlib.Decide.{ℕ_discrete, dec_lt}
use native.Mathlib.Omega.{arith}
use mathlib.Core.Path.{◌≡◌, refl, ap, subst, ◌∙◌}
use mathlib.Core.Logic.{by_cases}
use mathlib.Core.Bool.{Bool, true, false, ◌||◌}
use mathlib.Core.List.{List}
use lib.ListN.{length, set, get_or-eq_default}
use lib.Seq.{get_or-set_same, get_or-set_other}
use lib.Dec.{leb, ltb}
use borrow.Author.Tests.{le-leb, ltb-true, leb-false}
use Rattle.rules.specs.Words.{limit16, fresh_base, name_base, fresh_word}
use Rattle.rules.specs.Refusals.{ok, used_up}
use Rattle.rules.specs.Signature.{Sig, is_var, is_fresh}
use Rattle.rules.specs.ToQuery.{count, Fresh, fresh}
use Rattle.meaning.proofs.Results.{demand_ok}

-- w is none of the fresh variables still to come
abbrev pub Before : List ℕ → ℕ → Type 0
Before cs w = (h c : ℕ) → count cs h ≤ c → c < limit16 → w ≡ fresh_word h c → ⊥

abbrev pub Grows : List ℕ → List ℕ → Type 0
Grows cs ds = (h : ℕ) → count cs h ≤ count ds h

pub before_later : (cs ds : List ℕ) → Grows cs ds → (w : ℕ) → Before cs w → Before ds w
before_later cs ds g w b h c l m e = b h c (le_trans (g h) l) m e

pub plain_before : (w : ℕ) → is_fresh w ≡ false → (cs : List ℕ) → Before cs w
plain_before w e cs h c l m k = omega (arith, leb-false fresh_base w e)

pub fresh_inj : (h c g d : ℕ) → c < limit16 → d < limit16 → fresh_word h c ≡ fresh_word g d → (h ≡ g) × (c ≡ d)
fresh_inj h c g d l m e = (omega arith, omega arith)

-- what taking a fresh variable gives
pub record Took (h : ℕ) (cs : List ℕ) (f : Fresh) : Type 0 where
  pub is_it : f.var ≡ fresh_word h (count cs h)
  pub small : count cs h < limit16
  pub grows : Grows cs f.next
  pub next : count f.next h ≡ suc (count cs h)
  pub after : Before f.next f.var

-- a head whose counter is not used up has one
inside : (cs : List ℕ) (h : ℕ) → count cs h < limit16 → h < length cs
inside cs h l = by_cases (dec_lt h (length cs)) (λ y. y) (λ n. let e = get_or-eq_default cs limit16 {n = h} (omega arith) in absurd (omega arith))

bumped : (cs : List ℕ) (h g : ℕ) → h < length cs → Dec (g ≡ h) → count cs g ≤ count (set cs h (suc (count cs h))) g
bumped cs h g l (yes e) = rw (e, get_or-set_same cs h (suc (count cs h)) limit16 l) (omega arith)
bumped cs h g l (no n) = rw (get_or-set_other cs h g (suc (count cs h)) limit16 n) (le_refl _)

pub took : (p h : ℕ) (cs : List ℕ) (f : Fresh) → fresh p h cs ≡ ok f → Took h cs f
took p h cs f k =
    let d = demand_ok (ltb (count cs h) limit16) used_up p _ f k in
    let l = ltb-true (count cs h) limit16 d.0 in
    let i = inside cs h l in
    subst (λ (g : Fresh). Took h cs g) d.1
    (record {
      is_it = refl;
      small = l;
      grows = λ g. bumped cs h g i (ℕ_discrete g h);
      next = get_or-set_same cs h (suc (count cs h)) limit16 i;
      after = λ g d m n q.
          let k = fresh_inj h (count cs h) g d l n q in
          let z = rw (← k.0, get_or-set_same cs h (suc (count cs h)) limit16 i) at m in
          omega arith;
    })

pub fresh_is : (h c : ℕ) → is_fresh (fresh_word h c) ≡ true
fresh_is h c = le-leb fresh_base (fresh_word h c) (omega arith)

pub fresh_var : (s : Sig) (h c x : ℕ) → x ≡ fresh_word h c → is_var s x ≡ true
fresh_var s h c x e = ap (λ (b : Bool). b || leb (name_base + s.globals) x) (ap is_fresh e ∙ fresh_is h c)
