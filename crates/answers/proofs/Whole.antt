-- All of some lengths are of whole words, or one is not: what going through them comes to. Assumes nothing.
use Prim.Native.Nat.{ℕ, zero, suc, ◌%◌, ◌<◌}
use native.Mathlib.Omega.{arith}
use mathlib.Core.Path.{◌≡◌, refl, sym, ◌∙◌, ap}
use mathlib.Core.Bool.{Bool, true, false, ◌&&◌}
use mathlib.Core.List.{List, [], ◌∷◌}
use lib.ListN.{length, get_or}
use lib.Dec.{eqb}
use Rattle.std.specs.Bool.{MatchBool}
use Rattle.std.specs.List.{AllWithin, HoldsAt}
use Rattle.rules.specs.Calls.{whole_words}

abbrev pub IsWhole : Bool → ℕ → Type 0
IsWhole b n = eqb (n % 4) 0 ≡ b

all_of : (ns : List ℕ) → ((k : ℕ) → k < length ns → IsWhole true (get_or ns k 0)) → true ≡ whole_words ns
all_of [] h = refl
all_of (n ∷ ns) h =
    all_of ns (λ k l. h (suc k) (omega arith)) ∙ sym (ap (λ (b : Bool). b && whole_words ns) (h zero (omega arith)))

one_of : (ns : List ℕ) (k : ℕ) → k < length ns → IsWhole false (get_or ns k 0) → false ≡ whole_words ns
one_of [] k l h = absurd (omega arith)
one_of (n ∷ ns) zero l h = sym (ap (λ (b : Bool). b && whole_words ns) h)
one_of (n ∷ ns) (suc k) l h = go (eqb (n % 4) 0) (one_of ns k (omega arith) h)
  where
    go : (b : Bool) → false ≡ whole_words ns → false ≡ (b && whole_words ns)
    go true e = e
    go false e = refl

pub whole_so : (ns : List ℕ) (r : Bool) → MatchBool r (AllWithin (IsWhole true) ns 0 (length ns)) ((k : ℕ) × (k < length ns) × HoldsAt (IsWhole false) ns k) → r ≡ whole_words ns
whole_so ns true h = all_of ns (λ k l. h k 0 (omega arith) l)
whole_so ns false h = one_of ns h.0 h.1 (h.2 0)
