-- Laws of `elem`, and of a loop that looks for a word: it has found it so far just where the word is among those passed. Assumes nothing.
use mathlib.Core.Path.{◌≡◌, refl, sym, ap, ap₂, ◌∙◌}
use mathlib.Core.List.{List, [], ◌∷◌, ◌++◌}
use mathlib.Core.Bool.{Bool, true, false, ◌||◌}
use Prim.Native.Nat.{ℕ, ◌+◌, ◌<◌}
use lib.Dec.{eqb}
use lib.ListN.{length, get_or, take}
use Rattle.octets.specs.Regions.{elem}
use Rattle.octets.proofs.Splice.{take_more}

in_snoc : (w x : ℕ) (xs : List ℕ) → elem w (xs ++ (x ∷ [])) ≡ (elem w xs || eqb w x)
in_snoc w x [] = go (eqb w x)
  where
    go : (b : Bool) → (b || false) ≡ b
    go true = refl
    go false = refl
in_snoc w x (y ∷ xs) = ap (λ (b : Bool). eqb w y || b) (in_snoc w x xs) ∙ go (eqb w y) (elem w xs) (eqb w x)
  where
    go : (a b c : Bool) → (a || (b || c)) ≡ ((a || b) || c)
    go true b c = refl
    go false b c = refl

-- a turn of the loop
pub search_more : (w : ℕ) (l : List ℕ) (i x : ℕ) {found : Bool} → i < length l → x ≡ get_or l i 0 → found ≡ elem w (take i l)
    → (found || eqb w x) ≡ elem w (take (i + 1) l)
search_more w l i x room is e =
    ap₂ (λ (b : Bool) (y : ℕ). b || eqb w y) e is ∙ sym (in_snoc w (get_or l i 0) (take i l)) ∙ ap (elem w) (sym (take_more l i room))
