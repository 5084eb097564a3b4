-- A turn of a loop that compares two parts word by word. Assumes nothing.
use mathlib.Core.Path.{◌≡◌, sym, ◌∙◌}
use mathlib.Core.List.{List, [], ◌∷◌, ◌++◌}
use Prim.Native.Nat.{ℕ, ◌+◌, ◌<◌}
use lib.ListN.{length, get_or}
use Rattle.octets.specs.Regions.{part}
use Rattle.octets.proofs.Splice.{part_more}

-- equal so far, and equal in the next word
pub parts_more : (l m : List ℕ) (p q i : ℕ) → p + i < length l → q + i < length m → part l p i ≡ part m q i
    → get_or l (p + i) 0 ≡ get_or m (q + i) 0 → part l p (i + 1) ≡ part m q (i + 1)
parts_more l m p q i h k e w = part_more l p i h ∙ (λ j. e j ++ (w j ∷ [])) ∙ sym (part_more m q i k)
