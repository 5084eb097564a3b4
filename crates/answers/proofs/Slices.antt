-- Slices that are whole words: what the test of all of them says of each. Assumes nothing.
use Prim.Native.Nat.{ℕ, zero, suc, ◌%◌}
use mathlib.Core.Path.{◌≡◌, refl}
use mathlib.Core.Bool.{true}
use mathlib.Core.List.{List, [], ◌∷◌}
use lib.ListN.{get_or}
use lib.Dec.{eqb}
use borrow.Author.Tests.{eqb-true}
use Rattle.rules.specs.Calls.{whole_words}
use Rattle.meaning.proofs.Lists.{and_left, and_right}

pub every_whole : (ns : List ℕ) → whole_words ns ≡ true → (i : ℕ) → get_or ns i 0 % 4 ≡ 0
every_whole [] h i = refl
every_whole (n ∷ ns) h zero = eqb-true (n % 4) 0 (and_left (eqb (n % 4) 0) (whole_words ns) h)
every_whole (n ∷ ns) h (suc i) = every_whole ns (and_right (eqb (n % 4) 0) (whole_words ns) h) i
