-- Laws of the signature's length, for the tests in the order in which the code makes them. Assumes nothing.
use mathlib.Core.Path.{◌≡◌, refl}
use mathlib.Core.List.{List}
use mathlib.Core.Bool.{Bool, true, false, ◌&&◌, cond}
use Prim.Native.Nat.{ℕ, ◌+◌, ◌-◌, ◌≤◌}
use native.Mathlib.Omega.{arith}
use lib.ListN.{length, get_or}
use lib.Dec.{leb, ltb}
use borrow.Author.Tests.{ltb-true}
use Rattle.rules.specs.Words.{limit12, max_lines, signature_base}
use Rattle.rules.specs.Program.{signature_length}

-- for a caller: as many counters as there can be lines are enough
pub length_most : (ws : List ℕ) → length ws ≤ max_lines → signature_length ws ≤ max_lines
length_most ws h = go (leb 1 (length ws)) (leb (signature_base + 1) (get_or ws 0 0)) (ltb (get_or ws 0 0) (signature_base + 1 + limit12)) refl
  where
    go : (a b c : Bool) → ltb (get_or ws 0 0) (signature_base + 1 + limit12) ≡ c → cond (a && (b && c)) (4 + (get_or ws 0 0 - signature_base)) (length ws) ≤ max_lines
    go true true true e =
        let low = ltb-true (get_or ws 0 0) (signature_base + 1 + limit12) e in
        omega arith
    go true true false e = h
    go true false c e = h
    go false b c e = h
