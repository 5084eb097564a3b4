-- Where in a body the words of a bucket may stand. Assumes nothing: these are definitions.
use Rattle.std.specs.Prelude.{◌≡◌, List, [], ◌∷◌, map, ℕ, suc, ◌+◌, ◌*◌, ◌<◌, ◌≤◌, min, length, get_or, set}
use Rattle.octets.specs.Regions.{part, splice, swap}
use Rattle.rules.specs.Flat.{Atom, eqn, tab}
use Rattle.bodies.specs.Buckets.{bucket_of}

-- the word at place i stands in the span of its bucket; the spans of `count` buckets stand at `table`
pub record InSpan (l : List ℕ) (table count i : ℕ) : Type 0 where
  pub low : get_or l (table + bucket_of count (get_or l i 0)) 0 ≤ i
  pub high : i < get_or l (table + count + bucket_of count (get_or l i 0)) 0

-- each of the n words at `at` stands in the span of its bucket, and no span ends beyond them
pub record Spanned (l : List ℕ) (at n table count : ℕ) : Type 0 where
  pub some : 0 < count
  pub few : count < 0x1_0000_0000
  pub beyond : at + n ≤ table
  pub room : table + 2 * count ≤ length l
  pub covers : (i : ℕ) → at ≤ i → i < at + n → InSpan l table count i
  pub ends : (b : ℕ) → b < count → get_or l (table + count + b) 0 ≤ at + n

-- ---- building

-- how many of some atoms are equalities: a table is built only where there are many
unfoldable pub equations_in : List Atom → ℕ
equations_in [] = 0
equations_in (eqn p a b ∷ xs) = suc (equations_in xs)
equations_in (tab t ∷ xs) = equations_in xs

pub record SpanAsks (l : List ℕ) (at n table : ℕ) : Type 0 where
  pub some : 1 ≤ n
  pub small : at + n < 0x1_0000_0000
  pub beyond : at + n ≤ table
  pub room : table + 2 * n ≤ length l

-- the table, of so many buckets, is all that changed
pub record Built (l m : List ℕ) (at n table count : ℕ) : Type 0 where
  pub spans : List ℕ
  pub words : m ≡ splice l table spans
  pub size : length spans ≡ 2 * count
  pub few : count ≤ n
  pub spanned : Spanned m at n table count

-- one word, behind which none was met
pub record WidenAsks (l : List ℕ) (p table count : ℕ) : Type 0 where
  pub some : 0 < count
  pub few : count < 0x1_0000_0000
  pub small : p + 1 < 0x1_0000_0000
  pub beyond : p < table
  pub room : table + 2 * count ≤ length l

unfoldable pub widened : List ℕ → (p table count : ℕ) → List ℕ
widened l p table count =
    let low = table + bucket_of count (get_or l p 0) in
    set (set l low (min (get_or l low 0) p)) (low + count) (p + 1)

-- ---- replacing

-- all x among the n words at `at` are y, and but for the table nothing else changed
pub record Replacing (l m : List ℕ) (at n x y table count : ℕ) : Type 0 where
  pub spans : List ℕ
  pub words : m ≡ splice (splice l at (map (swap x y) (part l at n))) table spans
  pub size : length spans ≡ 2 * count
  pub spanned : Spanned m at n table count
