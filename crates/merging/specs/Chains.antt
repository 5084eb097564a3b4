-- Links between the atoms of a pass, in the definitions' words. Assumes nothing: these are definitions.
use Rattle.std.specs.Prelude.{◌≡◌, Bool, true, false, cond, List, [], ◌∷◌, ℕ, ◌+◌, ◌-◌, ◌<◌, ◌≤◌, eqb, length, get_or}
use Rattle.std.specs.Prelude.{Option, None, Some}
use Rattle.octets.specs.Regions.{Only, part}
use Rattle.rules.specs.Flat.{Tab, tab_words}
use Rattle.rules.specs.RemoveDupVars.{seen}
use Rattle.words.specs.Atom.{BeginsGood}
use Rattle.bodies.specs.Buckets.{key_of, bucket_of, bucket_in}
use Rattle.bodies.specs.Standing.{size_at, tabs_in, TabsAt}

-- ---- what links and marks say

-- the link that leads to an offset, or to none
abbrev pub link_of : Option ℕ → ℕ
link_of None = 0
link_of (Some j) = j + 1

-- the link to the first atom of the bucket b among ts, which stand from offset i on: 1 + its offset, or 0
unfoldable pub next_in : (count b : ℕ) → List Tab → ℕ → ℕ
next_in count b [] i = 0
next_in count b (t ∷ ts) i = cond (eqb (bucket_in count t) b) (i + 1) (next_in count b ts (i + length (tab_words t)))

-- the link to the last one
unfoldable pub last_in : (count b : ℕ) → List Tab → ℕ → ℕ → ℕ
last_in count b [] i none = none
last_in count b (t ∷ ts) i none = last_in count b ts (i + length (tab_words t)) (cond (eqb (bucket_in count t) b) (i + 1) none)

-- each of the atoms ts, which stand from offset i on, is linked to the next one of its bucket
unfoldable pub LinksAt : ℕ → List Tab → ℕ → List ℕ → ℕ → Type 0
LinksAt count [] i l links = Unit {0}
LinksAt count (t ∷ ts) i l links =
    (get_or l (links + i + 1) 0 ≡ next_in count (bucket_in count t) ts (i + length (tab_words t))) × LinksAt count ts (i + length (tab_words t)) l links

abbrev pub mark_of : Bool → ℕ
mark_of true = 1
mark_of false = 0

-- those are marked that are alike to one of `firsts`
unfoldable pub MarksAt : List Tab → List Tab → ℕ → List ℕ → ℕ → Type 0
MarksAt firsts [] i l links = Unit {0}
MarksAt firsts (t ∷ ts) i l links =
    (get_or l (links + i + 2) 0 ≡ mark_of (seen t firsts)) × MarksAt firsts ts (i + length (tab_words t)) l links

-- ---- one atom

-- the bucket of the atom at p, by its words
unfoldable pub bucket_at : (count : ℕ) → List ℕ → ℕ → ℕ
bucket_at count l p = bucket_of count (key_of (part l p (size_at l p - 1)))

pub record LinkOneAsks (l : List ℕ) (from i links table count : ℕ) : Type 0 where
  pub begins : BeginsGood l (from + i)
  pub output : 2 ≤ size_at l (from + i)
  pub whole : from + i + size_at l (from + i) ≤ length l
  pub some : 0 < count
  pub few : count < 0x1_0000_0000
  pub small : i + 1 < 0x1_0000_0000
  pub last : get_or l (table + bucket_at count l (from + i)) 0 ≤ i
  pub below : links + i + 3 ≤ from
  pub beyond : from + i + size_at l (from + i) ≤ table
  pub room : table + count ≤ length l

-- the last atom of its bucket leads to it, its own link and mark are 0, it is the last one of its bucket, and no other word changed
pub record LinkedOne (l m : List ℕ) (from i links table count : ℕ) : Type 0 where
  pub before : get_or m (links + get_or l (table + bucket_at count l (from + i)) 0) 0 ≡ i + 1
  pub link : get_or m (links + i + 1) 0 ≡ 0
  pub mark : get_or m (links + i + 2) 0 ≡ 0
  pub newest : get_or m (table + bucket_at count l (from + i)) 0 ≡ i + 1
  pub others : (j : ℕ) → (j ≡ links + get_or l (table + bucket_at count l (from + i)) 0 → ⊥) → (j ≡ links + i + 1 → ⊥) → (j ≡ links + i + 2 → ⊥)
      → (j ≡ table + bucket_at count l (from + i) → ⊥) → get_or m j 0 ≡ get_or l j 0
  pub only : Only l m links (table + count)

-- ---- all of them

pub record LinkAsks (l : List ℕ) (from n links table count : ℕ) : Type 0 where
  pub tabs : TabsAt (tabs_in l from n) l from n
  pub some : 0 < count
  pub few : count < 0x1_0000_0000
  pub small : n < 0x1000_0000
  pub below : links + n + 1 ≤ from
  pub beyond : from + n ≤ table
  pub room : table + count ≤ length l

pub record Linked (l m : List ℕ) (from n links table count : ℕ) : Type 0 where
  pub tabs : TabsAt (tabs_in l from n) m from n
  pub chained : LinksAt count (tabs_in l from n) 0 m links
  pub marks : MarksAt [] (tabs_in l from n) 0 m links
  pub only : Only l m links (table + count)
