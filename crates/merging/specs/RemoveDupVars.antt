-- What the functions of `remove_dup_vars` ask and give, in the definitions' words. Assumes nothing: these are definitions.
use Rattle.std.specs.Prelude.{Bool, false, true, ◌&&◌, cond, not, List, [], ◌++◌, ◌∷◌, map, ◌≡◌, ◌+◌, ◌-◌, ◌<◌, ◌≤◌, ℕ, get_or, length}
use Rattle.octets.specs.Regions.{At, Only, part, splice}
use Rattle.rules.specs.Flat.{Atom, Tab, eqn, tab_words, words_of}
use Rattle.rules.specs.RemoveDupVars.{alike, keep, seen}
use Rattle.rules.specs.Signature.{same_term}
use Rattle.rules.specs.Words.{unit}
use Rattle.meaning.specs.Meaning.{All}
use Rattle.merging.specs.declared.Merged.{Merged}
use Rattle.merging.specs.declared.Merging.{Merging}
use Rattle.merging.specs.Chains.{LinksAt, MarksAt}
use Rattle.bodies.specs.Standing.{TabAt, TabsAt, size_at, tab_at, tabs_in}

-- ---- groups

-- the equalities of a group: its first output is equal to each of the others
pub record Group : Type 0 where
  pub left : ℕ
  pub rights : List ℕ

-- a group without equalities is not written
abbrev pub group_for : ℕ → List ℕ → List ℕ
group_for left [] = []
group_for left (r ∷ rs) = left ∷ length (r ∷ rs) ∷ r ∷ rs

abbrev pub group_words : Group → List ℕ
group_words g = group_for g.left g.rights

-- the later outputs of a's group that are unlike a's
abbrev pub rights_of : Tab → List Tab → List ℕ
rights_of a [] = []
rights_of a (b ∷ xs) = cond (alike a b && not (same_term a.out b.out)) (b.out ∷ rights_of a xs) (rights_of a xs)

abbrev pub group_of : Tab → List Tab → Group
group_of a xs = record { left = a.out; rights = rights_of a xs }

-- the groups of a pass, which follow their first atoms
abbrev pub groups_of : List Tab → List Tab → List Group
groups_of firsts [] = []
groups_of firsts (a ∷ xs) = cond (seen a firsts) (groups_of firsts xs) (group_of a xs ∷ groups_of (a ∷ firsts) xs)

-- the equalities themselves
abbrev pub eqns_of : Group → List Atom
eqns_of g = map (λ (r : ℕ). eqn 0 g.left r) g.rights

abbrev pub all_eqns : List Group → List Atom
all_eqns [] = []
all_eqns (g ∷ gs) = eqns_of g ++ all_eqns gs

-- ---- two atoms

pub record MemberAsks (l : List ℕ) (p q mark to : ℕ) : Type 0 where
  pub first : TabAt l p
  pub later : TabAt l q
  pub apart : to < mark
  pub below : mark < p
  pub behind : p ≤ q

-- what is written of the atom at q
abbrev pub cells_of : (isAlike isSame : Bool) → ℕ → List ℕ
cells_of true false b = b ∷ []
cells_of true true b = []
cells_of false same b = []

abbrev pub cells_at : List ℕ → ℕ → ℕ → List ℕ
cells_at l p q = cells_of (alike (tab_at l p) (tab_at l q)) (same_term (tab_at l p).out (tab_at l q).out) (tab_at l q).out

abbrev pub marked : Bool → List ℕ → ℕ → List ℕ
marked true l mark = splice l mark (1 ∷ [])
marked false l mark = l

pub record Member (l m : List ℕ) (p q mark to r : ℕ) : Type 0 where
  pub size : r ≡ length (cells_at l p q)
  pub words : m ≡ splice (marked (alike (tab_at l p) (tab_at l q)) l mark) to (cells_at l p q)

-- ---- the group of an atom

-- the atoms behind that at offset i
unfoldable pub behind : List ℕ → (from n i : ℕ) → List Tab
behind l from n i = tabs_in l (from + i + size_at l (from + i)) (n - i - size_at l (from + i))

-- they stand, they are linked by some number of buckets, and there is room for the group below the links
pub record GroupAsks (l : List ℕ) (from n i links to : ℕ) : Type 0 where
  pub tabs : TabsAt (tab_at l (from + i) ∷ behind l from n i) l (from + i) (n - i)
  pub buckets : ℕ
  pub linked : LinksAt buckets (tab_at l (from + i) ∷ behind l from n i) i l links
  pub inside : i < n
  pub small : n < 0x1000_0000
  pub below : links + n + 1 ≤ from
  pub room : to + length (group_words (group_of (tab_at l (from + i)) (behind l from n i))) ≤ links

-- of the atoms ts, which stand from offset i on, those alike to a are marked
unfoldable pub MarkedBy : Tab → List Tab → ℕ → List ℕ → List ℕ → ℕ → Type 0
MarkedBy a [] i l m links = Unit {0}
MarkedBy a (t ∷ ts) i l m links =
    (get_or m (links + i + 2) 0 ≡ cond (alike a t) 1 (get_or l (links + i + 2) 0)) × MarkedBy a ts (i + length (tab_words t)) l m links

-- the links of the atoms ts are as they were
unfoldable pub LinksKept : List Tab → ℕ → List ℕ → List ℕ → ℕ → Type 0
LinksKept [] i l m links = Unit {0}
LinksKept (t ∷ ts) i l m links =
    (get_or m (links + i + 1) 0 ≡ get_or l (links + i + 1) 0) × LinksKept ts (i + length (tab_words t)) l m links

pub record Grouped (l m : List ℕ) (from n i links to r : ℕ) : Type 0 where
  pub at : At (group_words (group_of (tab_at l (from + i)) (behind l from n i))) m to
  pub size : r ≡ length (group_words (group_of (tab_at l (from + i)) (behind l from n i)))
  pub marks : MarkedBy (tab_at l (from + i)) (behind l from n i) (i + size_at l (from + i)) l m links
  pub chained : LinksKept (behind l from n i) (i + size_at l (from + i)) l m links
  pub only : Only l m to (links + n + 1)

-- ---- one atom of a pass

-- of the atoms that are left those are marked that are alike to one of `firsts`; the run of kept ones ends where the atom stands
pub record MergeOneAsks (l : List ℕ) (from n i eqs links : ℕ) (t : Merging) : Type 0 where
  pub firsts : List Tab
  pub tabs : TabsAt (tab_at l (from + i) ∷ behind l from n i) l (from + i) (n - i)
  pub buckets : ℕ
  pub linked : LinksAt buckets (tab_at l (from + i) ∷ behind l from n i) i l links
  pub marks : MarksAt firsts (tab_at l (from + i) ∷ behind l from n i) i l links
  pub inside : i < n
  pub small : n < 0x1000_0000
  pub down : t.done.kept ≤ t.start
  pub run : t.start ≤ i
  pub few : t.done.atoms ≤ i
  pub below : links + n + 1 ≤ from
  pub room : seen (tab_at l (from + i)) firsts ≡ false → eqs + t.done.eqs + length (group_words (group_of (tab_at l (from + i)) (behind l from n i))) ≤ links

-- a dropped atom: the run before it moves down, and the next one starts behind it
pub record DroppedOne (l m : List ℕ) (from i : ℕ) (t r : Merging) : Type 0 where
  pub words : m ≡ splice l (from + t.done.kept) (part l (from + t.start) (i - t.start))
  pub eqs_end : r.done.eqs ≡ t.done.eqs
  pub kept_end : r.done.kept ≡ t.done.kept + (i - t.start)
  pub atoms_end : r.done.atoms ≡ t.done.atoms
  pub start_end : r.start ≡ i + size_at l (from + i)

-- a kept atom: its group is written, those alike behind it are marked, and it is counted; it stays in the run
pub record KeptOne (l m : List ℕ) (from n i eqs links : ℕ) (t r : Merging) : Type 0 where
  pub more : ℕ
  pub group : Grouped l m from n i links (eqs + t.done.eqs) more
  pub eqs_end : r.done.eqs ≡ t.done.eqs + more
  pub kept_end : r.done.kept ≡ t.done.kept
  pub atoms_end : r.done.atoms ≡ t.done.atoms + 1
  pub start_end : r.start ≡ t.start

abbrev pub OneStep : (wasSeen : Bool) → List ℕ → List ℕ → (from n i eqs links : ℕ) → Merging → Merging → Type 0
OneStep true l m from n i eqs links t r = DroppedOne l m from i t r
OneStep false l m from n i eqs links t r = KeptOne l m from n i eqs links t r

pub record MergedOne (l m : List ℕ) (from n i eqs links : ℕ) (t r : Merging) : Type 0 where
  pub step : (firsts : List Tab) → MarksAt firsts (tab_at l (from + i) ∷ behind l from n i) i l links → OneStep (seen (tab_at l (from + i)) firsts) l m from n i eqs links t r

-- ---- a pass

pub record MergeAsks (l : List ℕ) (from n eqs links : ℕ) : Type 0 where
  pub tabs : TabsAt (tabs_in l from n) l from n
  pub buckets : ℕ
  pub linked : LinksAt buckets (tabs_in l from n) 0 l links
  pub marks : MarksAt [] (tabs_in l from n) 0 l links
  pub small : n < 0x1000_0000
  pub below : links + n + 1 ≤ from
  pub room : eqs + length (words_of group_words (groups_of [] (tabs_in l from n))) ≤ links

pub record MergedAll (l m : List ℕ) (from n eqs links : ℕ) (r : Merged) : Type 0 where
  pub groups : At (words_of group_words (groups_of [] (tabs_in l from n))) m eqs
  pub size : r.eqs ≡ length (words_of group_words (groups_of [] (tabs_in l from n)))
  pub tabs : TabsAt (keep [] (tabs_in l from n)) m from r.kept
  pub atoms : r.atoms ≡ length (keep [] (tabs_in l from n))
  pub only : Only l m eqs (from + n)

pub record PassAsks (l : List ℕ) (from n eqs links table : ℕ) : Type 0 where
  pub tabs : TabsAt (tabs_in l from n) l from n
  pub small : n < 0x1000_0000
  pub room_eqs : eqs + length (words_of group_words (groups_of [] (tabs_in l from n))) ≤ links
  pub below : links + n + 1 ≤ from
  pub beyond : from + n ≤ table
  pub room : table + n + 1 ≤ length l

pub record Passed (l m : List ℕ) (from n eqs table : ℕ) (r : Merged) : Type 0 where
  pub groups : At (words_of group_words (groups_of [] (tabs_in l from n))) m eqs
  pub size : r.eqs ≡ length (words_of group_words (groups_of [] (tabs_in l from n)))
  pub tabs : TabsAt (keep [] (tabs_in l from n)) m from r.kept
  pub atoms : r.atoms ≡ length (keep [] (tabs_in l from n))
  pub only : Only l m eqs (table + n + 1)

-- ---- groups where they stand

-- groups that are written have an equality each
abbrev pub Some : Group → Type 0
Some g = 1 ≤ length g.rights

pub record GroupsAt (gs : List Group) (l : List ℕ) (p n : ℕ) : Type 0 where
  pub some : All Some gs
  pub few : All (λ (g : Group). length g.rights < unit) gs
  pub size : n ≡ length (words_of group_words gs)
  pub at : At (words_of group_words gs) l p
