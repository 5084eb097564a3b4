-- What the functions of `joining` ask and give, in the definitions' words. Assumes nothing: these are definitions.
use Rattle.std.specs.Prelude.{true, List, [], ◌++◌, ◌∷◌, map, ◌≡◌, ◌*◌, ◌+◌, ◌-◌, ◌≤◌, ℕ, get_or, length}
use Rattle.std.proofs.Math.Option.{Option, none, some}
use Rattle.octets.specs.Regions.{At, Only, part, splice}
use Rattle.rules.specs.Canonicalize.{Replacement, canonicalize, replace_atom, replace_term, replacement_of}
use Rattle.rules.specs.Flat.{Atom, Tab, eqn, tab}
use Rattle.rules.specs.Signature.{Sig, is_var, same_term}
use Rattle.meaning.specs.Meaning.{All}
use Rattle.bodies.specs.Standing.{TabsAt, tabs_in}
use Rattle.canonicalize.specs.declared.Canonical.{Canonical}
use Rattle.canonicalize.specs.Canonicalize.{binding_words, place_after, resolve_terms}
use Rattle.merging.specs.RemoveDupVars.{Group, GroupsAt, all_eqns}
use Rattle.settling.specs.declared.joining.Area.{Area}
use Rattle.settling.specs.declared.joining.Joined.{Joined}

-- ---- one equality

unfoldable pub join_ask : Sig → ℕ → ℕ → Option Replacement
join_ask s a b = replacement_of (same_term a b) (is_var s a) (is_var s b) a b

-- what is written of it: nothing, if it asks for a replacement
abbrev pub join_words : Option Replacement → Sig → ℕ → ℕ → List ℕ
join_words none s a b = resolve_terms (same_term a b) s a b
join_words (some r) s a b = []

pub record JoinOneAsks (s : Sig) (l : List ℕ) (left p n : ℕ) (area : Area) : Type 0 where
  pub here : p + 1 + n ≤ area.to
  pub room : area.to + length (join_words (join_ask s left (get_or l p 0)) s left (get_or l p 0)) ≤ area.body
  pub clear : area.to ≤ area.body
  pub binds : area.body + area.k + 3 ≤ area.d
  pub top : area.d ≤ length l

-- the words after it
abbrev pub join_after : Option Replacement → Sig → List ℕ → (left right p n : ℕ) → Area → List ℕ
join_after none s l left right p n area = splice l area.to (resolve_terms (same_term left right) s left right)
join_after (some r) s l left right p n area =
    let groups = splice l (p + 1) (map (replace_term r) (part l (p + 1) n)) in
    let atoms = splice groups area.body (map (replace_term r) (part l area.body area.k)) in
    splice atoms (area.d - 3) (binding_words (r ∷ []))

abbrev pub left_after : Option Replacement → ℕ → ℕ
left_after none left = left
left_after (some r) left = replace_term r left

-- one of these two terms that asks for o
pub record JoinStep (o : Option Replacement) (s : Sig) (l m : List ℕ) (left right p n : ℕ) (area : Area) (r : Joined) : Type 0 where
  pub stays : r.left ≡ left_after o left
  pub size : r.words ≡ length (join_words o s left right)
  pub place : r.binds ≡ place_after o area.d
  pub words : m ≡ join_after o s l left right p n area

-- one whose right term stands at p
abbrev pub JoinedOne : Sig → (l m : List ℕ) → (left p n : ℕ) → Area → Joined → Type 0
JoinedOne s l m left p n area r = JoinStep (join_ask s left (get_or l p 0)) s l m left (get_or l p 0) p n area r

-- ---- the equalities of a group

pub record JoinGroupAsks (l : List ℕ) (left p m n : ℕ) (area : Area) : Type 0 where
  pub inside : m ≤ n
  pub here : p + n ≤ area.to
  pub room_to : area.to + 4 * m ≤ area.body
  pub room : area.body + area.k + 3 * m + 3 ≤ area.d
  pub top : area.d ≤ length l

-- every replacement of a list made in words, in atoms: the last one stands first
abbrev pub replaced_words : List Replacement → List ℕ → List ℕ
replaced_words [] ws = ws
replaced_words (r ∷ rs) ws = map (replace_term r) (replaced_words rs ws)

abbrev pub replaced_atoms : List Replacement → List Atom → List Atom
replaced_atoms [] xs = xs
replaced_atoms (r ∷ rs) xs = map (replace_atom r) (replaced_atoms rs xs)

-- only variables are replaced
abbrev pub Vars : Sig → List Replacement → Type 0
Vars s rs = All (λ (r : Replacement). is_var s r.old ≡ true) rs

-- the equalities of a term and each of some others
abbrev pub equal_to : ℕ → List ℕ → List Atom
equal_to left us = map (λ (u : ℕ). eqn 0 left u) us

-- some atoms are written at `to` and some replacements made, in the words of groups behind the group and in the atoms. Whatever is canonicalized
-- behind the group's equalities is canonicalized as if they had never been
pub record JoinedGroup (s : Sig) (l m : List ℕ) (left p count n : ℕ) (area : Area) (r : Joined) : Type 0 where
  pub written : List Tab
  pub rs : List Replacement
  pub vars : Vars s rs
  pub tabs : TabsAt written m area.to r.words
  pub behind : At (replaced_words rs (part l (p + count) (n - count))) m (p + count)
  pub atoms : At (replaced_words rs (part l area.body area.k)) m area.body
  pub binds : At (binding_words rs) m r.binds
  pub places : r.binds + 3 * length rs ≡ area.d
  pub few : 4 * length rs + r.words ≤ 4 * count
  pub between : (ws : List ℕ) (q : ℕ) → At ws l q → p + n ≤ q → q + length ws ≤ area.to → At ws m q
  pub only : Only l m p area.d
  pub all_tabs : (xs : List Atom) → (canonicalize s (equal_to left (part l p count) ++ xs) []).tabs ≡ written ++ (canonicalize s (replaced_atoms rs xs) []).tabs
  pub all_repls : (xs : List Atom) → (canonicalize s (equal_to left (part l p count) ++ xs) []).repls ≡ (canonicalize s (replaced_atoms rs xs) []).repls ++ rs

-- ---- the groups of a pass in front of the atoms that it kept

pub record AgainAsks (l : List ℕ) (at e : ℕ) (area : Area) : Type 0 where
  pub groups : List Group
  pub stand : GroupsAt groups l at e
  pub kepts : TabsAt (tabs_in l area.body area.k) l area.body area.k
  pub clear : at + e ≤ area.to
  pub room_to : area.to + 4 * length (all_eqns groups) + area.k ≤ area.body
  pub room : area.body + area.k + 7 * length (all_eqns groups) + 3 ≤ area.d
  pub top : area.d ≤ length l

-- what the groups became stands at `to`, and the atoms with all replacements made at `body`
pub record JoinedOf (s : Sig) (gs : List Group) (l m : List ℕ) (at : ℕ) (area : Area) (r : Canonical) : Type 0 where
  pub written : List Tab
  pub ts : List Tab
  pub rs : List Replacement
  pub tabs : TabsAt written m area.to r.words
  pub atoms : TabsAt ts m area.body area.k
  pub binds : At (binding_words rs) m r.binds
  pub places : r.binds + 3 * length rs ≡ area.d
  pub few : 4 * length rs + r.words ≤ 4 * length (all_eqns gs)
  pub only : Only l m at area.d
  pub all_tabs : (canonicalize s (all_eqns gs ++ map tab (tabs_in l area.body area.k)) []).tabs ≡ written ++ ts
  pub all_repls : (canonicalize s (all_eqns gs ++ map tab (tabs_in l area.body area.k)) []).repls ≡ rs

pub record JoinedAll (s : Sig) (l m : List ℕ) (at e : ℕ) (area : Area) (r : Canonical) : Type 0 where
  pub of : (gs : List Group) → GroupsAt gs l at e → JoinedOf s gs l m at area r
