-- The groups that a pass writes are its equalities, for what follows a pass. Assumes nothing.
use mathlib.Core.Bool.{Bool, ◌&&◌, cond, false, not, true}
use mathlib.Core.List.{List, [], ◌++◌, ◌∷◌, map}
use mathlib.Core.Path.{◌∙◌, ◌≡◌, ap, ap₂, refl, subst, sym}
use Prim.Native.Nat.{◌*◌, ◌<◌, ◌≤◌, ℕ}
use native.Mathlib.Omega.{arith}
use lib.ListN.{length, length-append, length-map}
use Rattle.octets.specs.Regions.{At}
use Rattle.rules.specs.Flat.{Atom, Tab, eqn, tab_words, words_of}
use Rattle.rules.specs.RemoveDupVars.{alike, clashes, merged, seen}
use Rattle.rules.specs.Signature.{same_term}
use Rattle.rules.specs.Words.{unit}
use Rattle.meaning.proofs.Lists.{cond_both, length_words}
use Rattle.meaning.proofs.WordLaws.{two_tab}
use Rattle.meaning.specs.Meaning.{All}
use Rattle.bodies.specs.Standing.{TabsAt, tabs_in}
use Rattle.merging.specs.declared.Merged.{Merged}
use Rattle.merging.specs.RemoveDupVars.{Group, GroupsAt, Passed, Some, all_eqns, eqns_of, group_for, group_of, group_words, groups_of, rights_of}
use Rattle.merging.proofs.Groups.{group_more, rights_few}

-- ---- groups as equalities

pub group_eqns : (a : Tab) (xs : List Tab) → eqns_of (group_of a xs) ≡ clashes a xs
group_eqns a [] = refl
group_eqns a (b ∷ xs) = go (alike a b && not (same_term a.out b.out)) (group_eqns a xs)
  where
    go : (c : Bool) → map (λ (r : ℕ). eqn 0 a.out r) (rights_of a xs) ≡ clashes a xs
        → map (λ (r : ℕ). eqn 0 a.out r) (cond c (b.out ∷ rights_of a xs) (rights_of a xs)) ≡ cond c (eqn 0 a.out b.out ∷ clashes a xs) (clashes a xs)
    go true e = ap (λ (es : List Atom). eqn 0 a.out b.out ∷ es) e
    go false e = e

pub groups_eqns : (fs ts : List Tab) → all_eqns (groups_of fs ts) ≡ merged fs ts
groups_eqns fs [] = refl
groups_eqns fs (a ∷ xs) = go (seen a fs) (groups_eqns fs xs) (groups_eqns (a ∷ fs) xs)
  where
    go : (b : Bool) → all_eqns (groups_of fs xs) ≡ merged fs xs → all_eqns (groups_of (a ∷ fs) xs) ≡ merged (a ∷ fs) xs
        → all_eqns (cond b (groups_of fs xs) (group_of a xs ∷ groups_of (a ∷ fs) xs)) ≡ cond b (merged fs xs) (clashes a xs ++ merged (a ∷ fs) xs)
    go true old new = old
    go false old new = ap₂ ◌++◌ (group_eqns a xs) new

-- ---- how many words they have

group_small : (w : ℕ) (rs : List ℕ) → length (group_for w rs) ≤ 3 * length rs
group_small w [] = omega arith
group_small w (r ∷ rs) = omega arith

eqns_length : (g : Group) → length (eqns_of g) ≡ length g.rights
eqns_length g = length-map g.rights (λ (r : ℕ). eqn 0 g.left r)

words_small : (gs : List Group) → length (words_of group_words gs) ≤ 3 * length (all_eqns gs)
words_small [] = omega arith
words_small (g ∷ gs) =
    omega (
      arith,
      group_small g.left g.rights,
      words_small gs,
      eqns_length g,
      length-append (group_words g) (words_of group_words gs),
      length-append (eqns_of g) (all_eqns gs),
    )

words_more : (gs : List Group) → length (all_eqns gs) ≤ length (words_of group_words gs)
words_more [] = omega arith
words_more (g ∷ gs) =
    omega (
      arith,
      group_more g.left g.rights,
      words_more gs,
      eqns_length g,
      length-append (group_words g) (words_of group_words gs),
      length-append (eqns_of g) (all_eqns gs),
    )

pub groups_small : (fs ts : List Tab) → length (words_of group_words (groups_of fs ts)) ≤ 3 * length (merged fs ts)
groups_small fs ts = omega (arith, words_small (groups_of fs ts), ap length (groups_eqns fs ts))

pub groups_more : (fs ts : List Tab) → length (merged fs ts) ≤ length (words_of group_words (groups_of fs ts))
groups_more fs ts = omega (arith, words_more (groups_of fs ts), ap length (groups_eqns fs ts))

-- no words: no equality
pub groups_none : (fs ts : List Tab) → length (words_of group_words (groups_of fs ts)) ≡ 0 → merged fs ts ≡ []
groups_none fs ts e = go (merged fs ts) (groups_more fs ts)
  where
    go : (es : List Atom) → length es ≤ length (words_of group_words (groups_of fs ts)) → es ≡ []
    go [] h = refl
    go (x ∷ es) h = absurd (omega (arith, e, h))

-- ---- the groups that are written: those with an equality

abbrev with_rights : List ℕ → Group → List Group → List Group
with_rights [] g gs = gs
with_rights (r ∷ rs) g gs = g ∷ gs

abbrev pub some_of : List Group → List Group
some_of [] = []
some_of (g ∷ gs) = with_rights g.rights g (some_of gs)

some_words : (gs : List Group) → words_of group_words (some_of gs) ≡ words_of group_words gs
some_words [] = refl
some_words (g ∷ gs) = go g.rights refl (some_words gs)
  where
    go : (rs : List ℕ) → g.rights ≡ rs → words_of group_words (some_of gs) ≡ words_of group_words gs
        → words_of group_words (with_rights rs g (some_of gs)) ≡ group_for g.left g.rights ++ words_of group_words gs
    go [] e h = h ∙ ap (λ (x : List ℕ). group_for g.left x ++ words_of group_words gs) (sym e)
    go (r ∷ rs) e h = ap (λ (ws : List ℕ). group_for g.left g.rights ++ ws) h

some_eqns : (gs : List Group) → all_eqns (some_of gs) ≡ all_eqns gs
some_eqns [] = refl
some_eqns (g ∷ gs) = go g.rights refl (some_eqns gs)
  where
    go : (rs : List ℕ) → g.rights ≡ rs → all_eqns (some_of gs) ≡ all_eqns gs → all_eqns (with_rights rs g (some_of gs)) ≡ eqns_of g ++ all_eqns gs
    go [] e h = h ∙ ap (λ (x : List ℕ). map (λ (r : ℕ). eqn 0 g.left r) x ++ all_eqns gs) (sym e)
    go (r ∷ rs) e h = ap (λ (es : List Atom). eqns_of g ++ es) h

some_some : (gs : List Group) → All Some (some_of gs)
some_some [] = tt
some_some (g ∷ gs) = go g.rights refl (some_some gs)
  where
    go : (rs : List ℕ) → g.rights ≡ rs → All Some (some_of gs) → All Some (with_rights rs g (some_of gs))
    go [] e h = h
    go (r ∷ rs) e h = (omega (arith, ap length e), h)

some_all : (P : Group → Type 0) (gs : List Group) → All P gs → All P (some_of gs)
some_all P [] h = tt
some_all P (g ∷ gs) h = go g.rights (some_all P gs h.1)
  where
    go : (rs : List ℕ) → All P (some_of gs) → All P (with_rights rs g (some_of gs))
    go [] k = k
    go (r ∷ rs) k = (h.0, k)

-- ---- their counts

groups_few : (k : ℕ) (fs ts : List Tab) → length ts < k → All (λ (g : Group). length g.rights < k) (groups_of fs ts)
groups_few k fs [] h = tt
groups_few k fs (a ∷ xs) h =
    let few : length (rights_of a xs) < k = omega (arith, rights_few a xs) in
    cond_both (All (λ (g : Group). length g.rights < k)) (seen a fs) (groups_of fs xs) (group_of a xs ∷ groups_of (a ∷ fs) xs)
    (groups_few k fs xs (omega arith)) (few, groups_few k (a ∷ fs) xs (omega arith))

-- ---- what a pass leaves at `eqs`

pub record PassGroups (l m : List ℕ) (from n eqs : ℕ) (r : Merged) : Type 0 where
  pub groups : List Group
  pub stand : GroupsAt groups m eqs r.eqs
  pub are : all_eqns groups ≡ merged [] (tabs_in l from n)

pub pass_groups : (l m : List ℕ) (from n eqs table : ℕ) (r : Merged) → TabsAt (tabs_in l from n) l from n → n < 0x1000_0000
    → Passed l m from n eqs table r → PassGroups l m from n eqs r
pass_groups l m from n eqs table r s small p =
    let ts : List Tab = tabs_in l from n in
    let gs : List Group = groups_of [] (tabs_in l from n) in
    record {
      groups = some_of (groups_of [] (tabs_in l from n));
      stand = record {
        some = some_some gs;
        few = some_all (λ (g : Group). length g.rights < unit) gs
            (groups_few unit [] ts (omega (arith, small, s.size, length_words tab_words 2 two_tab (tabs_in l from n))));
        size = p.size ∙ ap length (sym (some_words gs));
        at = subst (λ (ws : List ℕ). At ws m eqs) (sym (some_words gs)) p.groups;
      };
      are = some_eqns gs ∙ groups_eqns [] ts;
    }
