-- The words of groups where they stand: they tell the groups, and the next group is read from the front. Assumes nothing.
use mathlib.Core.List.{List, [], ◌++◌, ◌∷◌}
use mathlib.Core.Path.{◌∙◌, ◌≡◌, ap, ap₂, refl, subst, sym}
use Prim.Native.Nat.{◌+◌, ◌<◌, ◌≤◌, suc, ℕ}
use native.Mathlib.Omega.{arith}
use lib.ListN.{drop, get_or, length, length-append, length-map, take}
use lib.Seq.{drop_at, take_at}
use Rattle.octets.proofs.Places.{at_first, at_left, at_right, at_word}
use Rattle.octets.specs.Regions.{At, part}
use Rattle.rules.specs.Flat.{eqn, words_of}
use Rattle.meaning.specs.Meaning.{All}
use Rattle.merging.specs.RemoveDupVars.{Group, GroupsAt, Some, all_eqns, eqns_of, group_for, group_words}
use Rattle.settling.proofs.Replaced.{Few}

-- ---- a group that has an equality is written whole

abbrev whole : Group → List ℕ
whole g = g.left ∷ length g.rights ∷ g.rights

group_whole : (g : Group) (ws : List ℕ) → Some g → group_words g ++ ws ≡ whole g ++ ws
group_whole g ws h = ap (λ (us : List ℕ). us ++ ws) (go g.rights h)
  where
    go : (us : List ℕ) → 1 ≤ length us → group_for g.left us ≡ g.left ∷ length us ∷ us
    go [] k = absurd (omega arith)
    go (u ∷ us) k = refl

-- so where no words stand, there is none
pub no_group_left : (gs : List Group) → All Some gs → length (words_of group_words gs) ≡ 0 → gs ≡ []
no_group_left [] h e = refl
no_group_left (g ∷ gs) h e = absurd (omega (arith, ap length (group_whole g (words_of group_words gs) h.0)))

-- ---- groups are told by their words

groups_same : (gs hs : List Group) → All Some gs → All Some hs → words_of group_words gs ≡ words_of group_words hs → gs ≡ hs
groups_same [] hs a b e = sym (no_group_left hs b (sym (ap length e)))
groups_same (g ∷ gs) [] a b e = no_group_left (g ∷ gs) a (ap length e)
groups_same (g ∷ gs) (h ∷ hs) a b e =
    let us : List ℕ = words_of group_words gs in
    let vs : List ℕ = words_of group_words hs in
    let f : whole g ++ us ≡ whole h ++ vs = sym (group_whole g us a.0) ∙ e ∙ group_whole h vs b.0 in
    let left : g.left ≡ h.left = ap (λ (xs : List ℕ). get_or xs 0 0) f in
    let long : length g.rights ≡ length h.rights = ap (λ (xs : List ℕ). get_or xs 1 0) f in
    let rest : g.rights ++ us ≡ h.rights ++ vs = ap (drop 2) f in
    let rights : g.rights ≡ h.rights =
    sym (take_at g.rights us (length g.rights) refl) ∙ ap₂ take long rest ∙ take_at h.rights vs (length h.rights) refl in
    let others : us ≡ vs =
    sym (drop_at g.rights us (length g.rights) refl) ∙ ap₂ drop long rest ∙ drop_at h.rights vs (length h.rights) refl in
    let tails = groups_same gs hs a.1 b.1 others in
    λ j. record { left = left j; rights = rights j } ∷ tails j

pub groups_told : {gs hs : List Group} {l : List ℕ} {p n : ℕ} → GroupsAt gs l p n → GroupsAt hs l p n → gs ≡ hs
groups_told {gs} {hs} {l} {p} a b = groups_same gs hs a.some b.some (sym a.at.words ∙ ap (part l p) (sym a.size ∙ b.size) ∙ b.at.words)

-- ---- the group that is next

pub record NextGroup (gs : List Group) (m : List ℕ) (p n : ℕ) : Type 0 where
  pub group : Group
  pub others : List Group
  pub is : gs ≡ group ∷ others
  pub left : get_or m p 0 ≡ group.left
  pub count : get_or m (p + 1) 0 ≡ length group.rights
  pub rights : part m (p + 2) (length group.rights) ≡ group.rights
  pub size : n ≡ 2 + length group.rights + length (words_of group_words others)
  pub inside : p + n ≤ length m
  pub behind : At (words_of group_words others) m (p + 2 + length group.rights)
  pub some : All Some others
  pub few : All Few others
  pub many : length (all_eqns gs) ≡ length group.rights + length (all_eqns others)

pub next_group : (gs : List Group) {m : List ℕ} {p n : ℕ} → All Some gs → All Few gs → At (words_of group_words gs) m p
    → n ≡ length (words_of group_words gs) → 0 < n → NextGroup gs m p n
next_group [] s f a e h = absurd (omega arith)
next_group (g ∷ gs) {m} {p} {n} s f a e h =
    let us : List ℕ = g.rights in
    let vs : List ℕ = words_of group_words gs in
    let b : At (whole g ++ vs) m p = subst (λ (xs : List ℕ). At xs m p) (group_whole g vs s.0) a in
    let rights : At us m (p + 2) = at_left vs (at_right (g.left ∷ length us ∷ []) (p + 2) b refl) in
    record {
      group = g;
      others = gs;
      is = refl;
      left = at_first b;
      count = at_word 1 b (omega arith);
      rights = rights.words;
      size = e ∙ ap length (group_whole g vs s.0) ∙ length-append (whole g) vs ∙ omega arith;
      inside = omega (arith, a.within);
      behind = at_right (whole g) (p + 2 + length us) b (sum p (length us));
      some = s.1;
      few = f.1;
      many = length-append (eqns_of g) (all_eqns gs) ∙ ap (λ (x : ℕ). x + length (all_eqns gs)) (length-map us (λ (u : ℕ). eqn 0 g.left u));
    }
  where
    sum : (p n : ℕ) → p + 2 + n ≡ p + suc (suc n)
    sum p n = omega arith
