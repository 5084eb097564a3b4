-- All replacements of a list, the last one first, made in terms, words, atoms and groups: what stands still stands, with the replacements made in its
-- words. Assumes nothing.
use mathlib.Core.Bool.{Bool, cond, true}
use mathlib.Core.List.{List, [], ◌++◌, ◌∷◌, map}
use mathlib.Core.Path.{◌∙◌, ◌≡◌, ap, ap₂, refl, subst, sym}
use Prim.Native.Nat.{◌<◌, ◌≤◌, suc, ℕ}
use native.Mathlib.Omega.{arith}
use lib.ListN.{length, length-map}
use borrow.Author.Tests.{ne_eqb}
use Rattle.octets.specs.Regions.{At, part}
use Rattle.rules.specs.Canonicalize.{Replacement, replace_atom, replace_tab, replace_term}
use Rattle.rules.specs.Flat.{Atom, Tab, atom_words, eqn, tab, tab_words, words_of}
use Rattle.rules.specs.Signature.{Sig, is_var}
use Rattle.rules.specs.Words.{unit}
use Rattle.meaning.proofs.Encodable.{replaced_encodable}
use Rattle.meaning.proofs.Lists.{map_append}
use Rattle.meaning.proofs.WordLaws.{replace_words, tabs_words, var_high}
use Rattle.meaning.specs.Meaning.{All}
use Rattle.meaning.specs.ReadBack.{Encodable}
use Rattle.bodies.specs.Standing.{Bare, TabsAt}
use Rattle.bodies.proofs.Standing.{atoms_tabs, bare_replaced, tabs_atoms}
use Rattle.merging.specs.RemoveDupVars.{Group, Some, all_eqns, eqns_of, group_for, group_words}
use Rattle.settling.specs.Joining.{Vars, equal_to, replaced_atoms, replaced_words}

-- ---- terms, words and atoms

abbrev pub replaced_term : List Replacement → ℕ → ℕ
replaced_term [] w = w
replaced_term (r ∷ rs) w = replace_term r (replaced_term rs w)

pub replaced_first : (rs : List Replacement) (w : ℕ) (ws : List ℕ) → replaced_words rs (w ∷ ws) ≡ replaced_term rs w ∷ replaced_words rs ws
replaced_first [] w ws = refl
replaced_first (r ∷ rs) w ws = ap (map (replace_term r)) (replaced_first rs w ws)

pub replaced_long : (rs : List Replacement) (ws : List ℕ) → length (replaced_words rs ws) ≡ length ws
replaced_long [] ws = refl
replaced_long (r ∷ rs) ws = length-map (replaced_words rs ws) (replace_term r) ∙ replaced_long rs ws

pub replaced_eqn : (rs : List Replacement) (a b : ℕ) (xs : List Atom)
    → replaced_atoms rs (eqn 0 a b ∷ xs) ≡ eqn 0 (replaced_term rs a) (replaced_term rs b) ∷ replaced_atoms rs xs
replaced_eqn [] a b xs = refl
replaced_eqn (r ∷ rs) a b xs = ap (map (replace_atom r)) (replaced_eqn rs a b xs)

pub replaced_append : (rs : List Replacement) (xs ys : List Atom) → replaced_atoms rs (xs ++ ys) ≡ replaced_atoms rs xs ++ replaced_atoms rs ys
replaced_append [] xs ys = refl
replaced_append (r ∷ rs) xs ys = ap (map (replace_atom r)) (replaced_append rs xs ys) ∙ map_append (replace_atom r) (replaced_atoms rs xs) (replaced_atoms rs ys)

pub replaced_many : (rs : List Replacement) (xs : List Atom) → length (replaced_atoms rs xs) ≡ length xs
replaced_many [] xs = refl
replaced_many (r ∷ rs) xs = length-map (replaced_atoms rs xs) (replace_atom r) ∙ replaced_many rs xs

-- ---- groups

abbrev replace_group : Replacement → Group → Group
replace_group r g = record { left = replace_term r g.left; rights = map (replace_term r) g.rights }

abbrev pub replaced_groups : List Replacement → List Group → List Group
replaced_groups [] gs = gs
replaced_groups (r ∷ rs) gs = map (replace_group r) (replaced_groups rs gs)

-- a count fits below the terms
abbrev pub Few : Group → Type 0
Few g = length g.rights < unit

group_eqns : (r : Replacement) (left : ℕ) (ws : List ℕ) → equal_to (replace_term r left) (map (replace_term r) ws) ≡ map (replace_atom r) (equal_to left ws)
group_eqns r left [] = refl
group_eqns r left (w ∷ ws) = ap (λ (xs : List Atom). eqn 0 (replace_term r left) (replace_term r w) ∷ xs) (group_eqns r left ws)

groups_eqns : (r : Replacement) (gs : List Group) → all_eqns (map (replace_group r) gs) ≡ map (replace_atom r) (all_eqns gs)
groups_eqns r [] = refl
groups_eqns r (g ∷ gs) = ap₂ ◌++◌ (group_eqns r g.left g.rights) (groups_eqns r gs) ∙ sym (map_append (replace_atom r) (eqns_of g) (all_eqns gs))

-- what holds of the counts holds of them still
counts_hold : (P : ℕ → Type 0) (r : Replacement) (gs : List Group) → All (λ (g : Group). P (length g.rights)) gs
    → All (λ (g : Group). P (length g.rights)) (map (replace_group r) gs)
counts_hold P r [] h = tt
counts_hold P r (g ∷ gs) h = (subst P (sym (length-map g.rights (replace_term r))) h.0, counts_hold P r gs h.1)

module _ (s : Sig) (r : Replacement) (v : is_var s r.old ≡ true) where
  count_stays : (w : ℕ) → w < unit → replace_term r w ≡ w
  count_stays w h = ap (λ (c : Bool). cond c r.new w) (ne_eqb w r.old (λ e. high e))
    where
      high : w ≡ r.old → ⊥
      high e = omega (arith, var_high s r.old v)

  group_words_lem : (left : ℕ) (ws : List ℕ) → length ws < unit → map (replace_term r) (group_for left ws) ≡ group_for (replace_term r left) (map (replace_term r) ws)
  group_words_lem left [] h = refl
  group_words_lem left (w ∷ ws) h =
      ap (λ (k : ℕ). replace_term r left ∷ k ∷ replace_term r w ∷ map (replace_term r) ws)
      (count_stays (length (w ∷ ws)) h ∙ ap suc (sym (length-map ws (replace_term r))))

  groups_words : (gs : List Group) → All Few gs → map (replace_term r) (words_of group_words gs) ≡ words_of group_words (map (replace_group r) gs)
  groups_words [] h = refl
  groups_words (g ∷ gs) h =
      map_append (replace_term r) (group_words g) (words_of group_words gs) ∙ ap₂ ◌++◌ (group_words_lem g.left g.rights h.0) (groups_words gs h.1)

pub record GroupsHeld (rs : List Replacement) (gs : List Group) : Type 0 where
  pub some : All Some (replaced_groups rs gs)
  pub few : All Few (replaced_groups rs gs)
  pub words : replaced_words rs (words_of group_words gs) ≡ words_of group_words (replaced_groups rs gs)
  pub eqns : all_eqns (replaced_groups rs gs) ≡ replaced_atoms rs (all_eqns gs)

pub groups_held : (s : Sig) (rs : List Replacement) (gs : List Group) → Vars s rs → All Some gs → All Few gs → GroupsHeld rs gs
groups_held s [] gs v h k = record { some = h; few = k; words = refl; eqns = refl }
groups_held s (r ∷ rs) gs v h k =
    let z = groups_held s rs gs v.1 h k in
    record {
      some = counts_hold (λ (n : ℕ). 1 ≤ n) r (replaced_groups rs gs) z.some;
      few = counts_hold (λ (n : ℕ). n < unit) r (replaced_groups rs gs) z.few;
      words = ap (map (replace_term r)) z.words ∙ groups_words s r v.0 (replaced_groups rs gs) z.few;
      eqns = groups_eqns r (replaced_groups rs gs) ∙ ap (map (replace_atom r)) z.eqns;
    }

-- ---- atoms of heads

abbrev pub replaced_tabs : List Replacement → List Tab → List Tab
replaced_tabs [] ts = ts
replaced_tabs (r ∷ rs) ts = map (replace_tab r) (replaced_tabs rs ts)

tabs_map : (r : Replacement) (ts : List Tab) → map (replace_atom r) (map tab ts) ≡ map tab (map (replace_tab r) ts)
tabs_map r [] = refl
tabs_map r (t ∷ ts) = ap (λ (xs : List Atom). tab (replace_tab r t) ∷ xs) (tabs_map r ts)

pub replaced_atoms_lem : (rs : List Replacement) (ts : List Tab) → replaced_atoms rs (map tab ts) ≡ map tab (replaced_tabs rs ts)
replaced_atoms_lem [] ts = refl
replaced_atoms_lem (r ∷ rs) ts = ap (map (replace_atom r)) (replaced_atoms_lem rs ts) ∙ tabs_map r (replaced_tabs rs ts)

record TabsHeld (rs : List Replacement) (ts : List Tab) : Type 0 where
  fits : All Encodable (map tab (replaced_tabs rs ts))
  bare : All Bare (map tab (replaced_tabs rs ts))
  words : replaced_words rs (words_of tab_words ts) ≡ words_of tab_words (replaced_tabs rs ts)

tabs_held : (s : Sig) (rs : List Replacement) (ts : List Tab) → Vars s rs → All Encodable (map tab ts) → All Bare (map tab ts) → TabsHeld rs ts
tabs_held s [] ts v h k = record { fits = h; bare = k; words = refl }
tabs_held s (r ∷ rs) ts v h k =
    let z = tabs_held s rs ts v.1 h k in
    let us : List Tab = replaced_tabs rs ts in
    let e = tabs_map r us in
    record {
      fits = subst (λ (xs : List Atom). All Encodable xs) e (replaced_encodable r (map tab us) z.fits);
      bare = subst (λ (xs : List Atom). All Bare xs) e (bare_replaced r (map tab us) z.bare);
      words = ap (map (replace_term r)) (z.words ∙ sym (tabs_words us)) ∙ replace_words s r v.0 (map tab us) z.fits
          ∙ ap (words_of atom_words) e ∙ tabs_words (map (replace_tab r) us);
    }

-- ---- atoms that stand

-- elsewhere, or in other words
pub tabs_moved : {ts : List Tab} {l m : List ℕ} {p q n : ℕ} → TabsAt ts l p n → At (words_of tab_words ts) m q → TabsAt ts m q n
tabs_moved z a = record { fits = z.fits; bare = z.bare; size = z.size; at = a; within = omega (arith, z.size, a.within) }

-- with all replacements made in their words
pub replaced_tabs_lem : (s : Sig) (rs : List Replacement) {ts : List Tab} {l m : List ℕ} {p n : ℕ} → Vars s rs → TabsAt ts l p n
    → At (replaced_words rs (part l p n)) m p → TabsAt (replaced_tabs rs ts) m p n
replaced_tabs_lem s rs {ts} {l} {m} {p} {n} v z a =
    let y = tabs_atoms ts l p n z in
    let h = tabs_held s rs ts v y.fits y.bare in
    let us : List Tab = replaced_tabs rs ts in
    let is : part l p n ≡ words_of tab_words ts = ap (part l p) z.size ∙ z.at.words in
    let ws : replaced_words rs (part l p n) ≡ words_of atom_words (map tab us) = ap (replaced_words rs) is ∙ h.words ∙ sym (tabs_words us) in
    let b : At (words_of atom_words (map tab us)) m p = subst (λ (ws : List ℕ). At ws m p) ws a in
    let long : n ≡ length (words_of atom_words (map tab us)) = z.size ∙ ap length (sym is) ∙ sym (replaced_long rs (part l p n)) ∙ ap length ws in
    atoms_tabs us m p n (record { fits = h.fits; bare = h.bare; size = long; at = b; within = omega (arith, b.within) })
