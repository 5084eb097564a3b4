-- Settling never makes a body and its replacements heavier: so its words and bindings have room where the weight of the flat body has.
-- Assumes nothing.
use lib.Dec.{eqb}
use Rattle.rules.specs.Signature.{same_terms}
use Prim.Native.Nat.{ℕ, zero, suc, ◌+◌, ◌-◌, ◌*◌, ◌≤◌}
use native.Mathlib.Nat.{le_refl}
use native.Mathlib.Omega.{arith}
use mathlib.Core.Path.{◌≡◌, refl, sym, ap, ap₂, ◌∙◌}
use mathlib.Core.Bool.{Bool, true, false, cond, not, ◌&&◌, ◌||◌, false≢true}
use mathlib.Core.List.{List, [], ◌∷◌, ◌++◌, map}
use mathlib.Core.Option.{Option, none, some}
use lib.ListN.{length, length-map, length-append}
use Rattle.rules.specs.Signature.{Sig, same_term}
use Rattle.rules.specs.Flat.{Tab, Atom, eqn, tab, tab_words, atom_words, words_of}
use Rattle.rules.specs.Canonicalize.{Replacement, replace_term, replace_atom, first_replacement, Body, replace_step, replace_up_to, replace_all, resolve_eq, resolve, canonicalize}
use Rattle.rules.specs.RemoveDupVars.{alike, seen, keep, clashes, merged, Settled, after_pass, remove_dup_vars, settle}
use Rattle.meaning.specs.Meaning.{All}
use Rattle.meaning.specs.Weight.{unlike, live, tab_weight, tabs_weight, heads_weight, weight}
use Rattle.meaning.proofs.Lists.{or_neither}
use Rattle.meaning.proofs.WordLaws.{length_tab}
use Rattle.meaning.proofs.CanonicalizeEnds.{unlike_small, live_falls}
use Rattle.meaning.proofs.MergePass.{alike_joined, IsEqn, merged_eqns, clashes_unlike}

-- ---- words and weight

pub tabs_words_weight : (ts : List Tab) → length (words_of tab_words ts) ≤ tabs_weight ts
tabs_words_weight [] = omega arith
tabs_words_weight (t ∷ ts) = omega (arith, tabs_words_weight ts, length_tab t, length-append (tab_words t) (words_of tab_words ts))

-- a body weighs at most twice its words
pub weight_words : (xs : List Atom) → weight xs ≤ 2 * length (words_of atom_words xs)
weight_words [] = omega arith
weight_words (eqn p a b ∷ xs) = omega (arith, weight_words xs, unlike_small (same_term a b))
weight_words (tab t ∷ xs) = omega (arith, weight_words xs, length_tab t, length-append (tab_words t) (words_of atom_words xs))

pub weight_append : (xs ys : List Atom) → weight (xs ++ ys) ≡ weight xs + weight ys
weight_append [] ys = omega arith
weight_append (eqn p a b ∷ xs) ys = omega (arith, weight_append xs ys)
weight_append (tab t ∷ xs) ys = omega (arith, weight_append xs ys)

weight_tabs : (ts : List Tab) → weight (map tab ts) ≡ tabs_weight ts
weight_tabs [] = refl
weight_tabs (t ∷ ts) = omega (arith, weight_tabs ts)

weight_eqns : (es : List Atom) → All IsEqn es → weight es ≤ 4 * length es
weight_eqns [] h = le_refl _
weight_eqns (eqn p a b ∷ es) h = omega (arith, weight_eqns es h.1, unlike_small (same_term a b))
weight_eqns (tab t ∷ es) h = absurd h.0

-- equalities have fewer words than they weigh
pub eqns_words : (es : List Atom) → All IsEqn es → length (words_of atom_words es) ≡ 3 * length es
eqns_words [] h = refl
eqns_words (eqn p a b ∷ es) h = omega (arith, eqns_words es h.1)
eqns_words (tab t ∷ es) h = absurd h.0

-- ---- canonicalize

heads_replaced : (r : Replacement) (xs : List Atom) → heads_weight (map (replace_atom r) xs) ≡ heads_weight xs
heads_replaced r [] = refl
heads_replaced r (eqn p a b ∷ xs) = heads_replaced r xs
heads_replaced r (tab t ∷ xs) = ap₂ (λ (n m : ℕ). 4 + (n - 2) + m) (length-map t.ins (replace_term r)) (heads_replaced r xs)

-- a replacement is paid for by its equality
pub weight_replaced : (s : Sig) (xs : List Atom) (r : Replacement) → first_replacement s xs ≡ some r → weight (map (replace_atom r) xs) + 4 ≤ weight xs
weight_replaced s xs r e = omega (arith, live_falls s xs r e, heads_replaced r xs)

pub weight_up_to : (s : Sig) (n : ℕ) (xs : List Atom) (rs : List Replacement)
    → let b = replace_up_to s n xs rs in 4 * length b.repls + weight b.atoms ≤ 4 * length rs + weight xs
weight_up_to s zero xs rs = le_refl _
weight_up_to s (suc n) xs rs = go (first_replacement s xs) refl (λ ys qs. weight_up_to s n ys qs)
  where
    Less : Body → Type 0
    Less b = 4 * length b.repls + weight b.atoms ≤ 4 * length rs + weight xs

    go : (o : Option Replacement) → first_replacement s xs ≡ o
        → ((ys : List Atom) (qs : List Replacement)
        → let b = replace_up_to s n ys qs in 4 * length b.repls + weight b.atoms ≤ 4 * length qs + weight ys)
        → Less (replace_step o xs rs (λ ys qs. replace_up_to s n ys qs))
    go none e ih = le_refl _
    go (some r) e ih = omega (arith, ih (map (replace_atom r) xs) (r ∷ rs), weight_replaced s xs r e)

weight_resolve : (s : Sig) (xs : List Atom) → tabs_weight (resolve s xs) ≤ weight xs
weight_resolve s [] = le_refl _
weight_resolve s (tab t ∷ xs) = omega (arith, weight_resolve s xs)
weight_resolve s (eqn p a b ∷ xs) = go (same_term a b) (weight_resolve s xs)
  where
    go : (c : Bool) → tabs_weight (resolve s xs) ≤ weight xs → tabs_weight (resolve_eq s c p a b (resolve s xs)) ≤ 4 * (unlike c + live xs) + heads_weight xs
    go true h = omega arith
    go false h = omega arith

pub weight_canonicalize : (s : Sig) (xs : List Atom) (rs : List Replacement)
    → let c = canonicalize s xs rs in 4 * length c.repls + tabs_weight c.tabs ≤ 4 * length rs + weight xs
weight_canonicalize s xs rs = omega (arith, weight_up_to s (length xs) xs rs, weight_resolve s (replace_all s xs rs).atoms)

-- ---- a merge pass: an equality is paid for by the atom that goes

-- the equalities that the first atoms of the groups have with what comes
abbrev due : List Tab → List Tab → ℕ
due [] xs = 0
due (f ∷ fs) xs = length (clashes f xs) + due fs xs

due_nil : (fs : List Tab) → due fs [] ≡ 0
due_nil [] = refl
due_nil (f ∷ fs) = omega (arith, due_nil fs)

-- first atoms of groups: none is alike another
abbrev Groups : List Tab → Type 0
Groups [] = Unit {0}
Groups (f ∷ fs) = (seen f fs ≡ false) × Groups fs

-- what is alike a first atom of a group that is unlike all others is unlike all others too
alike_unseen : (f b : Tab) (fs : List Tab) → alike f b ≡ true → seen f fs ≡ false → seen b fs ≡ false
alike_unseen f b [] e k = refl
alike_unseen f b (g ∷ gs) e k = let n = or_neither (alike g f) (seen f gs) k in ap₂ ◌||◌ (other (alike g b) refl n.0) (alike_unseen f b gs e n.1)
  where
    other : (c : Bool) → alike g b ≡ c → alike g f ≡ false → c ≡ false
    other true q n = absurd (false≢true (sym n ∙ alike_joined g f b q e))
    other false q n = refl

-- an atom of no group clashes with none
due_new : (b : Tab) (xs fs : List Tab) → seen b fs ≡ false → due fs (b ∷ xs) ≡ due fs xs
due_new b xs [] e = refl
due_new b xs (f ∷ fs) e =
    let k = or_neither (alike f b) (seen b fs) e in
    ap₂ ◌+◌ (ap length (clashes_unlike f b xs k.0)) (due_new b xs fs k.1)

-- and any other with one at most
due_old : (b : Tab) (xs fs : List Tab) → Groups fs → due fs (b ∷ xs) ≤ suc (due fs xs)
due_old b xs [] g = omega arith
due_old b xs (f ∷ fs) g = go (alike f b) refl (due_old b xs fs g.1)
  where
    one : (c : Bool) → length (cond c (eqn 0 f.out b.out ∷ clashes f xs) (clashes f xs)) ≤ suc (length (clashes f xs))
    one true = le_refl _
    one false = omega arith

    go : (c : Bool) → alike f b ≡ c → due fs (b ∷ xs) ≤ suc (due fs xs)
        → length (cond (c && not (same_term f.out b.out)) (eqn 0 f.out b.out ∷ clashes f xs) (clashes f xs)) + due fs (b ∷ xs)
        ≤ suc (length (clashes f xs) + due fs xs)
    go true e ih = omega (arith, one (not (same_term f.out b.out)), due_new b xs fs (alike_unseen f b fs e g.0))
    go false e ih = omega arith

weight_groups : (fs ts : List Tab) → Groups fs → 4 * (due fs ts + length (merged fs ts)) + tabs_weight (keep fs ts) ≤ tabs_weight ts
weight_groups fs [] g = omega (arith, due_nil fs)
weight_groups fs (b ∷ xs) g = go (seen b fs) refl (weight_groups fs xs g) (λ k. weight_groups (b ∷ fs) xs (k, g))
  where
    go : (c : Bool) → seen b fs ≡ c
        → 4 * (due fs xs + length (merged fs xs)) + tabs_weight (keep fs xs) ≤ tabs_weight xs
        → (seen b fs ≡ false → 4 * (due (b ∷ fs) xs + length (merged (b ∷ fs) xs)) + tabs_weight (keep (b ∷ fs) xs) ≤ tabs_weight xs)
        → 4 * (due fs (b ∷ xs) + length (cond c (merged fs xs) (clashes b xs ++ merged (b ∷ fs) xs))) + tabs_weight (cond c (keep fs xs) (b ∷ keep (b ∷ fs) xs))
        ≤ tab_weight b + tabs_weight xs
    go true e old new = omega (arith, due_old b xs fs g)
    go false e old new = omega (arith, new e, due_new b xs fs e, length-append (clashes b xs) (merged (b ∷ fs) xs))

pub weight_merged : (ts : List Tab) → 4 * length (merged [] ts) + tabs_weight (keep [] ts) ≤ tabs_weight ts
weight_merged ts = omega (arith, weight_groups [] ts tt)

-- a whole pass: the equalities go in front, and canonicalize runs
pub weight_pass : (s : Sig) (ts : List Tab) (rs : List Replacement)
    → let c = canonicalize s (merged [] ts ++ map tab (keep [] ts)) rs in 4 * length c.repls + tabs_weight c.tabs ≤ 4 * length rs + tabs_weight ts
weight_pass s ts rs =
    omega (
      arith,
      weight_canonicalize s (merged [] ts ++ map tab (keep [] ts)) rs,
      weight_append (merged [] ts) (map tab (keep [] ts)),
      weight_eqns (merged [] ts) (merged_eqns [] ts),
      weight_tabs (keep [] ts),
      weight_merged ts,
    )

-- ---- settling

weight_passes : (s : Sig) (n : ℕ) (ts : List Tab) (rs : List Replacement) (k : ℕ)
    → let b = remove_dup_vars s n ts rs k in 4 * length b.repls + tabs_weight b.tabs ≤ 4 * length rs + tabs_weight ts
weight_passes s zero ts rs k = le_refl _
weight_passes s (suc n) ts rs k = go (merged [] ts) refl (λ us qs j. weight_passes s n us qs j)
  where
    Less : Settled → Type 0
    Less b = 4 * length b.repls + tabs_weight b.tabs ≤ 4 * length rs + tabs_weight ts

    go : (es : List Atom) → merged [] ts ≡ es
        → ((us : List Tab) (qs : List Replacement) (j : ℕ)
        → let b = remove_dup_vars s n us qs j in 4 * length b.repls + tabs_weight b.tabs ≤ 4 * length qs + tabs_weight us)
        → Less (after_pass s es (keep [] ts) rs k (λ us qs j. remove_dup_vars s n us qs j))
    go [] e ih = omega (arith, weight_merged ts)
    go (x ∷ es) e ih =
        let c = canonicalize s (x ∷ es ++ map tab (keep [] ts)) rs in
        let w = weight_pass s ts rs in
        let v = rw e at w in
        omega (arith, ih c.tabs c.repls (suc k))

-- replacements and settled atoms weigh no more than the flat body
pub weight_settle : (s : Sig) (xs : List Atom)
    → let b = settle s xs in 4 * length b.repls + tabs_weight b.tabs ≤ weight xs
weight_settle s xs =
    let c = canonicalize s xs [] in
    omega (arith, weight_passes s (suc (length xs)) c.tabs c.repls 0, weight_canonicalize s xs [])

-- the words of the settled atoms, and three for each binding
pub settle_size : (s : Sig) (xs : List Atom)
    → length (words_of tab_words (settle s xs).tabs) + 3 * length (settle s xs).repls ≤ weight xs
settle_size s xs = omega (arith, weight_settle s xs, tabs_words_weight (settle s xs).tabs)

alike_seen : (f b : Tab) (fs : List Tab) → (f.head ≡ b.head) × (f.ins ≡ b.ins) → seen f fs ≡ seen b fs
alike_seen f b [] e = refl
alike_seen f b (g ∷ gs) e =
    ap₂ ◌||◌ (ap₂ (λ (h : ℕ) (is : List ℕ). eqb g.head h && same_terms g.ins is) e.0 e.1) (alike_seen f b gs e)
