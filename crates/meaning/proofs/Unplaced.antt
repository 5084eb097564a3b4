-- Places change nothing in settling: what the words of a body tell settles to what the words of the settled body tell.
-- Assumes nothing.
use Rattle.rules.specs.Flat.{tab_words, atom_words, words_of}
use Rattle.rules.specs.RemoveDupVars.{Settled}
use Rattle.meaning.specs.Meaning.{All}
use Rattle.meaning.specs.ReadBack.{Encodable, atoms_of}
use Rattle.meaning.proofs.ReadBack.{unplaced_tabs_words, atoms_back, words_tell}
use Prim.Native.Nat.{ℕ, zero, suc}
use mathlib.Core.Path.{◌≡◌, refl, sym, ap, ap₂, ◌∙◌}
use mathlib.Core.Bool.{Bool, true, false, cond, not, ◌&&◌, ◌||◌}
use mathlib.Core.List.{List, [], ◌∷◌, ◌++◌, map}
use mathlib.Core.Option.{Option, none, some}
use lib.ListN.{length, length-map}
use Rattle.rules.specs.Signature.{Sig, is_var, same_term}
use Rattle.rules.specs.Flat.{Tab, Atom, eqn, tab}
use Rattle.rules.specs.Canonicalize.{Replacement, replace_atom, replacement_of, or_else, first_replacement, Body}
use Rattle.rules.specs.Canonicalize.{replace_step, replace_up_to, replace_all, resolve_eq, resolve, Canonical, canonicalize}
use Rattle.rules.specs.RemoveDupVars.{alike, seen, keep, clashes, merged, after_pass, remove_dup_vars, settle}
use Rattle.meaning.specs.ReadBack.{unplaced_tab, unplaced, unplaced_settled}
use Rattle.meaning.proofs.Lists.{map_append}

-- ---- canonicalize

replace_unplaced : (r : Replacement) (xs : List Atom) → map (replace_atom r) (map unplaced xs) ≡ map unplaced (map (replace_atom r) xs)
replace_unplaced r [] = refl
replace_unplaced r (eqn p a b ∷ xs) = ap (λ (l : List Atom). unplaced (replace_atom r (eqn p a b)) ∷ l) (replace_unplaced r xs)
replace_unplaced r (tab t ∷ xs) = ap (λ (l : List Atom). unplaced (replace_atom r (tab t)) ∷ l) (replace_unplaced r xs)

first_unplaced : (s : Sig) (xs : List Atom) → first_replacement s (map unplaced xs) ≡ first_replacement s xs
first_unplaced s [] = refl
first_unplaced s (eqn p a b ∷ xs) = ap (or_else (replacement_of (same_term a b) (is_var s a) (is_var s b) a b)) (first_unplaced s xs)
first_unplaced s (tab t ∷ xs) = first_unplaced s xs

abbrev unplaced_body : Body → Body
unplaced_body b = record { atoms = map unplaced b.atoms; repls = b.repls }

up_to_unplaced : (s : Sig) (n : ℕ) (xs : List Atom) (rs : List Replacement) → replace_up_to s n (map unplaced xs) rs ≡ unplaced_body (replace_up_to s n xs rs)
up_to_unplaced s zero xs rs = refl
up_to_unplaced s (suc n) xs rs =
    ap (λ (o : Option Replacement). replace_step o (map unplaced xs) rs (λ ys qs. replace_up_to s n ys qs)) (first_unplaced s xs)
    ∙ go (first_replacement s xs) (λ ys qs. up_to_unplaced s n ys qs)
  where
    go : (o : Option Replacement)
        → ((ys : List Atom) (qs : List Replacement) → replace_up_to s n (map unplaced ys) qs ≡ unplaced_body (replace_up_to s n ys qs))
        → replace_step o (map unplaced xs) rs (λ ys qs. replace_up_to s n ys qs) ≡ unplaced_body (replace_step o xs rs (λ ys qs. replace_up_to s n ys qs))
    go none ih = refl
    go (some r) ih = ap (λ (l : List Atom). replace_up_to s n l (r ∷ rs)) (replace_unplaced r xs) ∙ ih (map (replace_atom r) xs) (r ∷ rs)

replace_all_unplaced : (s : Sig) (xs : List Atom) (rs : List Replacement) → replace_all s (map unplaced xs) rs ≡ unplaced_body (replace_all s xs rs)
replace_all_unplaced s xs rs =
    ap (λ (n : ℕ). replace_up_to s n (map unplaced xs) rs) (length-map xs unplaced) ∙ up_to_unplaced s (length xs) xs rs

resolve_unplaced : (s : Sig) (xs : List Atom) → resolve s (map unplaced xs) ≡ map unplaced_tab (resolve s xs)
resolve_unplaced s [] = refl
resolve_unplaced s (eqn p a b ∷ xs) = ap (resolve_eq s (same_term a b) 0 a b) (resolve_unplaced s xs) ∙ go (same_term a b)
  where
    go : (c : Bool) → resolve_eq s c 0 a b (map unplaced_tab (resolve s xs)) ≡ map unplaced_tab (resolve_eq s c p a b (resolve s xs))
    go true = refl
    go false = refl
resolve_unplaced s (tab t ∷ xs) = ap (λ (l : List Tab). unplaced_tab t ∷ l) (resolve_unplaced s xs)

abbrev unplaced_canonical : Canonical → Canonical
unplaced_canonical c = record { tabs = map unplaced_tab c.tabs; repls = c.repls }

canonicalize_unplaced : (s : Sig) (xs : List Atom) (rs : List Replacement) → canonicalize s (map unplaced xs) rs ≡ unplaced_canonical (canonicalize s xs rs)
canonicalize_unplaced s xs rs =
    ap (λ (b : Body). record { tabs = resolve s b.atoms; repls = b.repls }) (replace_all_unplaced s xs rs)
    ∙ ap (λ (ts : List Tab). record { tabs = ts; repls = (replace_all s xs rs).repls }) (resolve_unplaced s (replace_all s xs rs).atoms)

-- ---- merge passes

seen_unplaced : (a : Tab) (fs : List Tab) → seen (unplaced_tab a) (map unplaced_tab fs) ≡ seen a fs
seen_unplaced a [] = refl
seen_unplaced a (f ∷ fs) = ap (λ (c : Bool). alike f a || c) (seen_unplaced a fs)

keep_unplaced : (fs ts : List Tab) → keep (map unplaced_tab fs) (map unplaced_tab ts) ≡ map unplaced_tab (keep fs ts)
keep_unplaced fs [] = refl
keep_unplaced fs (a ∷ xs) =
    ap (λ (c : Bool). cond c (keep (map unplaced_tab fs) (map unplaced_tab xs)) (unplaced_tab a ∷ keep (map unplaced_tab (a ∷ fs)) (map unplaced_tab xs))) (seen_unplaced a fs)
    ∙ go (seen a fs) (keep_unplaced fs xs) (keep_unplaced (a ∷ fs) xs)
  where
    go : (c : Bool) → keep (map unplaced_tab fs) (map unplaced_tab xs) ≡ map unplaced_tab (keep fs xs)
        → keep (map unplaced_tab (a ∷ fs)) (map unplaced_tab xs) ≡ map unplaced_tab (keep (a ∷ fs) xs)
        → cond c (keep (map unplaced_tab fs) (map unplaced_tab xs)) (unplaced_tab a ∷ keep (map unplaced_tab (a ∷ fs)) (map unplaced_tab xs))
        ≡ map unplaced_tab (cond c (keep fs xs) (a ∷ keep (a ∷ fs) xs))
    go true old new = old
    go false old new = ap (λ (l : List Tab). unplaced_tab a ∷ l) new

clashes_unplaced : (a : Tab) (xs : List Tab) → clashes (unplaced_tab a) (map unplaced_tab xs) ≡ map unplaced (clashes a xs)
clashes_unplaced a [] = refl
clashes_unplaced a (b ∷ xs) = go (alike a b && not (same_term a.out b.out)) (clashes_unplaced a xs)
  where
    go : (c : Bool) → clashes (unplaced_tab a) (map unplaced_tab xs) ≡ map unplaced (clashes a xs)
        → cond c (eqn 0 a.out b.out ∷ clashes (unplaced_tab a) (map unplaced_tab xs)) (clashes (unplaced_tab a) (map unplaced_tab xs))
        ≡ map unplaced (cond c (eqn 0 a.out b.out ∷ clashes a xs) (clashes a xs))
    go true ih = ap (λ (l : List Atom). eqn 0 a.out b.out ∷ l) ih
    go false ih = ih

merged_unplaced : (fs ts : List Tab) → merged (map unplaced_tab fs) (map unplaced_tab ts) ≡ map unplaced (merged fs ts)
merged_unplaced fs [] = refl
merged_unplaced fs (a ∷ xs) =
    ap (λ (c : Bool). cond c (merged (map unplaced_tab fs) (map unplaced_tab xs)) (clashes (unplaced_tab a) (map unplaced_tab xs) ++ merged (map unplaced_tab (a ∷ fs)) (map unplaced_tab xs)))
    (seen_unplaced a fs)
    ∙ go (seen a fs) (merged_unplaced fs xs) (merged_unplaced (a ∷ fs) xs)
  where
    go : (c : Bool) → merged (map unplaced_tab fs) (map unplaced_tab xs) ≡ map unplaced (merged fs xs)
        → merged (map unplaced_tab (a ∷ fs)) (map unplaced_tab xs) ≡ map unplaced (merged (a ∷ fs) xs)
        → cond c (merged (map unplaced_tab fs) (map unplaced_tab xs)) (clashes (unplaced_tab a) (map unplaced_tab xs) ++ merged (map unplaced_tab (a ∷ fs)) (map unplaced_tab xs))
        ≡ map unplaced (cond c (merged fs xs) (clashes a xs ++ merged (a ∷ fs) xs))
    go true old new = old
    go false old new = ap₂ ◌++◌ (clashes_unplaced a xs) new ∙ sym (map_append unplaced (clashes a xs) (merged (a ∷ fs) xs))

tabs_unplaced : (ts : List Tab) → map tab (map unplaced_tab ts) ≡ map unplaced (map tab ts)
tabs_unplaced [] = refl
tabs_unplaced (t ∷ ts) = ap (λ (l : List Atom). tab (unplaced_tab t) ∷ l) (tabs_unplaced ts)

-- ---- settling

passes_unplaced : (s : Sig) (n : ℕ) (ts : List Tab) (rs : List Replacement) (k : ℕ)
    → remove_dup_vars s n (map unplaced_tab ts) rs k ≡ unplaced_settled (remove_dup_vars s n ts rs k)
passes_unplaced s zero ts rs k = refl
passes_unplaced s (suc n) ts rs k =
    ap₂ (λ (es : List Atom) (us : List Tab). after_pass s es us rs k (λ vs qs j. remove_dup_vars s n vs qs j)) (merged_unplaced [] ts) (keep_unplaced [] ts)
    ∙ go (merged [] ts) (λ us qs j. passes_unplaced s n us qs j)
  where
    go : (es : List Atom)
        → ((us : List Tab) (qs : List Replacement) (j : ℕ) → remove_dup_vars s n (map unplaced_tab us) qs j ≡ unplaced_settled (remove_dup_vars s n us qs j))
        → after_pass s (map unplaced es) (map unplaced_tab (keep [] ts)) rs k (λ us qs j. remove_dup_vars s n us qs j)
        ≡ unplaced_settled (after_pass s es (keep [] ts) rs k (λ us qs j. remove_dup_vars s n us qs j))
    go [] ih = refl
    go (e ∷ es) ih =
        let ys = e ∷ es ++ map tab (keep [] ts) in
        let c = canonicalize s ys rs in
        ap (λ (l : List Atom). let d = canonicalize s l rs in remove_dup_vars s n d.tabs d.repls (suc k))
        (ap (λ (l : List Atom). map unplaced (e ∷ es) ++ l) (tabs_unplaced (keep [] ts)) ∙ sym (map_append unplaced (e ∷ es) (map tab (keep [] ts))))
        ∙ ap (λ (d : Canonical). remove_dup_vars s n d.tabs d.repls (suc k)) (canonicalize_unplaced s ys rs)
        ∙ ih c.tabs c.repls (suc k)

-- a body without places settles to the settled body without places
pub settle_unplaced : (s : Sig) (xs : List Atom) → settle s (map unplaced xs) ≡ unplaced_settled (settle s xs)
settle_unplaced s xs =
    let c = canonicalize s xs [] in
    ap₂ (λ (n : ℕ) (d : Canonical). remove_dup_vars s (suc n) d.tabs d.repls 0) (length-map xs unplaced) (canonicalize_unplaced s xs [])
    ∙ passes_unplaced s (suc (length xs)) c.tabs c.repls 0

-- for code: settling what the words of a body tell is settling the body
pub settle_read_back : (s : Sig) (xs : List Atom) → All Encodable xs → settle s (atoms_of (words_of atom_words xs)) ≡ unplaced_settled (settle s xs)
settle_read_back s xs f = ap (settle s) (atoms_back xs f) ∙ settle_unplaced s xs

-- in words: the same words settle to the same words, with the same replacements and passes
pub settle_words_lem : (s : Sig) (xs ys : List Atom) → All Encodable xs → All Encodable ys → words_of atom_words xs ≡ words_of atom_words ys
    → (words_of tab_words (settle s xs).tabs ≡ words_of tab_words (settle s ys).tabs)
    × ((settle s xs).repls ≡ (settle s ys).repls)
    × ((settle s xs).passes ≡ (settle s ys).passes)
settle_words_lem s xs ys f g e =
    let same : unplaced_settled (settle s xs) ≡ unplaced_settled (settle s ys) =
    sym (settle_unplaced s xs) ∙ ap (settle s) (words_tell xs ys f g e) ∙ settle_unplaced s ys in (
      sym (unplaced_tabs_words (settle s xs).tabs) ∙ ap (λ (b : Settled). words_of tab_words b.tabs) same ∙ unplaced_tabs_words (settle s ys).tabs,
      ap (λ (b : Settled). b.repls) same,
      ap (λ (b : Settled). b.passes) same,
    )
