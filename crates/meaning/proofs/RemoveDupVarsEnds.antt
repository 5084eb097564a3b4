-- Merge passes come to their end: no more than the atoms and one are made, and then any two atoms differ in head or inputs.
--
-- A pass need not leave fewer atoms: an equality of two literals becomes a value-eq atom. Such atoms stand in front and have the output Unit, so two
-- of them never clash. What falls with each pass is the number of atoms behind the front ones with output Unit.
-- Assumes nothing.
use Rattle.rules.specs.RemoveDupVars.{settle}
use Rattle.meaning.proofs.MergePass.{apart_stays}
use Prim.Native.Nat.{ℕ, zero, suc, ◌+◌, ◌≤◌, ◌<◌}
use native.Mathlib.Nat.{le_refl, le_trans}
use native.Mathlib.Decide.{dec_le}
use native.Mathlib.Omega.{arith}
use mathlib.Core.Logic.{by_cases}
use mathlib.Core.Path.{◌≡◌, refl, sym, ◌∙◌, ap, ap₂, subst}
use mathlib.Core.Bool.{Bool, true, false, cond, false≢true}
use mathlib.Core.List.{List, [], ◌∷◌, ◌++◌, map}
use mathlib.Core.Option.{Option, none, some}
use lib.ListN.{length, length-map}
use lib.Dec.{eqb}
use borrow.Author.Tests.{eqb-true, eq-eqb, ne_eqb, lt-leb}
use Rattle.rules.specs.Words.{name_base, unit}
use Rattle.rules.specs.Signature.{Sig, is_var, same_term}
use Rattle.rules.specs.Flat.{Tab, Atom, eqn, tab}
use Rattle.rules.specs.Canonicalize.{Replacement, replace_term, replace_atom, first_replacement, replace_step, replace_up_to, replace_all, resolve_eq, resolve, canonicalize}
use Rattle.rules.specs.RemoveDupVars.{alike, seen, keep, clashes, merged, after_pass, remove_dup_vars}
use Rattle.meaning.specs.Meaning.{All}
use Rattle.meaning.specs.Bounds.{Apart, SettledApart, SettleEnough, PassesBounded}
use Rattle.meaning.proofs.Lists.{or_neither}
use Rattle.meaning.proofs.SameTerms.{word_same}
use Rattle.meaning.proofs.CanonicalizeEnds.{first_var}
use Rattle.meaning.proofs.MergePass.{keep_length, keep_apart, IsEqn, merged_eqns, clashes_unlike, clashes_same}

-- ---- the atoms behind the front ones with output Unit

abbrev choose : Bool → ℕ → ℕ → ℕ
choose true n m = n
choose false n m = m

abbrev pub behind : List Tab → ℕ
behind [] = 0
behind (t ∷ ts) = choose (eqb t.out unit) (behind ts) (suc (length ts))

-- equalities are among the front ones
abbrev pub behind_in : List Atom → ℕ
behind_in [] = 0
behind_in (eqn p a b ∷ xs) = behind_in xs
behind_in (tab t ∷ xs) = choose (eqb t.out unit) (behind_in xs) (suc (length xs))

choose_le : (c : Bool) (n m k : ℕ) → n ≤ k → m ≤ k → choose c n m ≤ k
choose_le true n m k h l = h
choose_le false n m k h l = l

behind_length : (ts : List Tab) → behind ts ≤ length ts
behind_length [] = le_refl _
behind_length (t ∷ ts) = choose_le (eqb t.out unit) _ _ _ (let h = behind_length ts in omega arith) (le_refl _)

behind_in_length : (xs : List Atom) → behind_in xs ≤ length xs
behind_in_length [] = le_refl _
behind_in_length (eqn p a b ∷ xs) = omega (arith, behind_in_length xs)
behind_in_length (tab t ∷ xs) = choose_le (eqb t.out unit) _ _ _ (let h = behind_in_length xs in omega arith) (le_refl _)

-- ---- through canonicalize

resolve_length : (s : Sig) (xs : List Atom) → length (resolve s xs) ≤ length xs
resolve_length s [] = le_refl _
resolve_length s (tab t ∷ xs) = omega (arith, resolve_length s xs)
resolve_length s (eqn p a b ∷ xs) = go (same_term a b) (resolve_length s xs)
  where
    go : (c : Bool) → length (resolve s xs) ≤ length xs → length (resolve_eq s c p a b (resolve s xs)) ≤ suc (length xs)
    go true h = omega arith
    go false h = omega arith

behind_resolve : (s : Sig) (xs : List Atom) → behind (resolve s xs) ≤ behind_in xs
behind_resolve s [] = le_refl _
behind_resolve s (tab t ∷ xs) = go (eqb t.out unit) (behind_resolve s xs) (resolve_length s xs)
  where
    go : (c : Bool) → behind (resolve s xs) ≤ behind_in xs → length (resolve s xs) ≤ length xs
        → choose c (behind (resolve s xs)) (suc (length (resolve s xs))) ≤ choose c (behind_in xs) (suc (length xs))
    go true h l = h
    go false h l = omega arith
behind_resolve s (eqn p a b ∷ xs) = go (same_term a b) (behind_resolve s xs)
  where
    go : (c : Bool) → behind (resolve s xs) ≤ behind_in xs → behind (resolve_eq s c p a b (resolve s xs)) ≤ behind_in xs
    go true h = h
    go false h = h

pub unit_no_var : (s : Sig) → is_var s unit ≡ false
unit_no_var s = lt-leb (name_base + s.globals) unit (omega arith)

unit_kept : (s : Sig) (r : Replacement) → is_var s r.old ≡ true → replace_term r unit ≡ unit
unit_kept s r v =
    ap (λ (c : Bool). cond c r.new unit) (ne_eqb unit r.old (λ e. false≢true (sym (unit_no_var s) ∙ ap (is_var s) e ∙ v)))

behind_replaced : (s : Sig) (r : Replacement) → is_var s r.old ≡ true → (xs : List Atom) → behind_in (map (replace_atom r) xs) ≤ behind_in xs
behind_replaced s r v [] = le_refl _
behind_replaced s r v (eqn p a b ∷ xs) = behind_replaced s r v xs
behind_replaced s r v (tab t ∷ xs) = go (eqb t.out unit) refl (behind_replaced s r v xs)
  where
    go : (c : Bool) → eqb t.out unit ≡ c → behind_in (map (replace_atom r) xs) ≤ behind_in xs
        → choose (eqb (replace_term r t.out) unit) (behind_in (map (replace_atom r) xs)) (suc (length (map (replace_atom r) xs)))
        ≤ choose c (behind_in xs) (suc (length xs))
    go true e h = rw (eq-eqb (replace_term r t.out) unit (ap (replace_term r) (eqb-true t.out unit e) ∙ unit_kept s r v)) h
    go false e h =
        let l = length-map xs (replace_atom r) in
        let m = behind_in_length (map (replace_atom r) xs) in
        choose_le (eqb (replace_term r t.out) unit) _ _ _ (omega arith) (omega arith)

behind_up_to : (s : Sig) (n : ℕ) (xs : List Atom) (rs : List Replacement) → behind_in (replace_up_to s n xs rs).atoms ≤ behind_in xs
behind_up_to s zero xs rs = le_refl _
behind_up_to s (suc n) xs rs = go (first_replacement s xs) refl (λ ys qs. behind_up_to s n ys qs)
  where
    go : (o : Option Replacement) → first_replacement s xs ≡ o
        → ((ys : List Atom) (qs : List Replacement) → behind_in (replace_up_to s n ys qs).atoms ≤ behind_in ys)
        → behind_in (replace_step o xs rs (λ ys qs. replace_up_to s n ys qs)).atoms ≤ behind_in xs
    go none e ih = le_refl _
    go (some r) e ih = le_trans (ih (map (replace_atom r) xs) (r ∷ rs)) (behind_replaced s r (first_var s xs r e) xs)

behind_canonicalize : (s : Sig) (xs : List Atom) (rs : List Replacement) → behind (canonicalize s xs rs).tabs ≤ behind_in xs
behind_canonicalize s xs rs = le_trans (behind_resolve s (replace_all s xs rs).atoms) (behind_up_to s (length xs) xs rs)

-- at the start there are no more of them than atoms
pub behind_start : (s : Sig) (xs : List Atom) → behind (canonicalize s xs []).tabs ≤ length xs
behind_start s xs = le_trans (behind_canonicalize s xs []) (behind_in_length xs)

-- ---- a pass that gives an equality drops an atom from behind

-- no atom of ts clashes with one of fs
abbrev Calm : List Tab → List Tab → Type 0
Calm ts fs = All (λ (f : Tab). clashes f ts ≡ []) fs

calm_unseen : (a : Tab) (xs fs : List Tab) → seen a fs ≡ false → Calm xs fs → Calm (a ∷ xs) fs
calm_unseen a xs [] e h = tt
calm_unseen a xs (f ∷ fs) e h =
    let k = or_neither (alike f a) (seen a fs) e in
    (clashes_unlike f a xs k.0 ∙ h.0, calm_unseen a xs fs k.1 h.1)

-- all outputs are Unit
abbrev AllUnit : List Tab → Type 0
AllUnit fs = All (λ (f : Tab). f.out ≡ unit) fs

calm_unit : (a : Tab) (xs fs : List Tab) → a.out ≡ unit → AllUnit fs → Calm xs fs → Calm (a ∷ xs) fs
calm_unit a xs [] q u h = tt
calm_unit a xs (f ∷ fs) q u h = (clashes_same f a xs (word_same f.out a.out (u.0 ∙ sym q)) ∙ h.0, calm_unit a xs fs q u.1 h.1)

calm_nil : (fs : List Tab) → Calm [] fs
calm_nil [] = tt
calm_nil (f ∷ fs) = (refl, calm_nil fs)

-- where nothing is dropped, nothing clashes
all_kept : (fs ts : List Tab) → length ts ≤ length (keep fs ts) → Calm ts fs × (merged fs ts ≡ [])
all_kept fs [] h = (calm_nil fs, refl)
all_kept fs (a ∷ xs) h = go (seen a fs) refl h (λ k. all_kept (a ∷ fs) xs k)
  where
    go : (b : Bool) → seen a fs ≡ b → suc (length xs) ≤ length (cond b (keep fs xs) (a ∷ keep (a ∷ fs) xs))
        → (length xs ≤ length (keep (a ∷ fs) xs) → Calm xs (a ∷ fs) × (merged (a ∷ fs) xs ≡ []))
        → Calm (a ∷ xs) fs × (cond b (merged fs xs) (clashes a xs ++ merged (a ∷ fs) xs) ≡ [])
    go true e k ih = absurd (omega (arith, keep_length fs xs))
    go false e k ih = let r = ih (omega arith) in (calm_unseen a xs fs e r.0.1, ap₂ ◌++◌ r.0.0 r.1)

-- where nothing is dropped from behind, nothing clashes
behind_kept : (fs ts : List Tab) → AllUnit fs → behind ts ≤ behind (keep fs ts) → Calm ts fs × (merged fs ts ≡ [])
behind_kept fs [] u h = (calm_nil fs, refl)
behind_kept fs (a ∷ xs) u h =
    go (eqb a.out unit) refl (seen a fs) refl h (λ k. behind_kept fs xs u k) (λ v k. behind_kept (a ∷ fs) xs v k)
  where
    go : (c : Bool) → eqb a.out unit ≡ c → (b : Bool) → seen a fs ≡ b
        → choose c (behind xs) (suc (length xs)) ≤ behind (cond b (keep fs xs) (a ∷ keep (a ∷ fs) xs))
        → (behind xs ≤ behind (keep fs xs) → Calm xs fs × (merged fs xs ≡ []))
        → (AllUnit (a ∷ fs) → behind xs ≤ behind (keep (a ∷ fs) xs) → Calm xs (a ∷ fs) × (merged (a ∷ fs) xs ≡ []))
        → Calm (a ∷ xs) fs × (cond b (merged fs xs) (clashes a xs ++ merged (a ∷ fs) xs) ≡ [])
    go true c true e k old new = let r = old k in (calm_unit a xs fs (eqb-true _ _ c) u r.0, r.1)
    go true c false e k old new =
        let r = new (eqb-true _ _ c, u) (rw c at k) in
        (calm_unseen a xs fs e r.0.1, ap₂ ◌++◌ r.0.0 r.1)
    go false c true e k old new = absurd (omega (arith, keep_length fs xs, behind_length (keep fs xs)))
    go false c false e k old new =
        let m = behind_length (a ∷ keep (a ∷ fs) xs) in
        let r = all_kept (a ∷ fs) xs (omega arith) in
        (calm_unseen a xs fs e r.0.1, ap₂ ◌++◌ r.0.0 r.1)

cons_no_nil : (e : Atom) (es : List Atom) → ◌≡◌ {A = List Atom} (e ∷ es) [] → ⊥
cons_no_nil e es p = let z : ◌≡◌ {A = ℕ} 0 1 = cc in omega arith

keep_falls : (ts : List Tab) (e : Atom) (es : List Atom) → merged [] ts ≡ e ∷ es → behind (keep [] ts) < behind ts
keep_falls ts e es h =
    by_cases (dec_le (behind ts) (behind (keep [] ts))) (λ k. absurd (cons_no_nil e es (sym h ∙ (behind_kept [] ts tt k).1))) (λ k. omega arith)

behind_front : (es : List Atom) (ts : List Tab) → All IsEqn es → behind_in (es ++ map tab ts) ≡ behind ts
behind_front [] ts h = tabs ts
  where
    tabs : (us : List Tab) → behind_in (map tab us) ≡ behind us
    tabs [] = refl
    tabs (u ∷ us) = ap₂ (choose (eqb u.out unit)) (tabs us) (ap suc (length-map us tab))
behind_front (eqn p a b ∷ es) ts h = behind_front es ts h.1
behind_front (tab t ∷ es) ts h = absurd h.0

pub behind_falls : (s : Sig) (ts : List Tab) (rs : List Replacement) (e : Atom) (es : List Atom) → merged [] ts ≡ e ∷ es
    → behind (canonicalize s (e ∷ es ++ map tab (keep [] ts)) rs).tabs < behind ts
behind_falls s ts rs e es m =
    omega (
      arith,
      behind_canonicalize s (e ∷ es ++ map tab (keep [] ts)) rs,
      behind_front (e ∷ es) (keep [] ts) (subst (λ (zs : List Atom). All IsEqn zs) m (merged_eqns [] ts)),
      keep_falls ts e es m,
    )

-- ---- the end

ended : (s : Sig) (n : ℕ) (ts : List Tab) (rs : List Replacement) (k : ℕ) → behind ts < n → Apart (remove_dup_vars s n ts rs k).tabs
ended s zero ts rs k h = absurd (omega arith)
ended s (suc n) ts rs k h = go (merged [] ts) refl (λ us qs j l. ended s n us qs j l)
  where
    go : (es : List Atom) → merged [] ts ≡ es
        → ((us : List Tab) (qs : List Replacement) (j : ℕ) → behind us < n → Apart (remove_dup_vars s n us qs j).tabs)
        → Apart (after_pass s es (keep [] ts) rs k (λ us qs j. remove_dup_vars s n us qs j)).tabs
    go [] e ih = keep_apart ts
    go (x ∷ es) e ih =
        let c = canonicalize s (x ∷ es ++ map tab (keep [] ts)) rs in
        ih c.tabs c.repls (suc k) (let f = behind_falls s ts rs x es e in omega arith)

-- in the settled body any two atoms differ in head or in inputs
pub settled_apart : SettledApart
settled_apart s xs =
    let c = canonicalize s xs [] in
    ended s (suc (length xs)) c.tabs c.repls 0 (let h = behind_start s xs in omega arith)

enough : (s : Sig) (n m : ℕ) (ts : List Tab) (rs : List Replacement) (k : ℕ) → behind ts < n → behind ts < m
    → remove_dup_vars s n ts rs k ≡ remove_dup_vars s m ts rs k
enough s zero m ts rs k h l = absurd (omega arith)
enough s (suc n) zero ts rs k h l = absurd (omega arith)
enough s (suc n) (suc m) ts rs k h l = go (merged [] ts) refl (λ us qs j a b. enough s n m us qs j a b)
  where
    go : (es : List Atom) → merged [] ts ≡ es
        → ((us : List Tab) (qs : List Replacement) (j : ℕ) → behind us < n → behind us < m → remove_dup_vars s n us qs j ≡ remove_dup_vars s m us qs j)
        → after_pass s es (keep [] ts) rs k (λ us qs j. remove_dup_vars s n us qs j) ≡ after_pass s es (keep [] ts) rs k (λ us qs j. remove_dup_vars s m us qs j)
    go [] e ih = refl
    go (x ∷ es) e ih =
        let c = canonicalize s (x ∷ es ++ map tab (keep [] ts)) rs in
        let f = behind_falls s ts rs x es e in
        ih c.tabs c.repls (suc k) (omega arith) (omega arith)

-- more passes than the atoms and one are never made, whatever is allowed
pub settle_enough : SettleEnough
settle_enough s n xs h =
    let c = canonicalize s xs [] in
    let b = behind_start s xs in
    enough s n (suc (length xs)) c.tabs c.repls 0 (omega arith) (omega arith)

-- ---- how many passes

passes_count : (s : Sig) (n : ℕ) (ts : List Tab) (rs : List Replacement) (k : ℕ) → (remove_dup_vars s n ts rs k).passes ≤ k + n
passes_count s zero ts rs k = omega arith
passes_count s (suc n) ts rs k = go (merged [] ts) (λ us qs j. passes_count s n us qs j)
  where
    go : (es : List Atom) → ((us : List Tab) (qs : List Replacement) (j : ℕ) → (remove_dup_vars s n us qs j).passes ≤ j + n)
        → (after_pass s es (keep [] ts) rs k (λ us qs j. remove_dup_vars s n us qs j)).passes ≤ k + suc n
    go [] ih = omega arith
    go (x ∷ es) ih =
        let c = canonicalize s (x ∷ es ++ map tab (keep [] ts)) rs in
        omega (arith, ih c.tabs c.repls (suc k))

-- passes never exceed the atoms plus one
pub passes_bounded : PassesBounded
passes_bounded s xs =
    let c = canonicalize s xs [] in
    omega (arith, passes_count s (suc (length xs)) c.tabs c.repls 0)

-- so another pass would give no equality, and all atoms would stay
pub settled_stays : (s : Sig) (xs : List Atom) → (merged [] (settle s xs).tabs ≡ []) × (keep [] (settle s xs).tabs ≡ (settle s xs).tabs)
settled_stays s xs = apart_stays (settle s xs).tabs (settled_apart s xs)
