-- What a merge pass leaves: atoms that differ in head or inputs, and equalities alone.
-- Assumes nothing.
use mathlib.Core.Bool.{◌||◌}
use Rattle.meaning.proofs.Lists.{same_terms_lem}
use Prim.Native.Nat.{suc, ◌≤◌}
use native.Mathlib.Nat.{le_refl}
use native.Mathlib.Omega.{arith}
use mathlib.Core.Path.{◌≡◌, refl, sym, ◌∙◌, ap, ap₂}
use mathlib.Core.Bool.{Bool, true, false, cond, not, ◌&&◌}
use mathlib.Core.List.{List, [], ◌∷◌, ◌++◌}
use lib.ListN.{length}
use lib.Dec.{eqb}
use borrow.Author.Tests.{eqb-true, eq-eqb}
use Rattle.rules.specs.Signature.{same_term, same_terms}
use Rattle.rules.specs.Flat.{Tab, Atom, eqn, tab}
use Rattle.rules.specs.RemoveDupVars.{alike, seen, keep, clashes, merged}
use Rattle.meaning.specs.Meaning.{All}
use Rattle.meaning.specs.Bounds.{Apart}
use Rattle.meaning.proofs.Lists.{and_left, and_right, or_neither, cond_both, all_append}
use Rattle.meaning.proofs.SameTerms.{terms_length, terms_joined}

-- alike atoms have one head, and equal inputs
pub alike_head : (a b : Tab) → alike a b ≡ true → a.head ≡ b.head
alike_head a b e = eqb-true a.head b.head (and_left (eqb a.head b.head) (same_terms a.ins b.ins) e)

pub alike_ins : (a b : Tab) → alike a b ≡ true → same_terms a.ins b.ins ≡ true
alike_ins a b e = and_right (eqb a.head b.head) (same_terms a.ins b.ins) e

-- as many of them
pub alike_count : (a b : Tab) → alike a b ≡ true → length a.ins ≡ length b.ins
alike_count a b e = terms_length a.ins b.ins (alike_ins a b e)

-- atoms that are alike a third are alike
pub alike_joined : (a b c : Tab) → alike a c ≡ true → alike b c ≡ true → alike a b ≡ true
alike_joined a b c e f =
    ap₂ ◌&&◌ (eq-eqb a.head b.head (alike_head a c e ∙ sym (alike_head b c f)))
    (terms_joined a.ins b.ins c.ins (alike_ins a c e) (alike_ins b c f))

-- ---- the atoms that stay

pub keep_length : (fs ts : List Tab) → length (keep fs ts) ≤ length ts
keep_length fs [] = le_refl _
keep_length fs (a ∷ xs) =
    let old = keep_length fs xs in
    let new = keep_length (a ∷ fs) xs in
    cond_both (λ (l : List Tab). length l ≤ suc (length xs)) (seen a fs) (keep fs xs) (a ∷ keep (a ∷ fs) xs) (omega arith) (omega arith)

-- a property of all atoms is one of those that stay
pub keep_all : (P : Tab → Type 0) (fs ts : List Tab) → All P ts → All P (keep fs ts)
keep_all P fs [] h = tt
keep_all P fs (a ∷ xs) h =
    cond_both (All P) (seen a fs) (keep fs xs) (a ∷ keep (a ∷ fs) xs) (keep_all P fs xs h.1) (h.0, keep_all P (a ∷ fs) xs h.1)

unseen_tail : (a : Tab) (fs xs : List Tab) → All (λ (b : Tab). seen b (a ∷ fs) ≡ false) xs
    → All (λ (b : Tab). alike a b ≡ false) xs × All (λ (b : Tab). seen b fs ≡ false) xs
unseen_tail a fs [] h = (tt, tt)
unseen_tail a fs (x ∷ xs) h =
    let k = or_neither (alike a x) (seen x fs) h.0 in
    let r = unseen_tail a fs xs h.1 in
    ((k.0, r.0), (k.1, r.1))

keep_unseen : (fs ts : List Tab) → All (λ (b : Tab). seen b fs ≡ false) (keep fs ts) × Apart (keep fs ts)
keep_unseen fs [] = (tt, tt)
keep_unseen fs (a ∷ xs) = go (seen a fs) refl (keep_unseen fs xs) (keep_unseen (a ∷ fs) xs)
  where
    Both : List Tab → List Tab → Type 0
    Both gs ts = All (λ (b : Tab). seen b gs ≡ false) ts × Apart ts

    go : (b : Bool) → seen a fs ≡ b → Both fs (keep fs xs) → Both (a ∷ fs) (keep (a ∷ fs) xs) → Both fs (cond b (keep fs xs) (a ∷ keep (a ∷ fs) xs))
    go true e old new = old
    go false e old new = let r = unseen_tail a fs (keep (a ∷ fs) xs) new.0 in ((e, r.1), (r.0, new.1))

pub keep_apart : (ts : List Tab) → Apart (keep [] ts)
keep_apart ts = (keep_unseen [] ts).1

-- ---- the equalities

abbrev pub IsEqn : Atom → Type 0
IsEqn (eqn p a b) = Unit {0}
IsEqn (tab t) = ⊥

clashes_eqns : (a : Tab) (xs : List Tab) → All IsEqn (clashes a xs)
clashes_eqns a [] = tt
clashes_eqns a (b ∷ xs) =
    let rest = clashes_eqns a xs in
    cond_both (All IsEqn) (alike a b && not (same_term a.out b.out)) (eqn 0 a.out b.out ∷ clashes a xs) (clashes a xs) (tt, rest) rest

pub merged_eqns : (fs ts : List Tab) → All IsEqn (merged fs ts)
merged_eqns fs [] = tt
merged_eqns fs (a ∷ xs) =
    cond_both (All IsEqn) (seen a fs) (merged fs xs) (clashes a xs ++ merged (a ∷ fs) xs) (merged_eqns fs xs)
    (all_append IsEqn (clashes a xs) (merged (a ∷ fs) xs) (clashes_eqns a xs) (merged_eqns (a ∷ fs) xs))

-- ---- the equalities of one group, atom by atom

pub clashes_unlike : (a b : Tab) (xs : List Tab) → alike a b ≡ false → clashes a (b ∷ xs) ≡ clashes a xs
clashes_unlike a b xs e =
    ap (λ (c : Bool). cond (c && not (same_term a.out b.out)) (eqn 0 a.out b.out ∷ clashes a xs) (clashes a xs)) e

pub clashes_same : (a b : Tab) (xs : List Tab) → same_term a.out b.out ≡ true → clashes a (b ∷ xs) ≡ clashes a xs
clashes_same a b xs e = ap (λ (d : Bool). cond (alike a b && not d) (eqn 0 a.out b.out ∷ clashes a xs) (clashes a xs)) e ∙ go (alike a b)
  where
    go : (c : Bool) → cond (c && false) (eqn 0 a.out b.out ∷ clashes a xs) (clashes a xs) ≡ clashes a xs
    go true = refl
    go false = refl

pub alike_same : (a b : Tab) → alike a b ≡ true → (a.head ≡ b.head) × (a.ins ≡ b.ins)
alike_same a b e = (
  eqb-true a.head b.head (and_left (eqb a.head b.head) (same_terms a.ins b.ins) e),
  same_terms_lem a.ins b.ins (and_right (eqb a.head b.head) (same_terms a.ins b.ins) e),
)

clashes_none : (a : Tab) (xs : List Tab) → All (λ (b : Tab). alike a b ≡ false) xs → clashes a xs ≡ []
clashes_none a [] h = refl
clashes_none a (b ∷ xs) h = clashes_unlike a b xs h.0 ∙ clashes_none a xs h.1

unseen_cons : (a : Tab) (fs xs : List Tab) → All (λ (b : Tab). alike a b ≡ false) xs → All (λ (b : Tab). seen b fs ≡ false) xs
    → All (λ (b : Tab). seen b (a ∷ fs) ≡ false) xs
unseen_cons a fs [] h k = tt
unseen_cons a fs (x ∷ xs) h k = (ap₂ ◌||◌ h.0 k.0, unseen_cons a fs xs h.1 k.1)

apart_pass : (fs ts : List Tab) → All (λ (b : Tab). seen b fs ≡ false) ts → Apart ts → (merged fs ts ≡ []) × (keep fs ts ≡ ts)
apart_pass fs [] u h = (refl, refl)
apart_pass fs (a ∷ xs) u h =
    let r = apart_pass (a ∷ fs) xs (unseen_cons a fs xs h.0 u.1) h.1 in (
      ap (λ (c : Bool). cond c (merged fs xs) (clashes a xs ++ merged (a ∷ fs) xs)) u.0 ∙ ap₂ ◌++◌ (clashes_none a xs h.0) r.0,
      ap (λ (c : Bool). cond c (keep fs xs) (a ∷ keep (a ∷ fs) xs)) u.0 ∙ ap (λ (l : List Tab). a ∷ l) r.1,
    )

-- another pass gives no equality, and all atoms stay
pub apart_stays : (ts : List Tab) → Apart ts → (merged [] ts ≡ []) × (keep [] ts ≡ ts)
apart_stays ts h = apart_pass [] ts (all_unseen ts) h
  where
    all_unseen : (us : List Tab) → All (λ (b : Tab). seen b [] ≡ false) us
    all_unseen [] = tt
    all_unseen (u ∷ us) = (refl, all_unseen us)
