-- `canonicalize` comes to its end: as many replacements as there are atoms are enough, and no equality is left that asks for one.
-- Assumes nothing.
use Prim.Native.Nat.{ℕ, zero, suc, ◌+◌, ◌≤◌, ◌<◌}
use native.Mathlib.Nat.{le_refl}
use native.Mathlib.Omega.{arith}
use mathlib.Core.Path.{◌≡◌, refl, sym, ◌∙◌, ap, subst}
use mathlib.Core.Bool.{Bool, true, false, cond}
use mathlib.Core.List.{List, [], ◌∷◌, map}
use mathlib.Core.Option.{Option, none, some, some-injective, none-ne-some}
use lib.ListN.{length}
use lib.Dec.{eqb}
use borrow.Author.Tests.{eq-eqb}
use Rattle.rules.specs.Signature.{Sig, is_var, same_term}
use Rattle.rules.specs.Flat.{Atom, eqn, tab}
use Rattle.rules.specs.Canonicalize.{Replacement, replace_term, replace_atom, replacement_of, or_else, first_replacement, replace_step, replace_up_to, replace_all}
use Rattle.meaning.specs.Weight.{unlike, live}
use Rattle.meaning.specs.Bounds.{ReplaceAllEnds}
use Rattle.meaning.proofs.SameTerms.{word_same, same_replaced}

-- ---- what is replaced

-- it is a variable
pub first_var : (s : Sig) (xs : List Atom) (r : Replacement) → first_replacement s xs ≡ some r → is_var s r.old ≡ true
first_var s [] r e = absurd (none-ne-some r e)
first_var s (tab t ∷ xs) r e = first_var s xs r e
first_var s (eqn p a b ∷ xs) r e = go (same_term a b) (is_var s a) refl (is_var s b) refl (λ k. first_var s xs r k) e
  where
    go : (c l : Bool) → is_var s a ≡ l → (m : Bool) → is_var s b ≡ m → (first_replacement s xs ≡ some r → is_var s r.old ≡ true)
        → or_else (replacement_of c l m a b) (first_replacement s xs) ≡ some r → is_var s r.old ≡ true
    go true l el m em ih k = ih k
    go false true el m em ih k = subst (λ (q : Replacement). is_var s q.old ≡ true) (some-injective _ _ k) el
    go false false el true em ih k = subst (λ (q : Replacement). is_var s q.old ≡ true) (some-injective _ _ k) em
    go false false el false em ih k = ih k

-- ---- each replacement makes an equality's terms equal, and equal terms stay so

pub unlike_small : (same : Bool) → unlike same ≤ 1
unlike_small true = omega arith
unlike_small false = omega arith

live_length : (xs : List Atom) → live xs ≤ length xs
live_length [] = le_refl _
live_length (tab t ∷ xs) = omega (arith, live_length xs)
live_length (eqn p a b ∷ xs) = omega (arith, live_length xs, unlike_small (same_term a b))

-- where all equalities have equal terms, none asks
live_none : (s : Sig) (xs : List Atom) → live xs ≡ 0 → first_replacement s xs ≡ none
live_none s [] e = refl
live_none s (tab t ∷ xs) e = live_none s xs e
live_none s (eqn p a b ∷ xs) e = go (same_term a b) e (λ k. live_none s xs k)
  where
    go : (c : Bool) → unlike c + live xs ≡ 0 → (live xs ≡ 0 → first_replacement s xs ≡ none)
        → or_else (replacement_of c (is_var s a) (is_var s b) a b) (first_replacement s xs) ≡ none
    go true k ih = ih (omega arith)
    go false k ih = absurd (omega arith)

-- a variable is replaced
module _ (s : Sig) (r : Replacement) (v : is_var s r.old ≡ true) where
  unlike_later : (a b : ℕ) → unlike (same_term (replace_term r a) (replace_term r b)) ≤ unlike (same_term a b)
  unlike_later a b = go (same_term a b) refl
    where
      go : (c : Bool) → same_term a b ≡ c → unlike (same_term (replace_term r a) (replace_term r b)) ≤ unlike c
      go true e = rw (same_replaced s r v a b e) (le_refl 0)
      go false e = unlike_small (same_term (replace_term r a) (replace_term r b))

  live_later : (xs : List Atom) → live (map (replace_atom r) xs) ≤ live xs
  live_later [] = le_refl _
  live_later (tab t ∷ xs) = live_later xs
  live_later (eqn p a b ∷ xs) = omega (arith, live_later xs, unlike_later a b)

pub replace_old : (r : Replacement) → replace_term r r.old ≡ r.new
replace_old r = ap (λ (c : Bool). cond c r.new r.old) (eq-eqb r.old r.old refl)

-- what is put in stays
pub replace_new : (r : Replacement) → replace_term r r.new ≡ r.new
replace_new r = go (eqb r.new r.old)
  where
    go : (c : Bool) → cond c r.new r.new ≡ r.new
    go true = refl
    go false = refl

-- the terms of the equality that asked are equal now
pub asked_same : (l m : Bool) (a b : ℕ) (r : Replacement) → replacement_of false l m a b ≡ some r → replace_term r a ≡ replace_term r b
asked_same true m a b r k =
    let e = some-injective _ _ k in
    ap (replace_term r) (ap (λ (q : Replacement). q.old) e) ∙ replace_old r ∙ sym (replace_new r) ∙ ap (replace_term r) (sym (ap (λ (q : Replacement). q.new) e))
asked_same false true a b r k =
    let e = some-injective _ _ k in
    ap (replace_term r) (ap (λ (q : Replacement). q.new) e) ∙ replace_new r ∙ sym (replace_old r) ∙ ap (replace_term r) (sym (ap (λ (q : Replacement). q.old) e))
asked_same false false a b r k = absurd (none-ne-some r k)

pub live_falls : (s : Sig) (xs : List Atom) (r : Replacement) → first_replacement s xs ≡ some r → live (map (replace_atom r) xs) < live xs
live_falls s [] r e = absurd (none-ne-some r e)
live_falls s (tab t ∷ xs) r e = live_falls s xs r e
live_falls s (eqn p a b ∷ xs) r e = go (same_term a b) refl (is_var s a) (is_var s b) e (λ k. live_falls s xs r k)
  where
    v : is_var s r.old ≡ true
    v = first_var s (eqn p a b ∷ xs) r e

    done : replace_term r a ≡ replace_term r b → unlike (same_term (replace_term r a) (replace_term r b)) + live (map (replace_atom r) xs) < 1 + live xs
    done q = rw (word_same (replace_term r a) (replace_term r b) q) (omega (arith, live_later s r v xs))

    go : (c : Bool) → same_term a b ≡ c → (l m : Bool) → or_else (replacement_of c l m a b) (first_replacement s xs) ≡ some r
        → (first_replacement s xs ≡ some r → live (map (replace_atom r) xs) < live xs)
        → unlike (same_term (replace_term r a) (replace_term r b)) + live (map (replace_atom r) xs) < unlike c + live xs
    go true c l m k ih = let h = unlike_later s r v a b in let q = rw c at h in let z = ih k in omega arith
    go false c true m k ih = done (asked_same true m a b r k)
    go false c false true k ih = done (asked_same false true a b r k)
    go false c false false k ih = omega (arith, unlike_small (same_term (replace_term r a) (replace_term r b)), ih k)

-- ---- the end

ended : (s : Sig) (n : ℕ) (xs : List Atom) (rs : List Replacement) → live xs ≤ n → first_replacement s (replace_up_to s n xs rs).atoms ≡ none
ended s zero xs rs h = live_none s xs (omega arith)
ended s (suc n) xs rs h = go (first_replacement s xs) refl (λ ys qs l. ended s n ys qs l)
  where
    go : (o : Option Replacement) → first_replacement s xs ≡ o
        → ((ys : List Atom) (qs : List Replacement) → live ys ≤ n → first_replacement s (replace_up_to s n ys qs).atoms ≡ none)
        → first_replacement s (replace_step o xs rs (λ ys qs. replace_up_to s n ys qs)).atoms ≡ none
    go none e ih = e
    go (some r) e ih = ih (map (replace_atom r) xs) (r ∷ rs) (omega (arith, live_falls s xs r e))

-- no equality is left that asks for a replacement
pub replace_all_ends : ReplaceAllEnds
replace_all_ends s xs rs = ended s (length xs) xs rs (live_length xs)

-- where none asks, nothing is done
pub nothing_asked : (s : Sig) (n : ℕ) (xs : List Atom) (rs : List Replacement) → first_replacement s xs ≡ none → replace_up_to s n xs rs ≡ record { atoms = xs; repls = rs }
nothing_asked s zero xs rs e = refl
nothing_asked s (suc n) xs rs e = ap (λ (o : Option Replacement). replace_step o xs rs (λ ys qs. replace_up_to s n ys qs)) e

enough : (s : Sig) (n m : ℕ) (xs : List Atom) (rs : List Replacement) → live xs ≤ n → live xs ≤ m → replace_up_to s n xs rs ≡ replace_up_to s m xs rs
enough s zero m xs rs h l = sym (nothing_asked s m xs rs (live_none s xs (omega arith)))
enough s (suc n) zero xs rs h l = nothing_asked s (suc n) xs rs (live_none s xs (omega arith))
enough s (suc n) (suc m) xs rs h l = go (first_replacement s xs) refl (λ ys qs i j. enough s n m ys qs i j)
  where
    go : (o : Option Replacement) → first_replacement s xs ≡ o
        → ((ys : List Atom) (qs : List Replacement) → live ys ≤ n → live ys ≤ m → replace_up_to s n ys qs ≡ replace_up_to s m ys qs)
        → replace_step o xs rs (λ ys qs. replace_up_to s n ys qs) ≡ replace_step o xs rs (λ ys qs. replace_up_to s m ys qs)
    go none e ih = refl
    go (some r) e ih = let f = live_falls s xs r e in ih (map (replace_atom r) xs) (r ∷ rs) (omega arith) (omega arith)

-- more replacements than there are atoms are never made, whatever is allowed
pub replace_all_enough : (s : Sig) (n : ℕ) (xs : List Atom) (rs : List Replacement) → length xs ≤ n → replace_up_to s n xs rs ≡ replace_all s xs rs
replace_all_enough s n xs rs h = enough s n (length xs) xs rs (omega (arith, live_length xs)) (live_length xs)
