-- Equalities in front of a body are canonicalized one by one: each is dropped, replaces a term in what lies behind it, or becomes its value-eq atom
-- at once. So nothing before it need be read or written again. Assumes nothing.
use mathlib.Core.Bool.{Bool, cond, false, false≢true, true}
use mathlib.Core.List.{List, [], ◌++◌, ◌∷◌, map}
use mathlib.Core.Option.{Option, none-ne-some, none, some}
use mathlib.Core.Path.{◌∙◌, ◌≡◌, ap, ap₂, refl, subst, sym}
use Prim.Native.Nat.{suc, zero, ℕ}
use native.Mathlib.Omega.{arith}
use lib.ListN.{length, length-map}
use borrow.Author.Tests.{ne_eqb}
use Rattle.rules.specs.Canonicalize.{Body, Replacement, canonicalize, first_replacement, or_else, replace_all}
use Rattle.rules.specs.Canonicalize.{replace_atom, replace_step, replace_term, replace_up_to, replacement_of, resolve, resolve_eq}
use Rattle.rules.specs.Flat.{Atom, Tab, eqn}
use Rattle.rules.specs.Signature.{Sig, is_var, same_term}
use Rattle.meaning.proofs.CanonicalizeEnds.{asked_same, first_var, replace_all_enough}
use Rattle.meaning.proofs.SameTerms.{same_replaced, word_same}
use Rattle.meaning.proofs.Sweep.{asks}
use Rattle.canonicalize.proofs.Resolving.{resolve_cons}
use Rattle.rules.specs.Canonicalize as canon

-- ---- an equality that asks for nothing: its terms are equal, or none of them is a variable

data Still (s : Sig) (a b : ℕ) : Type 0 where
  one : same_term a b ≡ true → Still s a b
  fixed : is_var s a ≡ false → is_var s b ≡ false → Still s a b

none_still : (s : Sig) (p a b : ℕ) → asks s (eqn p a b) ≡ none → Still s a b
none_still s p a b e = go (same_term a b) refl (is_var s a) refl (is_var s b) refl e
  where
    go : (c : Bool) → same_term a b ≡ c → (l : Bool) → is_var s a ≡ l → (m : Bool) → is_var s b ≡ m → replacement_of c l m a b ≡ none → Still s a b
    go true q l el m em k = one q
    go false q true el m em k = absurd (none-ne-some _ (sym k))
    go false q false el true em k = absurd (none-ne-some _ (sym k))
    go false q false el false em k = fixed el em

still_none : (s : Sig) (p a b : ℕ) → Still s a b → asks s (eqn p a b) ≡ none
still_none s p a b (one e) = ap (λ (c : Bool). replacement_of c (is_var s a) (is_var s b) a b) e
still_none s p a b (fixed x y) = ap₂ (λ (l m : Bool). replacement_of (same_term a b) l m a b) x y ∙ go (same_term a b)
  where
    go : (c : Bool) → replacement_of c false false a b ≡ none
    go true = refl
    go false = refl

-- it stays so, and resolves to the same
fixed_stays : (s : Sig) (r : Replacement) (t : ℕ) → is_var s r.old ≡ true → is_var s t ≡ false → replace_term r t ≡ t
fixed_stays s r t v n = ap (λ (c : Bool). cond c r.new t) (ne_eqb t r.old (λ e. false≢true (sym n ∙ ap (is_var s) e ∙ v)))

-- an equality of equal terms goes
resolve_same : (s : Sig) (p a b : ℕ) → same_term a b ≡ true → resolve s (eqn p a b ∷ []) ≡ []
resolve_same s p a b e = ap (λ (c : Bool). resolve_eq s c p a b []) e

module _ (s : Sig) (r : Replacement) (v : is_var s r.old ≡ true) where
  still_later : (a b : ℕ) → Still s a b → Still s (replace_term r a) (replace_term r b)
  still_later a b (one e) = one (same_replaced s r v a b e)
  still_later a b (fixed x y) = fixed (ap (is_var s) (fixed_stays s r a v x) ∙ x) (ap (is_var s) (fixed_stays s r b v y) ∙ y)

  resolve_later : (p a b : ℕ) → Still s a b → resolve s (eqn p (replace_term r a) (replace_term r b) ∷ []) ≡ resolve s (eqn p a b ∷ [])
  resolve_later p a b (one e) = resolve_same s p (replace_term r a) (replace_term r b) (same_replaced s r v a b e) ∙ sym (resolve_same s p a b e)
  resolve_later p a b (fixed x y) = ap₂ (λ (i j : ℕ). resolve s (eqn p i j ∷ [])) (fixed_stays s r a v x) (fixed_stays s r b v y)

still_up_to : (s : Sig) (n : ℕ) (p a b : ℕ) (xs : List Atom) (rs : List Replacement) → Still s a b
    → (resolve s (replace_up_to s n (eqn p a b ∷ xs) rs).atoms ≡ resolve s (eqn p a b ∷ []) ++ resolve s (replace_up_to s n xs rs).atoms)
    × ((replace_up_to s n (eqn p a b ∷ xs) rs).repls ≡ (replace_up_to s n xs rs).repls)
still_up_to s zero p a b xs rs h = (resolve_cons s (eqn p a b) xs, refl)
still_up_to s (suc n) p a b xs rs h =
    subst (λ (o : Option Replacement). Both (replace_step o (eqn p a b ∷ xs) rs (λ ys qs. replace_up_to s n ys qs)) (replace_up_to s (suc n) xs rs))
    (sym (ap (λ (o : Option Replacement). or_else o (first_replacement s xs)) (still_none s p a b h)))
    (go (first_replacement s xs) refl (λ q c d ys qs. still_up_to s n q c d ys qs))
  where
    Both : Body → Body → Type 0
    Both x y = (resolve s x.atoms ≡ resolve s (eqn p a b ∷ []) ++ resolve s y.atoms) × (x.repls ≡ y.repls)

    go : (o : Option Replacement) → first_replacement s xs ≡ o
        → ((q c d : ℕ) (ys : List Atom) (qs : List Replacement) → Still s c d
        → (resolve s (replace_up_to s n (eqn q c d ∷ ys) qs).atoms ≡ resolve s (eqn q c d ∷ []) ++ resolve s (replace_up_to s n ys qs).atoms)
        × ((replace_up_to s n (eqn q c d ∷ ys) qs).repls ≡ (replace_up_to s n ys qs).repls))
        → Both (replace_step o (eqn p a b ∷ xs) rs (λ ys qs. replace_up_to s n ys qs)) (replace_step o xs rs (λ ys qs. replace_up_to s n ys qs))
    go none e ih = (resolve_cons s (eqn p a b) xs, refl)
    go (some r) e ih =
        let v = first_var s xs r e in
        let k = ih p (replace_term r a) (replace_term r b) (map (replace_atom r) xs) (r ∷ rs) (still_later s r v a b h) in
        (k.0 ∙ ap (λ (ts : List Tab). ts ++ resolve s (replace_up_to s n (map (replace_atom r) xs) (r ∷ rs)).atoms) (resolve_later s r v p a b h), k.1)

-- the terms of an equality that asks are equal once its replacement is made
pub asked_same_terms : (s : Sig) (p a b : ℕ) (r : Replacement) → asks s (eqn p a b) ≡ some r → same_term (replace_term r a) (replace_term r b) ≡ true
asked_same_terms s p a b r k = go (same_term a b) k
  where
    go : (c : Bool) → replacement_of c (is_var s a) (is_var s b) a b ≡ some r → same_term (replace_term r a) (replace_term r b) ≡ true
    go true k = absurd (none-ne-some r k)
    go false k = word_same (replace_term r a) (replace_term r b) (asked_same (is_var s a) (is_var s b) a b r k)

-- an equality that asks for nothing is resolved at once
pub canonicalize_still : (s : Sig) (p a b : ℕ) (xs : List Atom) (rs : List Replacement) → asks s (eqn p a b) ≡ none
    → canonicalize s (eqn p a b ∷ xs) rs ≡ record { tabs = resolve s (eqn p a b ∷ []) ++ (canonicalize s xs rs).tabs; repls = (canonicalize s xs rs).repls }
canonicalize_still s p a b xs rs e =
    let k = still_up_to s (suc (length xs)) p a b xs rs (none_still s p a b e) in
    let more : replace_up_to s (suc (length xs)) xs rs ≡ replace_all s xs rs = replace_all_enough s (suc (length xs)) xs rs (omega arith) in
    (λ i. record { tabs = k.0 i; repls = k.1 i })
    ∙ ap (λ (x : Body). record { tabs = resolve s (eqn p a b ∷ []) ++ resolve s x.atoms; repls = x.repls }) more

-- one that asks goes, with its replacement made behind it
pub canonicalize_asked : (s : Sig) (p a b : ℕ) (xs : List Atom) (rs : List Replacement) (r : Replacement) → asks s (eqn p a b) ≡ some r
    → canonicalize s (eqn p a b ∷ xs) rs ≡ canonicalize s (map (replace_atom r) xs) (r ∷ rs)
canonicalize_asked s p a b xs rs r e =
    let a₂ = replace_term r a in
    let b₂ = replace_term r b in
    let ys = map (replace_atom r) xs in
    let same : same_term a₂ b₂ ≡ true = asked_same_terms s p a b r e in
    let k = still_up_to s (length xs) p a₂ b₂ ys (r ∷ rs) (one same) in
    let gone : resolve s (eqn p a₂ b₂ ∷ []) ≡ [] = resolve_same s p a₂ b₂ same in
    ap (λ (o : Option Replacement). resolved (replace_step (or_else o (first_replacement s xs)) (eqn p a b ∷ xs) rs (λ zs qs. replace_up_to s (length xs) zs qs))) e
    ∙ (λ i. record { tabs = (k.0 ∙ ap (λ (ts : List Tab). ts ++ resolve s (replace_up_to s (length xs) ys (r ∷ rs)).atoms) gone) i; repls = k.1 i })
    ∙ ap (λ (n : ℕ). resolved (replace_up_to s n ys (r ∷ rs))) (sym (length-map xs (replace_atom r)))
  where
    resolved : Body → canon.Canonical
    resolved x = record { tabs = resolve s x.atoms; repls = x.repls }
