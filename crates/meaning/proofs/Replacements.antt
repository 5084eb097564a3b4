-- Replacements never exceed the distinct variables of the flat body: each one takes its variable out of the body for good.
-- Assumes nothing.
use Prim.Native.Nat.{ℕ, zero, suc}
use mathlib.Core.Path.{◌≡◌, refl, sym, ◌∙◌, ap, ap₂}
use mathlib.Core.Bool.{Bool, true, false, cond, ◌||◌, false≢true}
use mathlib.Core.List.{List, [], ◌∷◌, ◌++◌, map}
use mathlib.Core.Option.{Option, none, some}
use lib.ListN.{length}
use lib.Dec.{eqb}
use borrow.Author.Tests.{eq-eqb, ne_eqb}
use Rattle.rules.specs.Words.{unit}
use Rattle.rules.specs.Signature.{Sig, is_var, elem}
use Rattle.rules.specs.Flat.{Tab, Atom, tab}
use Rattle.rules.specs.ToQuery.{vars_of, terms_of, body_vars}
use Rattle.rules.specs.Canonicalize.{Replacement, replace_term, replace_atom, first_replacement, Body, replace_step, replace_up_to, replace_all, canonicalize}
use Rattle.rules.specs.RemoveDupVars.{keep, merged, after_pass, remove_dup_vars, settle}
use Rattle.meaning.specs.Meaning.{All}
use Rattle.meaning.specs.Bounds.{ReplacementsBounded}
use Rattle.meaning.proofs.Lists.{or_right, all_append, all_map}
use Rattle.meaning.proofs.DistinctWords.{NoDup, Within, no_longer, elem_left, elem_right}
use Rattle.meaning.proofs.CanonicalizeEnds.{first_var}
use Rattle.meaning.proofs.RemoveDupVarsEnds.{unit_no_var}
use Rattle.meaning.proofs.Terms.{AllTerms, AllTabTerms, all_terms_map, resolve_terms_lem, keep_terms, merged_terms, tabs_terms, first_terms, replace_all_terms}

-- ---- every variable of the body is one of its variables

abbrev pub VarIn : Sig → List ℕ → ℕ → Type 0
VarIn s vs w = is_var s w ≡ true → elem w vs ≡ true

vars_in : (s : Sig) (ws : List ℕ) → All (VarIn s (vars_of s ws)) ws
vars_in s [] = tt
vars_in s (w ∷ ws) = go (is_var s w) refl (vars_in s ws)
  where
    go : (c : Bool) → is_var s w ≡ c → All (VarIn s (vars_of s ws)) ws → All (VarIn s (cond c (w ∷ vars_of s ws) (vars_of s ws))) (w ∷ ws)
    go true e ih = (
      (λ v. ap (λ (c : Bool). c || elem w (vars_of s ws)) (eq-eqb w w refl)),
      all_map (VarIn s (vars_of s ws)) (VarIn s (w ∷ vars_of s ws)) (λ x f v. or_right (eqb x w) (elem x (vars_of s ws)) (f v)) ws ih,
    )
    go false e ih = ((λ v. absurd (false≢true (sym e ∙ v))), ih)

pub body_in : (s : Sig) (xs : List Atom) → AllTerms (VarIn s (body_vars s xs)) xs
body_in s [] = tt
body_in s (x ∷ xs) =
    let vs = vars_of s (terms_of x) in (
      all_map (VarIn s vs) (VarIn s (vs ++ body_vars s xs)) (λ w f v. elem_left w vs (body_vars s xs) (f v)) (terms_of x) (vars_in s (terms_of x)),
      all_terms_map (VarIn s (body_vars s xs)) (VarIn s (vs ++ body_vars s xs)) (λ w f v. elem_right w vs (body_vars s xs) (f v)) xs (body_in s xs),
    )

-- ---- the replaced variables are distinct variables of the body, and none of them is left in it

-- the variables that were replaced
abbrev pub olds : List Replacement → List ℕ
olds [] = []
olds (r ∷ rs) = r.old ∷ olds rs

pub olds_length : (rs : List Replacement) → length (olds rs) ≡ length rs
olds_length [] = refl
olds_length (r ∷ rs) = ap suc (olds_length rs)

-- a term that is a variable is one of vs, and not replaced
abbrev Left : Sig → List ℕ → List Replacement → ℕ → Type 0
Left s vs rs w = is_var s w ≡ true → (elem w vs ≡ true) × (elem w (olds rs) ≡ false)

-- the replaced variables are of vs, none of them twice
record Taken (vs : List ℕ) (rs : List Replacement) : Type 0 where
  once : NoDup (olds rs)
  within : Within vs (olds rs)

module _ (s : Sig) (vs : List ℕ) where
  left_term : (rs : List Replacement) (r : Replacement) → (r.new ≡ r.old → ⊥) → Left s vs rs r.new
      → (t : ℕ) → Left s vs rs t → Left s vs (r ∷ rs) (replace_term r t)
  left_term rs r d n t h = go (eqb t r.old) refl
    where
      go : (c : Bool) → eqb t r.old ≡ c → Left s vs (r ∷ rs) (cond c r.new t)
      go true e v = let k = n v in (k.0, ap₂ ◌||◌ (ne_eqb r.new r.old d) k.1)
      go false e v = let k = h v in (k.0, ap₂ ◌||◌ e k.1)

  left_unit : (rs : List Replacement) → Left s vs rs unit
  left_unit rs v = absurd (false≢true (sym (unit_no_var s) ∙ v))

  abbrev BodyLeft : Body → Type 0
  BodyLeft b = AllTerms (Left s vs b.repls) b.atoms × Taken vs b.repls

  up_to_left : (n : ℕ) (xs : List Atom) (rs : List Replacement) → AllTerms (Left s vs rs) xs → Taken vs rs → BodyLeft (replace_up_to s n xs rs)
  up_to_left zero xs rs h i = (h, i)
  up_to_left (suc n) xs rs h i = go (first_replacement s xs) refl (λ ys qs. up_to_left n ys qs)
    where
      go : (o : Option Replacement) → first_replacement s xs ≡ o
          → ((ys : List Atom) (qs : List Replacement) → AllTerms (Left s vs qs) ys → Taken vs qs → BodyLeft (replace_up_to s n ys qs))
          → BodyLeft (replace_step o xs rs (λ ys qs. replace_up_to s n ys qs))
      go none e ih = (h, i)
      go (some r) e ih =
          let k = first_terms (Left s vs rs) s xs r e h in
          let o = k.0 (first_var s xs r e) in
          ih (map (replace_atom r) xs) (r ∷ rs)
          (replace_all_terms (Left s vs rs) (Left s vs (r ∷ rs)) r (left_term rs r k.2 k.1) xs h)
          (record { once = (o.1, i.once); within = (o.0, i.within) })

  canonicalize_left : (xs : List Atom) (rs : List Replacement) → AllTerms (Left s vs rs) xs → Taken vs rs
      → let c = canonicalize s xs rs in AllTabTerms (Left s vs c.repls) c.tabs × Taken vs c.repls
  canonicalize_left xs rs h i =
      let b = replace_all s xs rs in
      let k = up_to_left (length xs) xs rs h i in
      (resolve_terms_lem (Left s vs b.repls) s (left_unit b.repls) b.atoms k.0, k.1)

  passes_left : (n : ℕ) (ts : List Tab) (rs : List Replacement) (k : ℕ) → AllTabTerms (Left s vs rs) ts → Taken vs rs → Taken vs (remove_dup_vars s n ts rs k).repls
  passes_left zero ts rs k h i = i
  passes_left (suc n) ts rs k h i = go (merged [] ts) (merged_terms (Left s vs rs) [] ts h) (λ us qs j. passes_left n us qs j)
    where
      go : (es : List Atom) → AllTerms (Left s vs rs) es
          → ((us : List Tab) (qs : List Replacement) (j : ℕ) → AllTabTerms (Left s vs qs) us → Taken vs qs → Taken vs (remove_dup_vars s n us qs j).repls)
          → Taken vs (after_pass s es (keep [] ts) rs k (λ us qs j. remove_dup_vars s n us qs j)).repls
      go [] m ih = i
      go (x ∷ es) m ih =
          let kept = tabs_terms (Left s vs rs) (keep [] ts) (keep_terms (Left s vs rs) [] ts h) in
          let ys = x ∷ es ++ map tab (keep [] ts) in
          let c = canonicalize s ys rs in
          let p = canonicalize_left ys rs (all_append (λ (a : Atom). All (Left s vs rs) (terms_of a)) (x ∷ es) (map tab (keep [] ts)) m kept) i in
          ih c.tabs c.repls (suc k) p.0 p.1

-- replacements never exceed the distinct variables of the flat body
pub replacements_bounded : ReplacementsBounded
replacements_bounded s xs =
    let vs = body_vars s xs in
    let c = canonicalize s xs [] in
    let start = all_terms_map (VarIn s vs) (Left s vs []) (λ w f v. (f v, refl)) xs (body_in s xs) in
    let p = canonicalize_left s vs xs [] start (record { once = tt; within = tt }) in
    let i = passes_left s vs (suc (length xs)) c.tabs c.repls 0 p.0 p.1 in
    let q = no_longer vs (olds (settle s xs).repls) i.once i.within in
    rw (olds_length (settle s xs).repls) at q
