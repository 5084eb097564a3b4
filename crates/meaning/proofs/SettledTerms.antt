-- What holds of Unit and of all terms of a body holds of all terms of its settled form, and of both ends of every replacement: settling makes no term
-- but Unit. So the fresh variables of a lowered rule's atoms and bindings are those of its flat body. Assumes nothing.
use Prim.Native.Nat.{ℕ, zero, suc, ◌+◌}
use mathlib.Core.Path.{◌≡◌, refl, sym, ◌∙◌}
use mathlib.Core.Bool.{Bool, true, false, cond, false≢true}
use mathlib.Core.List.{List, [], ◌∷◌, ◌++◌, map}
use mathlib.Core.Option.{Option, none, some}
use lib.ListN.{length}
use lib.Dec.{eqb, leb}
use Rattle.rules.specs.Words.{unit, name_base}
use Rattle.rules.specs.Signature.{Sig, is_fresh}
use Rattle.rules.specs.Flat.{Tab, Atom, tab}
use Rattle.rules.specs.ToQuery.{terms_of, body_vars}
use Rattle.rules.specs.Canonicalize.{Replacement, replace_term, replace_atom, first_replacement, replace_step, replace_up_to, canonicalize}
use Rattle.rules.specs.RemoveDupVars.{keep, merged, Settled, after_pass, remove_dup_vars, settle}
use Rattle.meaning.specs.Meaning.{All}
use Rattle.meaning.specs.Demand3.{FreshOf}
use Rattle.meaning.proofs.Lists.{or_left, all_append}
use Rattle.meaning.proofs.Terms.{AllTerms, AllTabTerms, all_terms_map, resolve_terms_lem, keep_terms, merged_terms, tabs_terms, first_terms, replace_all_terms}
use Rattle.meaning.proofs.RemoveDupVarsEnds.{unit_no_var}
use Rattle.meaning.proofs.Replacements.{VarIn, body_in}

-- a property of both ends of a replacement
abbrev pub Ends : (ℕ → Type 0) → Replacement → Type 0
Ends P r = P r.old × P r.new

-- of all terms of a settled body, and of all its replacements
abbrev pub SettledTerms : (ℕ → Type 0) → Settled → Type 0
SettledTerms P b = AllTabTerms P b.tabs × All (Ends P) b.repls

module _ (P : ℕ → Type 0) (s : Sig) (u : P unit) where
  -- a term that is not replaced stays, and one that is becomes the new end
  replaced_term_lem : (r : Replacement) → P r.new → (t : ℕ) → P t → P (replace_term r t)
  replaced_term_lem r n t h = go (eqb t r.old)
    where
      go : (c : Bool) → P (cond c r.new t)
      go true = n
      go false = h

  up_to_terms : (n : ℕ) (xs : List Atom) (rs : List Replacement) → AllTerms P xs → All (Ends P) rs
      → AllTerms P (replace_up_to s n xs rs).atoms × All (Ends P) (replace_up_to s n xs rs).repls
  up_to_terms zero xs rs h g = (h, g)
  up_to_terms (suc n) xs rs h g = go (first_replacement s xs) refl (λ ys qs. up_to_terms n ys qs)
    where
      go : (o : Option Replacement) → first_replacement s xs ≡ o
          → ((ys : List Atom) (qs : List Replacement) → AllTerms P ys → All (Ends P) qs
          → AllTerms P (replace_up_to s n ys qs).atoms × All (Ends P) (replace_up_to s n ys qs).repls)
          → let b = replace_step o xs rs (λ ys qs. replace_up_to s n ys qs) in AllTerms P b.atoms × All (Ends P) b.repls
      go none e ih = (h, g)
      go (some r) e ih =
          let k = first_terms P s xs r e h in
          ih (map (replace_atom r) xs) (r ∷ rs) (replace_all_terms P P r (replaced_term_lem r k.1) xs h) ((k.0, k.1), g)

  canonical_terms : (xs : List Atom) (rs : List Replacement) → AllTerms P xs → All (Ends P) rs
      → let c = canonicalize s xs rs in AllTabTerms P c.tabs × All (Ends P) c.repls
  canonical_terms xs rs h g =
      let b = replace_up_to s (length xs) xs rs in
      let k = up_to_terms (length xs) xs rs h g in
      (resolve_terms_lem P s u b.atoms k.0, k.1)

  passes_terms : (n : ℕ) (ts : List Tab) (rs : List Replacement) (k : ℕ) → AllTabTerms P ts → All (Ends P) rs → SettledTerms P (remove_dup_vars s n ts rs k)
  passes_terms zero ts rs k h g = (h, g)
  passes_terms (suc n) ts rs k h g = go (merged [] ts) (merged_terms P [] ts h) (λ us qs j. passes_terms n us qs j)
    where
      go : (es : List Atom) → AllTerms P es
          → ((us : List Tab) (qs : List Replacement) (j : ℕ) → AllTabTerms P us → All (Ends P) qs → SettledTerms P (remove_dup_vars s n us qs j))
          → SettledTerms P (after_pass s es (keep [] ts) rs k (λ us qs j. remove_dup_vars s n us qs j))
      go [] m ih = (keep_terms P [] ts h, g)
      go (x ∷ es) m ih =
          let kept = tabs_terms P (keep [] ts) (keep_terms P [] ts h) in
          let ys = x ∷ es ++ map tab (keep [] ts) in
          let c = canonicalize s ys rs in
          let k' = canonical_terms ys rs (all_append (λ (a : Atom). All P (terms_of a)) (x ∷ es) (map tab (keep [] ts)) m kept) g in
          ih c.tabs c.repls (suc k) k'.0 k'.1

  pub settle_terms : (xs : List Atom) → AllTerms P xs → SettledTerms P (settle s xs)
  settle_terms xs h =
      let c = canonicalize s xs [] in
      let k = canonical_terms xs [] h tt in
      passes_terms (suc (length xs)) c.tabs c.repls 0 k.0 k.1

-- so of fresh variables: each is one of the body's
module _ (s : Sig) (body : List Atom) where
  fresh_of : (w : ℕ) → VarIn s (body_vars s body) w → FreshOf s body w
  fresh_of w f e = f (or_left (is_fresh w) (leb (name_base + s.globals) w) e)

  unit_of : FreshOf s body unit
  unit_of = fresh_of unit (λ v. absurd (false≢true (sym (unit_no_var s) ∙ v)))

  pub settled_fresh : SettledTerms (FreshOf s body) (settle s body)
  settled_fresh =
      settle_terms (FreshOf s body) s unit_of body (all_terms_map (VarIn s (body_vars s body)) (FreshOf s body) fresh_of body (body_in s body))
