-- Settling asks of a signature only G and the value-eq head.
-- Assumes nothing.
use Prim.Native.Nat.{ℕ, zero, suc}
use mathlib.Core.Path.{◌≡◌, refl, sym, ap, ap₂, ◌∙◌}
use mathlib.Core.Bool.{Bool, true, false}
use mathlib.Core.List.{List, [], ◌∷◌, ◌++◌, map}
use mathlib.Core.Option.{Option, none, some}
use lib.ListN.{length}
use Rattle.rules.specs.Signature.{Sig, is_var, same_term}
use Rattle.rules.specs.Flat.{Tab, Atom, eqn, tab}
use Rattle.rules.specs.Canonicalize.{Replacement, replace_atom, replacement_of, or_else, first_replacement, Body}
use Rattle.rules.specs.Canonicalize.{replace_step, replace_up_to, replace_all, resolve_eq, resolve, Canonical, canonicalize}
use Rattle.rules.specs.RemoveDupVars.{keep, merged, after_pass, remove_dup_vars, settle}
use Rattle.meaning.specs.Signatures.{sig_of}

module _ (s : Sig) where
  abbrev plain : Sig
  plain = sig_of s.globals s.value_eq

  first_sig : (xs : List Atom) → first_replacement s xs ≡ first_replacement plain xs
  first_sig [] = refl
  first_sig (tab t ∷ xs) = first_sig xs
  first_sig (eqn p a b ∷ xs) = ap (or_else (replacement_of (same_term a b) (is_var s a) (is_var s b) a b)) (first_sig xs)

  replace_sig : (n : ℕ) (xs : List Atom) (rs : List Replacement) → replace_up_to s n xs rs ≡ replace_up_to plain n xs rs
  replace_sig zero xs rs = refl
  replace_sig (suc n) xs rs =
      go (first_replacement s xs) (λ ys qs. replace_sig n ys qs)
      ∙ ap (λ (o : Option Replacement). replace_step o xs rs (λ ys qs. replace_up_to plain n ys qs)) (first_sig xs)
    where
      go : (o : Option Replacement) → ((ys : List Atom) (qs : List Replacement) → replace_up_to s n ys qs ≡ replace_up_to plain n ys qs)
          → replace_step o xs rs (λ ys qs. replace_up_to s n ys qs) ≡ replace_step o xs rs (λ ys qs. replace_up_to plain n ys qs)
      go none ih = refl
      go (some r) ih = ih (map (replace_atom r) xs) (r ∷ rs)

  resolve_sig : (xs : List Atom) → resolve s xs ≡ resolve plain xs
  resolve_sig [] = refl
  resolve_sig (tab t ∷ xs) = ap (λ (l : List Tab). t ∷ l) (resolve_sig xs)
  resolve_sig (eqn p a b ∷ xs) = ap (resolve_eq s (same_term a b) p a b) (resolve_sig xs) ∙ go (same_term a b)
    where
      go : (c : Bool) → resolve_eq s c p a b (resolve plain xs) ≡ resolve_eq plain c p a b (resolve plain xs)
      go true = refl
      go false = refl

  pub canonicalize_sig : (xs : List Atom) (rs : List Replacement) → canonicalize s xs rs ≡ canonicalize plain xs rs
  canonicalize_sig xs rs =
      ap (λ (ts : List Tab). record { tabs = ts; repls = (replace_all s xs rs).repls }) (resolve_sig (replace_all s xs rs).atoms)
      ∙ ap (λ (b : Body). record { tabs = resolve plain b.atoms; repls = b.repls }) (replace_sig (length xs) xs rs)

  passes_sig : (n : ℕ) (ts : List Tab) (rs : List Replacement) (k : ℕ) → remove_dup_vars s n ts rs k ≡ remove_dup_vars plain n ts rs k
  passes_sig zero ts rs k = refl
  passes_sig (suc n) ts rs k = go (merged [] ts) (λ us qs j. passes_sig n us qs j)
    where
      go : (es : List Atom) → ((us : List Tab) (qs : List Replacement) (j : ℕ) → remove_dup_vars s n us qs j ≡ remove_dup_vars plain n us qs j)
          → after_pass s es (keep [] ts) rs k (λ us qs j. remove_dup_vars s n us qs j) ≡ after_pass plain es (keep [] ts) rs k (λ us qs j. remove_dup_vars plain n us qs j)
      go [] ih = refl
      go (e ∷ es) ih =
          let ys = e ∷ es ++ map tab (keep [] ts) in
          let c = canonicalize s ys rs in
          ih c.tabs c.repls (suc k)
          ∙ ap (λ (d : Canonical). remove_dup_vars plain n d.tabs d.repls (suc k)) (canonicalize_sig ys rs)

  pub settle_sig : (xs : List Atom) → settle s xs ≡ settle (sig_of s.globals s.value_eq) xs
  settle_sig xs =
      let c = canonicalize s xs [] in
      passes_sig (suc (length xs)) c.tabs c.repls 0
      ∙ ap (λ (d : Canonical). remove_dup_vars plain (suc (length xs)) d.tabs d.repls 0) (canonicalize_sig xs [])

-- two signatures with one G and one value-eq head settle alike
pub settle_same_sig : (s t : Sig) (xs : List Atom) → s.globals ≡ t.globals → s.value_eq ≡ t.value_eq → settle s xs ≡ settle t xs
settle_same_sig s t xs g v = settle_sig s xs ∙ ap₂ (λ (n h : ℕ). settle (sig_of n h) xs) g v ∙ sym (settle_sig t xs)
