-- A property of all terms of a body is kept by the steps of settling: they make no term but Unit.
-- Assumes nothing.
use Prim.Native.Nat.{ℕ}
use mathlib.Core.Path.{◌≡◌, refl, sym, subst}
use mathlib.Core.Bool.{Bool, true, false, not, ◌&&◌}
use mathlib.Core.List.{List, [], ◌∷◌, ◌++◌, map}
use mathlib.Core.Option.{some, some-injective, none-ne-some}
use Rattle.rules.specs.Words.{unit}
use Rattle.rules.specs.Signature.{Sig, is_var, same_term}
use Rattle.rules.specs.Flat.{Tab, Atom, eqn, tab}
use Rattle.rules.specs.ToQuery.{terms_of}
use Rattle.rules.specs.Canonicalize.{Replacement, replace_term, replace_atom, replacement_of, or_else, first_replacement, resolve_eq, resolve}
use Rattle.rules.specs.RemoveDupVars.{alike, seen, keep, clashes, merged}
use Rattle.meaning.specs.Meaning.{All}
use Rattle.meaning.proofs.Lists.{cond_both, all_append, all_left, all_right, all_map}
use Rattle.meaning.proofs.SameTerms.{other_word}
use Rattle.meaning.proofs.MergePass.{keep_all}

-- a property of each term of each atom
abbrev pub AllTerms : (ℕ → Type 0) → List Atom → Type 0
AllTerms P xs = All (λ (x : Atom). All P (terms_of x)) xs

abbrev pub AllTabTerms : (ℕ → Type 0) → List Tab → Type 0
AllTabTerms P ts = All (λ (t : Tab). All P (terms_of (tab t))) ts

pub all_terms_map : (P Q : ℕ → Type 0) → ((w : ℕ) → P w → Q w) → (xs : List Atom) → AllTerms P xs → AllTerms Q xs
all_terms_map P Q f xs h = all_map (λ (x : Atom). All P (terms_of x)) (λ (x : Atom). All Q (terms_of x)) (λ x k. all_map P Q f (terms_of x) k) xs h

module _ (P : ℕ → Type 0) where
  pub resolve_terms_lem : (s : Sig) → P unit → (xs : List Atom) → AllTerms P xs → AllTabTerms P (resolve s xs)
  resolve_terms_lem s u [] h = tt
  resolve_terms_lem s u (tab t ∷ xs) h = (h.0, resolve_terms_lem s u xs h.1)
  resolve_terms_lem s u (eqn p a b ∷ xs) h = go (same_term a b) (resolve_terms_lem s u xs h.1)
    where
      go : (c : Bool) → AllTabTerms P (resolve s xs) → AllTabTerms P (resolve_eq s c p a b (resolve s xs))
      go true ih = ih
      go false ih = ((h.0.0, (h.0.1.0, (u, tt))), ih)

  pub keep_terms : (fs ts : List Tab) → AllTabTerms P ts → AllTabTerms P (keep fs ts)
  keep_terms fs ts h = keep_all (λ (t : Tab). All P (terms_of (tab t))) fs ts h

  pub out_term : (t : Tab) → All P (terms_of (tab t)) → P t.out
  out_term t h = (all_right P t.ins (t.out ∷ []) h).0

  clashes_terms : (a : Tab) (xs : List Tab) → P a.out → AllTabTerms P xs → AllTerms P (clashes a xs)
  clashes_terms a [] p h = tt
  clashes_terms a (b ∷ xs) p h =
      let rest = clashes_terms a xs p h.1 in
      cond_both (AllTerms P) (alike a b && not (same_term a.out b.out)) (eqn 0 a.out b.out ∷ clashes a xs) (clashes a xs) ((p, (out_term b h.0, tt)), rest) rest

  pub merged_terms : (fs ts : List Tab) → AllTabTerms P ts → AllTerms P (merged fs ts)
  merged_terms fs [] h = tt
  merged_terms fs (a ∷ xs) h =
      cond_both (AllTerms P) (seen a fs) (merged fs xs) (clashes a xs ++ merged (a ∷ fs) xs) (merged_terms fs xs h.1)
      (all_append (λ (x : Atom). All P (terms_of x)) (clashes a xs) (merged (a ∷ fs) xs) (clashes_terms a xs (out_term a h.0) h.1) (merged_terms (a ∷ fs) xs h.1))

  pub tabs_terms : (ts : List Tab) → AllTabTerms P ts → AllTerms P (map tab ts)
  tabs_terms [] h = tt
  tabs_terms (t ∷ ts) h = (h.0, tabs_terms ts h.1)

  -- both terms of a replacement are the body's, and they are unlike
  pub first_terms : (s : Sig) (xs : List Atom) (r : Replacement) → first_replacement s xs ≡ some r → AllTerms P xs → P r.old × P r.new × (r.new ≡ r.old → ⊥)
  first_terms s [] r e h = absurd (none-ne-some r e)
  first_terms s (tab t ∷ xs) r e h = first_terms s xs r e h.1
  first_terms s (eqn p a b ∷ xs) r e h = go (same_term a b) refl (is_var s a) (is_var s b) (λ k. first_terms s xs r k h.1) e
    where
      Both : Replacement → Type 0
      Both q = P q.old × P q.new × (q.new ≡ q.old → ⊥)

      go : (c : Bool) → same_term a b ≡ c → (l m : Bool) → (first_replacement s xs ≡ some r → Both r) → or_else (replacement_of c l m a b) (first_replacement s xs) ≡ some r → Both r
      go true c l m ih k = ih k
      go false c true m ih k = subst Both (some-injective _ _ k) (h.0.0, h.0.1.0, λ e. other_word a b c (sym e))
      go false c false true ih k = subst Both (some-injective _ _ k) (h.0.1.0, h.0.0, other_word a b c)
      go false c false false ih k = ih k

-- each term of a body goes to one with another property
module _ (P Q : ℕ → Type 0) (r : Replacement) (f : (t : ℕ) → P t → Q (replace_term r t)) where
  replace_terms : (ts : List ℕ) → All P ts → All Q (map (replace_term r) ts)
  replace_terms [] h = tt
  replace_terms (t ∷ ts) h = (f t h.0, replace_terms ts h.1)

  pub replace_all_terms : (xs : List Atom) → AllTerms P xs → AllTerms Q (map (replace_atom r) xs)
  replace_all_terms [] h = tt
  replace_all_terms (eqn p a b ∷ xs) h = (replace_terms (a ∷ b ∷ []) h.0, replace_all_terms xs h.1)
  replace_all_terms (tab t ∷ xs) h = (
    all_append Q (map (replace_term r) t.ins) (replace_term r t.out ∷ [])
        (replace_terms t.ins (all_left P t.ins (t.out ∷ []) h.0))
        (f t.out (out_term P t h.0), tt),
    replace_all_terms xs h.1,
  )
