-- `replace_all` is one sweep over the body: an equality that was passed never asks for a replacement again, so none is looked at twice.
-- Assumes nothing.
use Prim.Native.Nat.{ℕ, zero, suc, ◌≤◌}
use native.Mathlib.Omega.{arith}
use mathlib.Core.Path.{◌≡◌, refl, sym, ap, ap₂, ◌∙◌}
use mathlib.Core.Bool.{Bool, true, false, cond, false≢true}
use mathlib.Core.List.{List, [], ◌∷◌, ◌++◌, map, append_assoc, append-nil}
use mathlib.Core.Option.{Option, none, some, none-ne-some}
use lib.ListN.{length, length-map}
use borrow.Author.Tests.{ne_eqb}
use Rattle.rules.specs.Signature.{Sig, is_var, same_term}
use Rattle.rules.specs.Flat.{Atom, eqn, tab}
use Rattle.rules.specs.Canonicalize.{Replacement, replace_term, replace_atom, replacement_of, Body, or_else, first_replacement, replace_step, replace_up_to, replace_all}
use Rattle.meaning.proofs.Lists.{map_append}
use Rattle.meaning.proofs.SameTerms.{word_same, same_replaced}
use Rattle.meaning.proofs.CanonicalizeEnds.{asked_same, first_var, nothing_asked}

-- ---- the sweep

-- the replacement that one atom asks for
abbrev pub asks : Sig → Atom → Option Replacement
asks s (eqn p a b) = replacement_of (same_term a b) (is_var s a) (is_var s b) a b
asks s (tab t) = none

-- past the atom x: the replacement that it asks for, if any, is made before it, in it and behind it
abbrev pub sweep_step : Option Replacement → (done : List Atom) → Atom → (todo : List Atom) → List Replacement
    → (List Atom → List Atom → List Replacement → Body) → Body
sweep_step none done x todo rs go = go (done ++ x ∷ []) todo rs
sweep_step (some r) done x todo rs go = go (map (replace_atom r) (done ++ x ∷ [])) (map (replace_atom r) todo) (r ∷ rs)

-- past n atoms
abbrev pub sweep_over : Sig → ℕ → (done todo : List Atom) → List Replacement → Body
sweep_over s zero done todo rs = record { atoms = done ++ todo; repls = rs }
sweep_over s (suc n) done [] rs = record { atoms = done; repls = rs }
sweep_over s (suc n) done (x ∷ todo) rs = sweep_step (asks s x) done x todo rs (λ ds ys qs. sweep_over s n ds ys qs)

-- past all of them
abbrev pub sweep : Sig → List Atom → List Replacement → Body
sweep s xs rs = sweep_over s (length xs) [] xs rs

-- ---- the first that asks

else_assoc : (o p q : Option Replacement) → or_else (or_else o p) q ≡ or_else o (or_else p q)
else_assoc none p q = refl
else_assoc (some r) p q = refl

pub else_none : (o q : Option Replacement) → or_else o q ≡ none → (o ≡ none) × (q ≡ none)
else_none none q k = (refl, k)
else_none (some r) q k = absurd (none-ne-some r (sym k))

first_cons : (s : Sig) (x : Atom) (xs : List Atom) → first_replacement s (x ∷ xs) ≡ or_else (asks s x) (first_replacement s xs)
first_cons s (eqn p a b) xs = refl
first_cons s (tab t) xs = refl

first_append : (s : Sig) (xs ys : List Atom) → first_replacement s (xs ++ ys) ≡ or_else (first_replacement s xs) (first_replacement s ys)
first_append s [] ys = refl
first_append s (x ∷ xs) ys =
    first_cons s x (xs ++ ys) ∙ ap (or_else (asks s x)) (first_append s xs ys) ∙ sym (else_assoc (asks s x) (first_replacement s xs) (first_replacement s ys))
    ∙ ap (λ (o : Option Replacement). or_else o (first_replacement s ys)) (sym (first_cons s x xs))

-- none asks before x
first_here : (s : Sig) (done : List Atom) (x : Atom) (xs : List Atom) (r : Replacement)
    → first_replacement s done ≡ none → asks s x ≡ some r → first_replacement s (done ++ x ∷ xs) ≡ some r
first_here s done x xs r d e =
    first_append s done (x ∷ xs) ∙ ap₂ or_else d (first_cons s x xs ∙ ap (λ (o : Option Replacement). or_else o (first_replacement s xs)) e)

first_past : (s : Sig) (done : List Atom) (x : Atom) → first_replacement s done ≡ none → asks s x ≡ none → first_replacement s (done ++ x ∷ []) ≡ none
first_past s done x d e =
    first_append s done (x ∷ []) ∙ ap₂ or_else d (first_cons s x [] ∙ ap (λ (o : Option Replacement). or_else o none) e)

pub asked_var : (s : Sig) (x : Atom) (r : Replacement) → asks s x ≡ some r → is_var s r.old ≡ true
asked_var s x r e = first_var s (x ∷ []) r (first_cons s x [] ∙ ap (λ (o : Option Replacement). or_else o none) e)

-- ---- after a replacement

-- a term that is no variable stays
other_stays : (s : Sig) (r : Replacement) (t : ℕ) → is_var s r.old ≡ true → is_var s t ≡ false → replace_term r t ≡ t
other_stays s r t v n = ap (λ (c : Bool). cond c r.new t) (ne_eqb t r.old (λ e. false≢true (sym n ∙ ap (is_var s) e ∙ v)))

-- an equality of equal terms asks for nothing
same_asks : (s : Sig) (p a b : ℕ) → same_term a b ≡ true → asks s (eqn p a b) ≡ none
same_asks s p a b e = ap (λ (c : Bool). replacement_of c (is_var s a) (is_var s b) a b) e

-- what asks for nothing asks for nothing now
none_later : (s : Sig) (r : Replacement) (x : Atom) → is_var s r.old ≡ true → asks s x ≡ none → asks s (replace_atom r x) ≡ none
none_later s r (tab t) v e = refl
none_later s r (eqn p a b) v e = go (same_term a b) refl (is_var s a) refl (is_var s b) refl e
  where
    go : (c : Bool) → same_term a b ≡ c → (l : Bool) → is_var s a ≡ l → (m : Bool) → is_var s b ≡ m → replacement_of c l m a b ≡ none
        → asks s (eqn p (replace_term r a) (replace_term r b)) ≡ none
    go true q l el m em k = same_asks s p (replace_term r a) (replace_term r b) (same_replaced s r v a b q)
    go false q true el m em k = absurd (none-ne-some _ (sym k))
    go false q false el true em k = absurd (none-ne-some _ (sym k))
    go false q false el false em k = ap₂ (λ (x y : ℕ). asks s (eqn p x y)) (other_stays s r a v el) (other_stays s r b v em) ∙ e

-- nor does the equality that asked
asked_later : (s : Sig) (x : Atom) (r : Replacement) → asks s x ≡ some r → asks s (replace_atom r x) ≡ none
asked_later s (tab t) r e = refl
asked_later s (eqn p a b) r e = go (same_term a b) e
  where
    go : (c : Bool) → replacement_of c (is_var s a) (is_var s b) a b ≡ some r → asks s (eqn p (replace_term r a) (replace_term r b)) ≡ none
    go true k = absurd (none-ne-some r k)
    go false k =
        same_asks s p (replace_term r a) (replace_term r b) (word_same (replace_term r a) (replace_term r b) (asked_same (is_var s a) (is_var s b) a b r k))

first_later : (s : Sig) (r : Replacement) (xs : List Atom) → is_var s r.old ≡ true → first_replacement s xs ≡ none → first_replacement s (map (replace_atom r) xs) ≡ none
first_later s r [] v e = refl
first_later s r (x ∷ xs) v e =
    let p = else_none (asks s x) (first_replacement s xs) (sym (first_cons s x xs) ∙ e) in
    first_cons s (replace_atom r x) (map (replace_atom r) xs) ∙ ap₂ or_else (none_later s r x v p.0) (first_later s r xs v p.1)

-- ---- a sweep on its way, as code goes: nothing in `done` asks, and with what is to do it comes to what is wanted

pub record Sweeping (s : Sig) (all : List Atom) (rs₀ : List Replacement) (done todo : List Atom) (rs : List Replacement) : Type 0 where
  pub fuel : ℕ
  pub enough : length todo ≤ fuel
  pub calm : first_replacement s done ≡ none
  pub same : replace_up_to s fuel (done ++ todo) rs ≡ replace_all s all rs₀

pub sweep_start : (s : Sig) (xs : List Atom) (rs : List Replacement) → Sweeping s xs rs [] xs rs
sweep_start s xs rs = record { fuel = length xs; enough = omega arith; calm = refl; same = refl }

module _ (s : Sig) (all : List Atom) (rs₀ : List Replacement) (done : List Atom) where
  -- an atom that asks for nothing is passed
  pub sweep_past : (x : Atom) (xs : List Atom) (rs : List Replacement)
      → Sweeping s all rs₀ done (x ∷ xs) rs → asks s x ≡ none → Sweeping s all rs₀ (done ++ x ∷ []) xs rs
  sweep_past x xs rs w e =
      record {
        fuel = w.fuel;
        enough = omega (arith, w.enough);
        calm = first_past s done x w.calm e;
        same = ap (λ (l : List Atom). replace_up_to s w.fuel l rs) (append_assoc done (x ∷ []) xs) ∙ w.same;
      }

  -- one that asks is replaced with all others, and passed
  pub sweep_replaced : (x : Atom) (xs : List Atom) (rs : List Replacement) (r : Replacement)
      → Sweeping s all rs₀ done (x ∷ xs) rs → asks s x ≡ some r
      → Sweeping s all rs₀ (map (replace_atom r) (done ++ x ∷ [])) (map (replace_atom r) xs) (r ∷ rs)
  sweep_replaced x xs rs r w e = go w.fuel w.enough w.same
    where
      past : map (replace_atom r) (done ++ x ∷ []) ≡ map (replace_atom r) done ++ replace_atom r x ∷ []
      past = map_append (replace_atom r) done (x ∷ [])

      whole : map (replace_atom r) (done ++ x ∷ []) ++ map (replace_atom r) xs ≡ map (replace_atom r) (done ++ x ∷ xs)
      whole = sym (map_append (replace_atom r) (done ++ x ∷ []) xs) ∙ ap (map (replace_atom r)) (append_assoc done (x ∷ []) xs)

      go : (n : ℕ) → suc (length xs) ≤ n → replace_up_to s n (done ++ x ∷ xs) rs ≡ replace_all s all rs₀
          → Sweeping s all rs₀ (map (replace_atom r) (done ++ x ∷ [])) (map (replace_atom r) xs) (r ∷ rs)
      go zero h k = absurd (omega arith)
      go (suc n) h k =
          record {
            fuel = n;
            enough = omega (arith, length-map xs (replace_atom r));
            calm =
                ap (first_replacement s) past
                ∙ first_past s (map (replace_atom r) done) (replace_atom r x) (first_later s r done (asked_var s x r e) w.calm) (asked_later s x r e);
            same =
                ap (λ (l : List Atom). replace_up_to s n l (r ∷ rs)) whole
                ∙ ap (λ (o : Option Replacement). replace_step o (done ++ x ∷ xs) rs (λ ys qs. replace_up_to s n ys qs)) (sym (first_here s done x xs r w.calm e))
                ∙ k;
          }

  -- nothing is left to do
  pub sweep_end : (rs : List Replacement) → Sweeping s all rs₀ done [] rs → record { atoms = done; repls = rs } ≡ replace_all s all rs₀
  sweep_end rs w =
      sym (nothing_asked s w.fuel done rs w.calm) ∙ ap (λ (l : List Atom). replace_up_to s w.fuel l rs) (sym (append-nil done)) ∙ w.same

-- ---- the whole sweep

sweep_over_lem : (s : Sig) (all : List Atom) (rs₀ : List Replacement) (n : ℕ) (done todo : List Atom) (rs : List Replacement) → length todo ≤ n
    → Sweeping s all rs₀ done todo rs → sweep_over s n done todo rs ≡ replace_all s all rs₀
sweep_over_lem s all rs₀ zero done [] rs h w =
    ap (λ (l : List Atom). record { atoms = l; repls = rs }) (append-nil done) ∙ sweep_end s all rs₀ done rs w
sweep_over_lem s all rs₀ zero done (x ∷ xs) rs h w = absurd (omega arith)
sweep_over_lem s all rs₀ (suc n) done [] rs h w = sweep_end s all rs₀ done rs w
sweep_over_lem s all rs₀ (suc n) done (x ∷ xs) rs h w = go (asks s x) refl (λ ds ys qs. sweep_over_lem s all rs₀ n ds ys qs)
  where
    go : (o : Option Replacement) → asks s x ≡ o
        → ((ds ys : List Atom) (qs : List Replacement) → length ys ≤ n → Sweeping s all rs₀ ds ys qs → sweep_over s n ds ys qs ≡ replace_all s all rs₀)
        → sweep_step o done x xs rs (λ ds ys qs. sweep_over s n ds ys qs) ≡ replace_all s all rs₀
    go none e ih = ih (done ++ x ∷ []) xs rs (omega arith) (sweep_past s all rs₀ done x xs rs w e)
    go (some r) e ih =
        ih (map (replace_atom r) (done ++ x ∷ [])) (map (replace_atom r) xs) (r ∷ rs) (let l = length-map xs (replace_atom r) in omega arith)
        (sweep_replaced s all rs₀ done x xs rs r w e)

pub sweep_is_replace_all : (s : Sig) (xs : List Atom) (rs : List Replacement) → sweep s xs rs ≡ replace_all s xs rs
sweep_is_replace_all s xs rs = sweep_over_lem s xs rs (length xs) [] xs rs (omega arith) (sweep_start s xs rs)
