-- The output variables of small atoms, which have one input or none. Each of them, once settled, was replaced or is still the output of a small atom.
--
-- A small atom weighs more than its words. This is what lets the bound on results be as low as it is: where the small atoms of a body have outputs of
-- their own, as fresh variables are, the weight that their words don't need is not used up in full.
-- Assumes nothing.
use Prim.Native.Nat.{ℕ, zero, suc}
use mathlib.Core.Path.{◌≡◌, refl, sym, ◌∙◌, ap, ap₂, subst}
use mathlib.Core.Bool.{Bool, true, false, cond, ◌&&◌, ◌||◌, false≢true}
use mathlib.Core.List.{List, [], ◌∷◌, ◌++◌, map}
use mathlib.Core.Option.{Option, none, some, none-ne-some}
use lib.ListN.{length, length-map}
use lib.Dec.{eqb, leb}
use borrow.Author.Tests.{eqb-true, eq-eqb}
use Rattle.rules.specs.Signature.{Sig, is_var, same_term, elem}
use Rattle.rules.specs.Flat.{Tab, Atom, eqn, tab}
use Rattle.rules.specs.Canonicalize.{Replacement, replace_term, replace_atom, replacement_of, first_replacement, replace_step, replace_up_to, replace_all, resolve_eq, resolve, canonicalize}
use Rattle.meaning.proofs.Lists.{and_left, and_right, or_left, or_right}
use Rattle.meaning.proofs.SameTerms.{same_as_var}
use Rattle.meaning.proofs.DistinctWords.{elem_left, elem_right}
use Rattle.meaning.proofs.CanonicalizeEnds.{replace_all_ends}
use Rattle.meaning.proofs.Replacements.{olds}
use Rattle.meaning.proofs.Sweep.{else_none}

-- ---- small atoms, and equalities by their terms

abbrev pub is_small : Tab → Bool
is_small t = leb (length t.ins) 1

abbrev pub cons_if : Bool → ℕ → List ℕ → List ℕ
cons_if true w ws = w ∷ ws
cons_if false w ws = ws

abbrev pub small_outs : List Tab → List ℕ
small_outs [] = []
small_outs (t ∷ ts) = cons_if (is_small t) t.out (small_outs ts)

abbrev pub small_outs_in : List Atom → List ℕ
small_outs_in [] = []
small_outs_in (eqn p a b ∷ xs) = small_outs_in xs
small_outs_in (tab t ∷ xs) = cons_if (is_small t) t.out (small_outs_in xs)

-- an equality with these terms is there
abbrev pub has_eqn : ℕ → ℕ → List Atom → Bool
has_eqn w u [] = false
has_eqn w u (eqn p a b ∷ xs) = (eqb w a && eqb u b) || has_eqn w u xs
has_eqn w u (tab t ∷ xs) = has_eqn w u xs

pub eqn_left : (w u : ℕ) (xs ys : List Atom) → has_eqn w u xs ≡ true → has_eqn w u (xs ++ ys) ≡ true
eqn_left w u [] ys h = absurd (false≢true h)
eqn_left w u (tab t ∷ xs) ys h = eqn_left w u xs ys h
eqn_left w u (eqn p a b ∷ xs) ys h = go (eqb w a && eqb u b) h (λ k. eqn_left w u xs ys k)
  where
    go : (c : Bool) → (c || has_eqn w u xs) ≡ true → (has_eqn w u xs ≡ true → has_eqn w u (xs ++ ys) ≡ true) → (c || has_eqn w u (xs ++ ys)) ≡ true
    go true k ih = refl
    go false k ih = ih k

pub eqn_right : (w u : ℕ) (xs ys : List Atom) → has_eqn w u ys ≡ true → has_eqn w u (xs ++ ys) ≡ true
eqn_right w u [] ys h = h
eqn_right w u (tab t ∷ xs) ys h = eqn_right w u xs ys h
eqn_right w u (eqn p a b ∷ xs) ys h = or_right (eqb w a && eqb u b) (has_eqn w u (xs ++ ys)) (eqn_right w u xs ys h)

pub cons_kept : (c : Bool) (u w : ℕ) (ws : List ℕ) → elem u ws ≡ true → elem u (cons_if c w ws) ≡ true
cons_kept true u w ws h = or_right (eqb u w) (elem u ws) h
cons_kept false u w ws h = h

pub cons_first : (c : Bool) (u w : ℕ) (ws : List ℕ) → c ≡ true → eqb u w ≡ true → elem u (cons_if c w ws) ≡ true
cons_first c u w ws e h = subst (λ (d : Bool). elem u (cons_if d w ws) ≡ true) (sym e) (or_left (eqb u w) (elem u ws) h)

-- ---- through replacements

-- a variable was replaced, or it is the output of a small atom, or an equality makes it one
pub data Kept (xs : List Atom) (rs : List Replacement) (u : ℕ) : Type 0 where
  taken : elem u (olds rs) ≡ true → Kept xs rs u
  is_out : elem u (small_outs_in xs) ≡ true → Kept xs rs u
  is_next : (w : ℕ) → elem w (small_outs_in xs) ≡ true → has_eqn w u xs ≡ true → Kept xs rs u

module _ (r : Replacement) where
  same_later : (a b : ℕ) → eqb a b ≡ true → eqb (replace_term r a) (replace_term r b) ≡ true
  same_later a b e = eq-eqb (replace_term r a) (replace_term r b) (ap (replace_term r) (eqb-true a b e))

  elem_later : (w : ℕ) (ws : List ℕ) → elem w ws ≡ true → elem (replace_term r w) (map (replace_term r) ws) ≡ true
  elem_later w [] h = absurd (false≢true h)
  elem_later w (x ∷ ws) h = go (eqb w x) refl h (λ k. elem_later w ws k)
    where
      rest : Bool
      rest = elem (replace_term r w) (map (replace_term r) ws)

      go : (c : Bool) → eqb w x ≡ c → (c || elem w ws) ≡ true → (elem w ws ≡ true → rest ≡ true) → (eqb (replace_term r w) (replace_term r x) || rest) ≡ true
      go true e k ih = or_left (eqb (replace_term r w) (replace_term r x)) rest (same_later w x e)
      go false e k ih = or_right (eqb (replace_term r w) (replace_term r x)) rest (ih k)

  outs_later : (xs : List Atom) → small_outs_in (map (replace_atom r) xs) ≡ map (replace_term r) (small_outs_in xs)
  outs_later [] = refl
  outs_later (eqn p a b ∷ xs) = outs_later xs
  outs_later (tab t ∷ xs) =
      ap (λ (n : ℕ). cons_if (leb n 1) (replace_term r t.out) (small_outs_in (map (replace_atom r) xs))) (length-map t.ins (replace_term r))
      ∙ go (is_small t) (outs_later xs)
    where
      go : (c : Bool) → small_outs_in (map (replace_atom r) xs) ≡ map (replace_term r) (small_outs_in xs)
          → cons_if c (replace_term r t.out) (small_outs_in (map (replace_atom r) xs)) ≡ map (replace_term r) (cons_if c t.out (small_outs_in xs))
      go true ih = ap (λ (l : List ℕ). replace_term r t.out ∷ l) ih
      go false ih = ih

  eqn_later : (w u : ℕ) (xs : List Atom) → has_eqn w u xs ≡ true → has_eqn (replace_term r w) (replace_term r u) (map (replace_atom r) xs) ≡ true
  eqn_later w u [] h = absurd (false≢true h)
  eqn_later w u (tab t ∷ xs) h = eqn_later w u xs h
  eqn_later w u (eqn p a b ∷ xs) h = go (eqb w a && eqb u b) refl h (λ k. eqn_later w u xs k)
    where
      here : Bool
      here = eqb (replace_term r w) (replace_term r a) && eqb (replace_term r u) (replace_term r b)

      rest : Bool
      rest = has_eqn (replace_term r w) (replace_term r u) (map (replace_atom r) xs)

      go : (c : Bool) → (eqb w a && eqb u b) ≡ c → (c || has_eqn w u xs) ≡ true → (has_eqn w u xs ≡ true → rest ≡ true) → (here || rest) ≡ true
      go true e k ih =
          or_left here rest (ap₂ ◌&&◌ (same_later w a (and_left (eqb w a) (eqb u b) e)) (same_later u b (and_right (eqb w a) (eqb u b) e)))
      go false e k ih = or_right here rest (ih k)

  kept_later : (xs : List Atom) (rs : List Replacement) (u : ℕ) → Kept xs rs u → Kept (map (replace_atom r) xs) (r ∷ rs) u
  kept_later xs rs u = go (eqb u r.old) refl
    where
      out_later : (w : ℕ) → elem w (small_outs_in xs) ≡ true → elem (replace_term r w) (small_outs_in (map (replace_atom r) xs)) ≡ true
      out_later w h = subst (λ (l : List ℕ). elem (replace_term r w) l ≡ true) (sym (outs_later xs)) (elem_later w (small_outs_in xs) h)

      go : (c : Bool) → eqb u r.old ≡ c → Kept xs rs u → Kept (map (replace_atom r) xs) (r ∷ rs) u
      go true e k = taken (or_left (eqb u r.old) (elem u (olds rs)) e)
      go false e (taken h) = taken (or_right (eqb u r.old) (elem u (olds rs)) h)
      go false e (is_out h) =
          is_out (subst (λ (v : ℕ). elem v (small_outs_in (map (replace_atom r) xs)) ≡ true) (ap (λ (c : Bool). cond c r.new u) e) (out_later u h))
      go false e (is_next w h k) =
          is_next (replace_term r w) (out_later w h)
          (subst (λ (v : ℕ). has_eqn (replace_term r w) v (map (replace_atom r) xs) ≡ true) (ap (λ (c : Bool). cond c r.new u) e) (eqn_later w u xs k))

kept_up_to : (s : Sig) (n : ℕ) (xs : List Atom) (rs : List Replacement) (u : ℕ) → Kept xs rs u
    → let b = replace_up_to s n xs rs in Kept b.atoms b.repls u
kept_up_to s zero xs rs u k = k
kept_up_to s (suc n) xs rs u k = go (first_replacement s xs) (λ ys qs. kept_up_to s n ys qs u)
  where
    go : (o : Option Replacement)
        → ((ys : List Atom) (qs : List Replacement) → Kept ys qs u → let b = replace_up_to s n ys qs in Kept b.atoms b.repls u)
        → let b = replace_step o xs rs (λ ys qs. replace_up_to s n ys qs) in Kept b.atoms b.repls u
    go none ih = k
    go (some r) ih = ih (map (replace_atom r) xs) (r ∷ rs) (kept_later r xs rs u k)

-- ---- where no equality asks for a replacement

outs_resolved : (s : Sig) (xs : List Atom) → small_outs (resolve s xs) ≡ small_outs_in xs
outs_resolved s [] = refl
outs_resolved s (tab t ∷ xs) = ap (cons_if (is_small t) t.out) (outs_resolved s xs)
outs_resolved s (eqn p a b ∷ xs) = go (same_term a b) (outs_resolved s xs)
  where
    go : (c : Bool) → small_outs (resolve s xs) ≡ small_outs_in xs → small_outs (resolve_eq s c p a b (resolve s xs)) ≡ small_outs_in xs
    go true ih = ih
    go false ih = ih

-- an equality with a variable on the right has equal terms
none_same : (s : Sig) (w u : ℕ) (xs : List Atom) → is_var s u ≡ true → first_replacement s xs ≡ none → has_eqn w u xs ≡ true → w ≡ u
none_same s w u [] v e h = absurd (false≢true h)
none_same s w u (tab t ∷ xs) v e h = none_same s w u xs v e h
none_same s w u (eqn p a b ∷ xs) v e h =
    let k = else_none (replacement_of (same_term a b) (is_var s a) (is_var s b) a b) (first_replacement s xs) e in
    go (eqb w a && eqb u b) refl h k.0 (λ l. none_same s w u xs v k.1 l)
  where
    equal : (c l m : Bool) → same_term a b ≡ c → is_var s b ≡ m → m ≡ true → replacement_of c l m a b ≡ none → a ≡ b
    equal true l m e f q k = same_as_var s a b (f ∙ q) e
    equal false true m e f q k = absurd (none-ne-some _ (sym k))
    equal false false true e f q k = absurd (none-ne-some _ (sym k))
    equal false false false e f q k = absurd (false≢true q)

    go : (c : Bool) → (eqb w a && eqb u b) ≡ c → (c || has_eqn w u xs) ≡ true
        → replacement_of (same_term a b) (is_var s a) (is_var s b) a b ≡ none → (has_eqn w u xs ≡ true → w ≡ u) → w ≡ u
    go true q l n ih =
        let wa = eqb-true w a (and_left (eqb w a) (eqb u b) q) in
        let ub = eqb-true u b (and_right (eqb w a) (eqb u b) q) in
        wa ∙ equal (same_term a b) (is_var s a) (is_var s b) refl refl (ap (is_var s) (sym ub) ∙ v) n ∙ sym ub
    go false q l n ih = ih l

-- replaced, or the output of a small atom
abbrev pub TakenOrOut : List Tab → List Replacement → ℕ → Type 0
TakenOrOut ts rs u = elem u (olds rs ++ small_outs ts) ≡ true

out_resolved : (s : Sig) (xs : List Atom) (rs : List Replacement) (u : ℕ) → elem u (small_outs_in xs) ≡ true → TakenOrOut (resolve s xs) rs u
out_resolved s xs rs u h =
    elem_right u (olds rs) (small_outs (resolve s xs)) (subst (λ (l : List ℕ). elem u l ≡ true) (sym (outs_resolved s xs)) h)

pub kept_resolved : (s : Sig) (xs : List Atom) (rs : List Replacement) (u : ℕ) → is_var s u ≡ true → first_replacement s xs ≡ none
    → Kept xs rs u → TakenOrOut (resolve s xs) rs u
kept_resolved s xs rs u v e (taken h) = elem_left u (olds rs) (small_outs (resolve s xs)) h
kept_resolved s xs rs u v e (is_out h) = out_resolved s xs rs u h
kept_resolved s xs rs u v e (is_next w h k) =
    out_resolved s xs rs u (subst (λ (x : ℕ). elem x (small_outs_in xs) ≡ true) (none_same s w u xs v e k) h)

pub kept_canonicalized : (s : Sig) (xs : List Atom) (rs : List Replacement) (u : ℕ) → is_var s u ≡ true → Kept xs rs u
    → let c = canonicalize s xs rs in TakenOrOut c.tabs c.repls u
kept_canonicalized s xs rs u v k =
    let b = replace_all s xs rs in
    kept_resolved s b.atoms b.repls u v (replace_all_ends s xs rs) (kept_up_to s (length xs) xs rs u k)
