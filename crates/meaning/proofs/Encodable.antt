-- Heads and counts that fit their words still do so after a replacement, and after equalities are resolved, where the value-eq head fits. What lowering
-- gives has such heads and counts, and so has what is read. Assumes nothing.
use Prim.Native.Nat.{ℕ, zero, suc, ◌-◌, ◌≤◌, ◌<◌}
use native.Mathlib.Omega.{arith}
use mathlib.Core.Path.{◌≡◌, refl, sym, ap, subst}
use mathlib.Core.Bool.{Bool, true, false, cond}
use mathlib.Core.List.{List, [], ◌∷◌, map}
use lib.ListN.{length, length-map, get_or}
use lib.Dec.{eqb, ltb, leb}
use borrow.Author.Tests.{eqb-false}
use Rattle.rules.specs.Words.{limit12, limit16, max_written, equality_word, is_head_word, is_equality_word, is_header_word, count_of, facts_of, actions_of}
use Rattle.rules.specs.Refusals.{ok, unfit, no_terms, not_two}
use Rattle.rules.specs.Signature.{Sig, heads, same_term, read_signature}
use Rattle.rules.specs.Written.{Rule, Read, Reader, read_word, read_row, read_written}
use Rattle.rules.specs.Flat.{Atom, eqn, tab, FlatRule, read_term, is_pair, is_odd, is_table, is_empty, is_none, read_atom_shape, read_atom, read_core_action, read_flat}
use Rattle.rules.specs.ToQuery.{Query, to_query}
use Rattle.rules.specs.Canonicalize.{Replacement, replace_term, replace_atom, resolve_eq, resolve}
use Rattle.meaning.specs.Meaning.{All}
use Rattle.meaning.specs.ReadBack.{EncodableTab, Encodable}
use Rattle.meaning.proofs.Results.{refuse_ok, ok_inj, bind_ok, demand_ok}
use Rattle.meaning.proofs.SignatureLaws.{signature_sound}
use Rattle.meaning.proofs.Reading.{head_below, Reads, reads_row, written_formed}
use Rattle.meaning.proofs.Fits.{FitAtom, query_fits}

-- well-formed atoms of a signature with at most 4,096 heads
pub fit_encodable : (s : Sig) → heads s ≤ limit12 → (xs : List Atom) → All (FitAtom s) xs → All Encodable xs
fit_encodable s h [] f = tt
fit_encodable s h (eqn p a b ∷ xs) f = (tt, fit_encodable s h xs f.1)
fit_encodable s h (tab t ∷ xs) f = ((omega (arith, f.0.ins.head), f.0.ins.few), fit_encodable s h xs f.1)

pub replaced_encodable : (r : Replacement) (xs : List Atom) → All Encodable xs → All Encodable (map (replace_atom r) xs)
replaced_encodable r [] h = tt
replaced_encodable r (eqn p a b ∷ xs) h = (tt, replaced_encodable r xs h.1)
replaced_encodable r (tab t ∷ xs) h =
    ((h.0.0, subst (λ (n : ℕ). suc n < limit16) (sym (length-map t.ins (replace_term r))) h.0.1), replaced_encodable r xs h.1)

module _ (s : Sig) (v : s.value_eq < limit12) where
  pub resolve_encodable : (xs : List Atom) → All Encodable xs → All EncodableTab (resolve s xs)
  resolve_encodable [] h = tt
  resolve_encodable (tab t ∷ xs) h = (h.0, resolve_encodable xs h.1)
  resolve_encodable (eqn p a b ∷ xs) h = go (same_term a b) (resolve_encodable xs h.1)
    where
      go : (c : Bool) → All EncodableTab (resolve s xs) → All EncodableTab (resolve_eq s c p a b (resolve s xs))
      go true k = k
      go false k = ((v, omega arith), k)

-- ---- what is lowered, and what is read

-- the flat body of a written rule
pub query_encodable : (signature rule counters : List ℕ) (s : Sig) (r : Rule) (q : Query) → read_signature signature ≡ ok s → length rule ≤ max_written
    → read_written s rule ≡ ok r → to_query r.facts counters ≡ ok q → All Encodable q.atoms
query_encodable signature rule counters s r q sig l read e =
    fit_encodable s (signature_sound signature s sig).few_heads q.atoms
    (query_fits s (length rule) (omega arith) r.facts (written_formed s rule r read).facts counters q e)

row_length : {A : Type 0} (one : Reader A) (n p : ℕ) (r : Read (List A)) → read_row one n p ≡ ok r → length r.value ≡ n
row_length one zero p r e = subst (λ (x : Read (List _)). length x.value ≡ 0) (ok_inj _ _ e) refl
row_length one (suc n) p r e =
    let x = bind_ok (one p) _ r e in
    let xs = bind_ok (read_row one n x.0.at) _ r x.2 in
    subst (λ (y : Read (List _)). length y.value ≡ suc n) (ok_inj _ _ xs.2) (ap suc (row_length one n x.0.at xs.0 xs.1))

module _ (s : Sig) (few : heads s ≤ limit12) (ws : List ℕ) where
  -- an atom's shape: an equality, or a head of the signature with a count above 0
  shape_encodable : (i e o : Bool) (w p : ℕ) (h : Bool) → is_head_word (heads s) w ≡ h → (c : Bool) → eqb (count_of w) 0 ≡ c → (r : Read Atom)
      → read_atom_shape s ws (cond i (cond e (cond o is_pair is_odd) (cond h (cond c is_empty is_table) is_none)) is_none) w p ≡ ok r → Encodable r.value
  shape_encodable true true true w p h eh c ec r k =
      let a = bind_ok (read_term s ws (suc p)) _ r k in
      let b = bind_ok (read_term s ws a.0.at) _ r a.2 in
      subst (λ (x : Read Atom). Encodable x.value) (ok_inj _ _ b.2) tt
  shape_encodable true true false w p h eh c ec r k = absurd (refuse_ok not_two p r k)
  shape_encodable true false o w p true eh true ec r k = absurd (refuse_ok no_terms p r k)
  shape_encodable true false o w p true eh false ec r k =
      let ts = bind_ok (read_row (read_term s ws) (count_of w - 1) (suc p)) _ r k in
      let t = bind_ok (read_term s ws ts.0.at) _ r ts.2 in
      let l = row_length (read_term s ws) (count_of w - 1) (suc p) ts.0 ts.1 in
      let n = eqb-false (count_of w) 0 ec in
      let h = head_below (heads s) w eh in
      subst (λ (x : Read Atom). Encodable x.value) (ok_inj _ _ t.2) (omega arith, omega arith)
  shape_encodable true false o w p false eh c ec r k = absurd (refuse_ok unfit p r k)
  shape_encodable false e o w p h eh c ec r k = absurd (refuse_ok unfit p r k)

  atom_encodable : Reads Encodable (read_atom s ws)
  atom_encodable p r k =
      let w = get_or ws p 0 in
      shape_encodable (ltb p (length ws)) (is_equality_word w) (eqb w equality_word) w p (is_head_word (heads s) w) refl (eqb (count_of w) 0) refl r k

  read_flat_encodable : (f : FlatRule) → read_flat s ws ≡ ok f → All Encodable f.atoms
  read_flat_encodable f e =
      let w = bind_ok (read_word ws is_header_word 0) _ f e in
      let xs = bind_ok (read_row (read_atom s ws) (facts_of w.0.value) w.0.at) _ f w.2 in
      let ys = bind_ok (read_row (read_core_action s ws) (actions_of w.0.value) xs.0.at) _ f xs.2 in
      let d = demand_ok (leb (length ws) ys.0.at) unfit ys.0.at _ f ys.2 in
      subst (λ (x : FlatRule). All Encodable x.atoms) d.1
      (reads_row Encodable (read_atom s ws) atom_encodable (facts_of w.0.value) w.0.at xs.0 xs.1)

-- the atoms of a flat rule
pub flat_encodable : (signature rule : List ℕ) (s : Sig) (f : FlatRule) → read_signature signature ≡ ok s → read_flat s rule ≡ ok f → All Encodable f.atoms
flat_encodable signature rule s f sig e = read_flat_encodable s (signature_sound signature s sig).few_heads rule f e
