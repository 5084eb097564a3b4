-- What signature a flat rule is read under: only the count of its heads matters. Assumes nothing.
use mathlib.Core.Path.{◌≡◌, refl, ap, ap₂, ◌∙◌}
use mathlib.Core.List.{List}
use Prim.Native.Nat.{ℕ, suc, ◌-◌, ◌≤◌}
use native.Mathlib.Nat.{min-eq_left}
use lib.ListN.{get_or}
use Rattle.rules.specs.Words.{limit12, is_head_word, count_of}
use Rattle.rules.specs.Words.{Code, a_let, a_set, a_delete, a_subsume, a_union, a_panic, a_call, an_expression, no_code}
use Rattle.rules.specs.Refusals.{Res, ◌>>=◌}
use Rattle.rules.specs.Signature.{Sig, heads}
use Rattle.rules.specs.Written.{Read, Reader, read_word, read_row, code_at}
use Rattle.rules.specs.Flat.{AtomShape, is_pair, is_odd, is_table, is_empty, is_none, is_target, atom_shape_at, read_term, read_terms, read_atom_shape}
use Rattle.rules.specs.Flat.{read_atom, read_core_code, read_flat}
use Rattle.written.specs.Written.{with_heads}
use Rattle.written.proofs.Walking.{then_same}
use Rattle.written.proofs.Expected.{heads_with, whole_headed}
use Rattle.records.proofs.Items.{flat_rule}

-- ---- the signature: two of as many heads read alike

module _ (s t : Sig) (ws : List ℕ) (same : heads s ≡ heads t) where
  term_same : (p : ℕ) → read_term s ws p ≡ read_term t ws p
  term_same p = rw same refl

  row_same : (n p : ℕ) → read_row (read_term s ws) n p ≡ read_row (read_term t ws) n p
  row_same n p = ap (λ (one : Reader ℕ). read_row one n p) (λ i q. term_same q i)

  terms_same : (p : ℕ) → read_terms s ws p ≡ read_terms t ws p
  terms_same p = rw same (then_same (read_word ws (is_head_word (heads t)) p) _ _ (λ w. rw (row_same (count_of w.value) w.at) refl))

  -- what was read, and a term behind it
  behind_same : {A B : Type 0} (x : Res (Read A)) (f : Read A → Read ℕ → Res (Read B))
      → ◌>>=◌ x (λ a. ◌>>=◌ (read_term s ws a.at) (f a)) ≡ ◌>>=◌ x (λ a. ◌>>=◌ (read_term t ws a.at) (f a))
  behind_same x f = then_same x _ _ (λ a. rw (term_same a.at) refl)

  shape_same : (sh : AtomShape) (w p : ℕ) → read_atom_shape s ws sh w p ≡ read_atom_shape t ws sh w p
  shape_same is_pair w p = rw (term_same (suc p)) (behind_same (read_term t ws (suc p)) _)
  shape_same is_table w p = rw (row_same (count_of w - 1) (suc p)) (behind_same (read_row (read_term t ws) (count_of w - 1) (suc p)) _)
  shape_same is_odd w p = refl
  shape_same is_empty w p = refl
  shape_same is_none w p = refl

  atom_same : (p : ℕ) → read_atom s ws p ≡ read_atom t ws p
  atom_same p =
      let sh : atom_shape_at s ws p ≡ atom_shape_at t ws p = rw same refl in
      ap (λ (x : AtomShape). read_atom_shape s ws x (get_or ws p 0) p) sh ∙ shape_same (atom_shape_at t ws p) (get_or ws p 0) p

  target_same : (p : ℕ) → read_word ws (is_target s) p ≡ read_word ws (is_target t) p
  target_same p = rw same refl

  code_same : (k : Code) (p q : ℕ) → read_core_code s ws p k q ≡ read_core_code t ws p k q
  code_same a_let p q = rw (target_same q) (behind_same (read_word ws (is_target t) q) _)
  code_same a_set p q = rw (terms_same q) (behind_same (read_terms t ws q) _)
  code_same a_delete p q = rw (terms_same q) refl
  code_same a_subsume p q = rw (terms_same q) refl
  code_same a_union p q = rw (term_same q) (behind_same (read_term t ws q) _)
  code_same a_panic p q = refl
  code_same a_call p q = rw (target_same q) (then_same (read_word ws (is_target t) q) _ _ (λ x. rw (terms_same x.at) refl))
  code_same an_expression p q = refl
  code_same no_code p q = refl

  pub flat_same : read_flat s ws ≡ read_flat t ws
  flat_same = ap₂ (whole_headed ws flat_rule) (λ i q. atom_same q i) (λ i q. code_same (code_at ws q) q (suc q) i)

-- so a signature's own heads stand for it
pub flat_with : (s : Sig) (ws : List ℕ) → heads s ≤ limit12 → read_flat (with_heads (heads s)) ws ≡ read_flat s ws
flat_with s ws most = flat_same (with_heads (heads s)) s ws (heads_with (heads s) ∙ min-eq_left most)
