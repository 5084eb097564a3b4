-- Where each reading of a flat rule ends: behind its first word, and within the record. Assumes nothing.
use mathlib.Core.Path.{◌≡◌, refl}
use mathlib.Core.Bool.{Bool, true, false, cond}
use mathlib.Core.List.{List}
use Prim.Native.Nat.{ℕ, suc, ◌-◌, ◌<◌}
use native.Mathlib.Omega.{arith}
use lib.ListN.{length, get_or}
use lib.Dec.{ltb}
use borrow.Author.Tests.{ltb-true}
use Rattle.rules.specs.Words.{is_literal_word, is_head_word, count_of}
use Rattle.rules.specs.Words.{Code, a_let, a_set, a_delete, a_subsume, a_union, a_panic, a_call, an_expression, no_code}
use Rattle.rules.specs.Refusals.{Res, ok, refuse, ◌>>=◌}
use Rattle.rules.specs.Signature.{Sig, heads}
use Rattle.rules.specs.Written.{Read, Reader, read_word, read_row}
use Rattle.rules.specs.Flat.{AtomShape, is_pair, is_odd, is_table, is_empty, is_none, is_target}
use Rattle.rules.specs.Flat.{is_term, atom_shape, read_term, read_atom_shape, read_atom, read_terms, read_core_code, read_core_action}
use Rattle.written.proofs.Walking.{Went, went_then, went_made, went_from, went_word, behind, went_row, Several, row}
use Rattle.written.proofs.Expected.{went_coded}

module _ (s : Sig) (ws : List ℕ) where
  pub went_term : (p : ℕ) → Went ws p 1 (read_term s ws p)
  went_term p = went_word ws (is_term s) p

  pub went_target : (p : ℕ) → Went ws p 1 (read_word ws (is_target s) p)
  went_target p = went_word ws (is_target s) p

  pub went_some : (n p : ℕ) → Went ws p 0 (read_row (read_term s ws) n p)
  went_some = went_row ws (read_term s ws) went_term

  -- what was read, something behind it, and a value made of both
  went_pair : {A B C : Type 0} (p j : ℕ) (x : Res (Read A)) (one : Reader B) (f : Read A → Read B → C) → ((q : ℕ) → Went ws q 1 (one q)) → Went ws p j x
      → Went ws p j (◌>>=◌ x (λ a. ◌>>=◌ (one a.at) (λ b. ok (record { value = f a b; at = b.at }))))
  went_pair {B = B} {C = C} p j (ok a) one f g h = go (one a.at) (g a.at)
    where
      go : (y : Res (Read B)) → Went ws a.at 1 y → Went {A = C} ws p j (◌>>=◌ y (λ b. ok (record { value = f a b; at = b.at })))
      go (ok b) l = (omega arith, omega arith)
      go (refuse n q) l = (l.0, omega arith)
  went_pair p j (refuse n q) one f g h = h

  went_shape : (w p : ℕ) → (i : Bool) → ltb p (length ws) ≡ i → (sh : AtomShape) → Went ws p 1 (read_atom_shape s ws (cond i sh is_none) w p)
  went_shape w p true e is_pair = went_pair p 1 (read_term s ws (suc p)) (read_term s ws) _ went_term (behind ws p (read_term s ws (suc p)) (ltb-true p (length ws) e) (went_term (suc p)))
  went_shape w p true e is_table =
      went_pair p 1 (read_row (read_term s ws) (count_of w - 1) (suc p)) (read_term s ws) _ went_term
      (went_from ws p 0 (read_row (read_term s ws) (count_of w - 1) (suc p)) (ltb-true p (length ws) e) (went_some (count_of w - 1) (suc p)))
  went_shape w p true e is_odd = (omega arith, omega arith)
  went_shape w p true e is_empty = (omega arith, omega arith)
  went_shape w p true e is_none = (omega arith, omega arith)
  went_shape w p false e sh = (omega arith, omega arith)

  pub went_atom : (p : ℕ) → Went ws p 1 (read_atom s ws p)
  went_atom p = went_shape (get_or ws p 0) p (ltb p (length ws)) refl (atom_shape s (get_or ws p 0))

  pub went_terms : (p : ℕ) → Went ws p 1 (read_terms s ws p)
  went_terms p =
      went_then ws p 1 0 (read_word ws (is_head_word (heads s)) p) _ (went_word ws (is_head_word (heads s)) p)
      (λ w. went_made ws w.at 0 (read_row (read_term s ws) (count_of w.value) w.at) _ (went_some (count_of w.value) w.at))

  went_code : (k : Code) (p : ℕ) → p < length ws → Went ws p 1 (read_core_code s ws p k (suc p))
  went_code a_let p l = went_pair p 1 (read_word ws (is_target s) (suc p)) (read_term s ws) _ went_term (behind ws p (read_word ws (is_target s) (suc p)) l (went_target (suc p)))
  went_code a_set p l = went_pair p 1 (read_terms s ws (suc p)) (read_term s ws) _ went_term (behind ws p (read_terms s ws (suc p)) l (went_terms (suc p)))
  went_code a_delete p l = went_made ws p 1 (read_terms s ws (suc p)) _ (behind ws p (read_terms s ws (suc p)) l (went_terms (suc p)))
  went_code a_subsume p l = went_made ws p 1 (read_terms s ws (suc p)) _ (behind ws p (read_terms s ws (suc p)) l (went_terms (suc p)))
  went_code a_union p l = went_pair p 1 (read_term s ws (suc p)) (read_term s ws) _ went_term (behind ws p (read_term s ws (suc p)) l (went_term (suc p)))
  went_code a_panic p l = went_made ws p 1 (read_word ws is_literal_word (suc p)) _ (behind ws p (read_word ws is_literal_word (suc p)) l (went_word ws is_literal_word (suc p)))
  went_code a_call p l = went_pair p 1 (read_word ws (is_target s) (suc p)) (read_terms s ws) _ went_terms (behind ws p (read_word ws (is_target s) (suc p)) l (went_target (suc p)))
  went_code an_expression p l = (omega arith, omega arith)
  went_code no_code p l = (omega arith, omega arith)

  pub went_action : (p : ℕ) → Went ws p 1 (read_core_action s ws p)
  went_action p = went_coded ws p (λ k. read_core_code s ws p k (suc p)) (λ k l. went_code k p l) (omega arith, omega arith)

  -- ---- so several of them are read one by one

  pub terms : Several ws (read_term s ws) (read_row (read_term s ws))
  terms = row ws (read_term s ws) went_term
