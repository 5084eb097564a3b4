-- What signature a written rule is read under: only the count of its heads matters. Assumes nothing.
use mathlib.Core.Path.{◌≡◌, refl, ap, ap₂, ◌∙◌}
use mathlib.Core.Bool.{Bool, false, ◌&&◌, cond}
use mathlib.Core.List.{List}
use Prim.Native.Nat.{ℕ, zero, suc, ◌≤◌}
use native.Mathlib.Nat.{min-eq_left}
use lib.ListN.{length, get_or}
use lib.Dec.{ltb, eqb}
use Rattle.rules.specs.Words.{limit12, max_depth, equality_word, is_name_word, is_head_word, count_of}
use Rattle.rules.specs.Words.{Code, a_let, a_set, a_delete, a_subsume, a_union, a_panic, a_call, an_expression, no_code}
use Rattle.rules.specs.Refusals.{Res, ◌>>=◌}
use Rattle.rules.specs.Signature.{Sig, heads}
use Rattle.rules.specs.Written.{Fact, Read, Reader, Expr, shape_at, read_shape, read_word, read_many, read_expr, read_target, read_holds, read_fact}
use Rattle.rules.specs.Written.{read_code, code_at, read_written}
use Rattle.written.specs.Written.{with_heads}
use Rattle.written.proofs.Walking.{then_same}
use Rattle.written.proofs.Expected.{heads_with, whole_headed}
use Rattle.records.proofs.Items.{rule}

-- ---- the signature: two of as many heads read alike

module _ (s t : Sig) (ws : List ℕ) (same : heads s ≡ heads t) where
  pub expr_same : (d p : ℕ) → read_expr s ws d p ≡ read_expr t ws d p
  expr_same zero p = rw same refl
  expr_same (suc d) p = rw same (ap (λ (one : Reader Expr). read_shape (shape_at t ws p) false (λ n q. read_many one n q) (get_or ws p 0) p) (λ i q. expr_same d q i))

  exprs_same : (n p : ℕ) → read_many (read_expr s ws max_depth) n p ≡ read_many (read_expr t ws max_depth) n p
  exprs_same n p = ap (λ (one : Reader Expr). read_many one n p) (λ i q. expr_same max_depth q i)

  target_same : (p : ℕ) → read_target s ws p ≡ read_target t ws p
  target_same p = rw same (then_same (read_word ws (is_head_word (heads t)) p) _ _ (λ w. rw (exprs_same (count_of w.value) w.at) refl))

  -- what was read, and an expression behind it
  behind_same : {A B : Type 0} (x : Res (Read A)) (f : Read A → Read Expr → Res (Read B))
      → ◌>>=◌ x (λ a. ◌>>=◌ (read_expr s ws max_depth a.at) (f a)) ≡ ◌>>=◌ x (λ a. ◌>>=◌ (read_expr t ws max_depth a.at) (f a))
  behind_same x f = then_same x _ _ (λ a. rw (expr_same max_depth a.at) refl)

  fact_same : (p : ℕ) → read_fact s ws p ≡ read_fact t ws p
  fact_same p =
      let test : Bool = ltb p (length ws) && eqb (get_or ws p 0) equality_word in
      rw (expr_same max_depth (suc p), expr_same max_depth p) (ap (λ (x : Res (Read Fact)). cond test x (read_holds t ws p)) (behind_same (read_expr t ws max_depth (suc p)) _))

  code_same : (k : Code) (p q : ℕ) → read_code s ws p k q ≡ read_code t ws p k q
  code_same a_let p q = behind_same (read_word ws is_name_word q) _
  code_same a_set p q = rw (target_same q) (behind_same (read_target t ws q) _)
  code_same a_delete p q = rw (target_same q) refl
  code_same a_subsume p q = rw (target_same q) refl
  code_same a_union p q = rw (expr_same max_depth q) (behind_same (read_expr t ws max_depth q) _)
  code_same a_panic p q = refl
  code_same an_expression p q = rw (expr_same max_depth q) refl
  code_same a_call p q = refl
  code_same no_code p q = refl

  pub written_same : read_written s ws ≡ read_written t ws
  written_same = ap₂ (whole_headed ws rule) (λ i q. fact_same q i) (λ i q. code_same (code_at ws q) q (suc q) i)

-- so a signature's own heads stand for it
pub written_with : (s : Sig) (ws : List ℕ) → heads s ≤ limit12 → read_written (with_heads (heads s)) ws ≡ read_written s ws
written_with s ws most = written_same (with_heads (heads s)) s ws (heads_with (heads s) ∙ min-eq_left most)
