-- Where each reading of a written rule ends: behind its first word, and within the record. Assumes nothing.
use mathlib.Core.Path.{◌≡◌, refl}
use mathlib.Core.Bool.{Bool, true, false, ◌&&◌, cond}
use mathlib.Core.List.{List}
use Prim.Native.Nat.{ℕ, zero, suc, ◌<◌}
use native.Mathlib.Omega.{arith}
use lib.ListN.{length, get_or}
use lib.Dec.{ltb, eqb, lit≤}
use borrow.Author.Tests.{ltb-true}
use Rattle.rules.specs.Words.{max_depth, equality_word, is_name_word, is_literal_word, is_head_word, count_of}
use Rattle.rules.specs.Words.{Code, a_let, a_set, a_delete, a_subsume, a_union, a_panic, a_call, an_expression, no_code}
use Rattle.rules.specs.Refusals.{Res, ok, refuse, ◌>>=◌, too_deep}
use Rattle.rules.specs.Signature.{Sig, heads}
use Rattle.rules.specs.Written.{Expr, Exprs, Read, Reader, Shape, is_leaf, is_call, is_bad, shape, read_word, read_many, read_shape, read_expr}
use Rattle.rules.specs.Written.{read_target, read_equal, read_holds, read_fact, read_code, read_action}
use Rattle.written.proofs.Walking.{Went, went_then, went_made, went_less, went_from, went_word, behind, Several, many}
use Rattle.written.proofs.Expected.{went_coded}

module _ (s : Sig) (ws : List ℕ) where
  went_many : (one : Reader Expr) → ((p : ℕ) → Went ws p 1 (one p)) → (n p : ℕ) → Went ws p 0 (read_many one n p)
  went_many one h zero p = (omega arith, omega arith)
  went_many one h (suc n) p =
      went_then ws p 0 0 (one p) _ (went_less ws p 1 0 (one p) (lit≤ tt) (h p)) (λ r. went_made ws r.at 0 (read_many one n r.at) _ (went_many one h n r.at))

  went_shape : (inside : Bool) (args : ℕ → Reader Exprs) → ((n p : ℕ) → Went ws p 0 (args n p)) → (w p : ℕ)
      → (i : Bool) → ltb p (length ws) ≡ i → (sh : Shape) → Went ws p 1 (read_shape (cond i sh is_bad) inside args w p)
  went_shape inside args h w p false e sh = (omega arith, omega arith)
  went_shape inside args h w p true e is_bad = (omega arith, omega arith)
  went_shape true args h w p true e is_leaf = (omega arith, omega arith)
  went_shape true args h w p true e is_call = (omega arith, omega arith)
  went_shape false args h w p true e is_leaf = let l = ltb-true p (length ws) e in (omega arith, omega arith)
  went_shape false args h w p true e is_call =
      went_made ws p 1 (args (count_of w) (suc p)) _ (went_from ws p 0 (args (count_of w) (suc p)) (ltb-true p (length ws) e) (h (count_of w) (suc p)))

  pub went_expr : (d p : ℕ) → Went ws p 1 (read_expr s ws d p)
  went_expr zero p = went_shape true (λ n q. refuse too_deep q) (λ n q. (omega arith, omega arith)) (get_or ws p 0) p (ltb p (length ws)) refl (shape s (get_or ws p 0))
  went_expr (suc d) p =
      went_shape false (λ n q. read_many (λ r. read_expr s ws d r) n q) (λ n q. went_many (λ r. read_expr s ws d r) (λ r. went_expr d r) n q) (get_or ws p 0) p
      (ltb p (length ws)) refl (shape s (get_or ws p 0))

  went_args : (d n p : ℕ) → Went ws p 0 (read_many (read_expr s ws d) n p)
  went_args d n p = went_many (read_expr s ws d) (went_expr d) n p

  went_target : (p : ℕ) → Went ws p 1 (read_target s ws p)
  went_target p =
      went_then ws p 1 0 (read_word ws (is_head_word (heads s)) p) _ (went_word ws (is_head_word (heads s)) p)
      (λ w. went_made ws w.at 0 (read_many (read_expr s ws max_depth) (count_of w.value) w.at) _ (went_args max_depth (count_of w.value) w.at))

  -- what was read, an expression behind it, and a value made of both
  went_pair : {A B : Type 0} (p : ℕ) (x : Res (Read A)) (f : Read A → Read Expr → B) → Went ws p 1 x
      → Went ws p 1 (◌>>=◌ x (λ a. ◌>>=◌ (read_expr s ws max_depth a.at) (λ e. ok (record { value = f a e; at = e.at }))))
  went_pair p x f h =
      went_then ws p 1 0 x _ h
      (λ a. went_made ws a.at 0 (read_expr s ws max_depth a.at) (f a) (went_less ws a.at 1 0 (read_expr s ws max_depth a.at) (lit≤ tt) (went_expr max_depth a.at)))

  went_equal : (p : ℕ) → p < length ws → Went ws p 1 (read_equal s ws p)
  went_equal p l = went_pair p (read_expr s ws max_depth (suc p)) _ (behind ws p (read_expr s ws max_depth (suc p)) l (went_expr max_depth (suc p)))

  pub went_fact : (p : ℕ) → Went ws p 1 (read_fact s ws p)
  went_fact p = go (ltb p (length ws)) refl (eqb (get_or ws p 0) equality_word)
    where
      go : (a : Bool) → ltb p (length ws) ≡ a → (b : Bool) → Went ws p 1 (cond (a && b) (read_equal s ws p) (read_holds s ws p))
      go true e true = went_equal p (ltb-true p (length ws) e)
      go true e false = went_made ws p 1 (read_expr s ws max_depth p) _ (went_expr max_depth p)
      go false e b = went_made ws p 1 (read_expr s ws max_depth p) _ (went_expr max_depth p)

  went_code : (k : Code) (p : ℕ) → p < length ws → Went ws p 1 (read_code s ws p k (suc p))
  went_code a_let p l = went_pair p (read_word ws is_name_word (suc p)) _ (behind ws p (read_word ws is_name_word (suc p)) l (went_word ws is_name_word (suc p)))
  went_code a_set p l = went_pair p (read_target s ws (suc p)) _ (behind ws p (read_target s ws (suc p)) l (went_target (suc p)))
  went_code a_delete p l = went_made ws p 1 (read_target s ws (suc p)) _ (behind ws p (read_target s ws (suc p)) l (went_target (suc p)))
  went_code a_subsume p l = went_made ws p 1 (read_target s ws (suc p)) _ (behind ws p (read_target s ws (suc p)) l (went_target (suc p)))
  went_code a_union p l = went_pair p (read_expr s ws max_depth (suc p)) _ (behind ws p (read_expr s ws max_depth (suc p)) l (went_expr max_depth (suc p)))
  went_code a_panic p l = went_made ws p 1 (read_word ws is_literal_word (suc p)) _ (behind ws p (read_word ws is_literal_word (suc p)) l (went_word ws is_literal_word (suc p)))
  went_code an_expression p l = went_made ws p 1 (read_expr s ws max_depth (suc p)) _ (behind ws p (read_expr s ws max_depth (suc p)) l (went_expr max_depth (suc p)))
  went_code a_call p l = (omega arith, omega arith)
  went_code no_code p l = (omega arith, omega arith)

  pub went_action : (p : ℕ) → Went ws p 1 (read_action s ws p)
  went_action p = went_coded ws p (λ k. read_code s ws p k (suc p)) (λ k l. went_code k p l) (omega arith, omega arith)

  -- ---- so several of them are read one by one

  pub exprs : (d : ℕ) → Several ws (read_expr s ws d) (read_many (read_expr s ws d))
  exprs d = many ws (read_expr s ws d) (went_expr d)
