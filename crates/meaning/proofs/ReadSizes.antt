-- Reading a written rule goes forward by exactly the words of the tree that it reads, and never past the record.
-- Assumes nothing.
use Prim.Native.Nat.{ℕ, zero, suc, ◌+◌, ◌≤◌}
use native.Mathlib.Omega.{arith}
use mathlib.Core.Path.{◌≡◌, refl, subst}
use mathlib.Core.Bool.{Bool, true, false, cond, ◌&&◌}
use mathlib.Core.List.{List}
use lib.ListN.{length, get_or}
use lib.Dec.{ltb, leb, eqb}
use borrow.Author.Tests.{ltb-true, leb-true}
use Rattle.rules.specs.Words.{max_depth, equality_word, is_name_word, is_literal_word, is_head_word, is_header_word, count_of, facts_of, actions_of}
use Rattle.rules.specs.Words.{Code, a_let, a_set, a_delete, a_subsume, a_union, a_panic, a_call, an_expression, no_code, code_of}
use Rattle.rules.specs.Refusals.{ok, refuse, unfit, too_deep}
use Rattle.rules.specs.Signature.{Sig, heads}
use Rattle.rules.specs.Written.{Expr, Exprs, Action, Rule, Read, Reader, read_word, read_row, read_many, Shape, is_leaf, is_call, is_bad, shape, read_shape}
use Rattle.rules.specs.Written.{read_expr, Target, read_target, read_equal, read_holds, read_fact, read_code, code_at, read_action, read_written}
use Rattle.meaning.proofs.Sizes.{expr_size, exprs_size, fact_size, action_size, total, rule_size}
use Rattle.meaning.proofs.Lists.{and_left}
use Rattle.meaning.proofs.Results.{refuse_ok, ok_inj, bind_ok, demand_ok}

-- what stands from p on has this size, and ends within n words
pub record Spans {A : Type 0} (size : A → ℕ) (n p : ℕ) (r : Read A) : Type 0 where
  pub after : r.at ≡ p + size r.value
  pub inside : r.at ≤ n

-- all that a reader reads
abbrev pub SpansAll : {A : Type 0} → (A → ℕ) → ℕ → Reader A → Type 0
SpansAll {A} size n one = (p : ℕ) (r : Read A) → p ≤ n → one p ≡ ok r → Spans size n p r

abbrev pub one_word : ℕ → ℕ
one_word w = 1

pub row_size : {A : Type 0} (size : A → ℕ) (n : ℕ) (one : Reader A) → SpansAll size n one → (k : ℕ) → SpansAll (total size) n (read_row one k)
row_size size n one h zero p r l e = subst (Spans (total size) n p) (ok_inj _ _ e) (record { after = omega arith; inside = l })
row_size size n one h (suc k) p r l e =
    let x = bind_ok (one p) _ r e in
    let xs = bind_ok (read_row one k x.0.at) _ r x.2 in
    let i = h p x.0 l x.1 in
    let j = row_size size n one h k x.0.at xs.0 i.inside xs.1 in
    subst (Spans (total size) n p) (ok_inj _ _ xs.2) (record { after = omega (arith, i.after, j.after); inside = j.inside })

many_size : (n : ℕ) (one : Reader Expr) → SpansAll expr_size n one → (k : ℕ) → SpansAll exprs_size n (read_many one k)
many_size n one h zero p r l e = subst (Spans exprs_size n p) (ok_inj _ _ e) (record { after = omega arith; inside = l })
many_size n one h (suc k) p r l e =
    let x = bind_ok (one p) _ r e in
    let xs = bind_ok (read_many one k x.0.at) _ r x.2 in
    let i = h p x.0 l x.1 in
    let j = many_size n one h k x.0.at xs.0 i.inside xs.1 in
    subst (Spans exprs_size n p) (ok_inj _ _ xs.2) (record { after = omega (arith, i.after, j.after); inside = j.inside })

pub word_size : (ws : List ℕ) (fits : ℕ → Bool) → SpansAll one_word (length ws) (read_word ws fits)
word_size ws fits p r l e =
    let d = demand_ok (ltb p (length ws) && fits (get_or ws p 0)) unfit p _ r e in
    let i = ltb-true p (length ws) (and_left (ltb p (length ws)) (fits (get_or ws p 0)) d.0) in
    subst (Spans one_word (length ws) p) d.1 (record { after = omega arith; inside = i })

-- what follows an action's word, which stands before q
abbrev pub CodeSpans : {A : Type 0} → (A → ℕ) → ℕ → ℕ → Read A → Type 0
CodeSpans size n q r = (suc r.at ≡ q + size r.value) × (r.at ≤ n)

-- an action, by what follows its word
pub code_spans : {A : Type 0} (ws : List ℕ) (size : A → ℕ) (read : ℕ → Code → Reader A) → ((p q : ℕ) (r : Read A) → read p no_code q ≡ ok r → ⊥)
    → ((p : ℕ) (c : Code) (q : ℕ) (r : Read A) → q ≤ length ws → read p c q ≡ ok r → CodeSpans size (length ws) q r)
    → SpansAll size (length ws) (λ p. read p (code_at ws p) (suc p))
code_spans ws size read none some p r l = go (ltb p (length ws)) refl
  where
    go : (b : Bool) → ltb p (length ws) ≡ b → read p (cond b (code_of (get_or ws p 0)) no_code) (suc p) ≡ ok r → Spans size (length ws) p r
    go true t e =
        let i = some p (code_of (get_or ws p 0)) (suc p) r (ltb-true p (length ws) t) e in
        record { after = omega (arith, i.0); inside = i.1 }
    go false t e = absurd (none p (suc p) r e)

-- ---- expressions

module _ (s : Sig) (ws : List ℕ) where
  shape_size : (inside : Bool) (args : ℕ → Reader Exprs) → ((k : ℕ) → SpansAll exprs_size (length ws) (args k)) → (w p : ℕ) (r : Read Expr)
      → (b : Bool) → ltb p (length ws) ≡ b → (sh : Shape) → read_shape (cond b sh is_bad) inside args w p ≡ ok r → Spans expr_size (length ws) p r
  shape_size inside args h w p r false t sh e = absurd (refuse_ok unfit p r e)
  shape_size inside args h w p r true t is_bad e = absurd (refuse_ok unfit p r e)
  shape_size true args h w p r true t is_leaf e = absurd (refuse_ok too_deep p r e)
  shape_size true args h w p r true t is_call e = absurd (refuse_ok too_deep p r e)
  shape_size false args h w p r true t is_leaf e =
      let i = ltb-true p (length ws) t in
      subst (Spans expr_size (length ws) p) (ok_inj _ _ e) (record { after = omega arith; inside = i })
  shape_size false args h w p r true t is_call e =
      let es = bind_ok (args (count_of w) (suc p)) _ r e in
      let j = h (count_of w) (suc p) es.0 (ltb-true p (length ws) t) es.1 in
      subst (Spans expr_size (length ws) p) (ok_inj _ _ es.2) (record { after = omega (arith, j.after); inside = j.inside })

  pub expr_size_lem : (d : ℕ) → SpansAll expr_size (length ws) (read_expr s ws d)
  expr_size_lem zero p r l e =
      shape_size true (λ n q. refuse too_deep q) (λ n q x i k. absurd (refuse_ok too_deep q x k)) (get_or ws p 0) p r
      (ltb p (length ws)) refl (shape s (get_or ws p 0)) e
  expr_size_lem (suc d) p r l e =
      shape_size false (λ n q. read_many (λ t. read_expr s ws d t) n q)
      (λ n. many_size (length ws) (λ t. read_expr s ws d t) (λ t x i k. expr_size_lem d t x i k) n) (get_or ws p 0) p r
      (ltb p (length ws)) refl (shape s (get_or ws p 0)) e

  abbrev target_size : Target → ℕ
  target_size t = 1 + exprs_size t.args

  target_size_lem : SpansAll target_size (length ws) (read_target s ws)
  target_size_lem p r l e =
      let w = bind_ok (read_word ws (is_head_word (heads s)) p) _ r e in
      let es = bind_ok (read_many (read_expr s ws max_depth) (count_of w.0.value) w.0.at) _ r w.2 in
      let i = word_size ws (is_head_word (heads s)) p w.0 l w.1 in
      let j = many_size (length ws) (read_expr s ws max_depth) (expr_size_lem max_depth) (count_of w.0.value) w.0.at es.0 i.inside es.1 in
      subst (Spans target_size (length ws) p) (ok_inj _ _ es.2) (record { after = omega (arith, i.after, j.after); inside = j.inside })

  -- ---- facts

  pub fact_size_lem : SpansAll fact_size (length ws) (read_fact s ws)
  fact_size_lem p r l = go (ltb p (length ws) && eqb (get_or ws p 0) equality_word) refl
    where
      go : (b : Bool) → (ltb p (length ws) && eqb (get_or ws p 0) equality_word) ≡ b → cond b (read_equal s ws p) (read_holds s ws p) ≡ ok r → Spans fact_size (length ws) p r
      go true t e =
          let i = ltb-true p (length ws) (and_left (ltb p (length ws)) (eqb (get_or ws p 0) equality_word) t) in
          let x = bind_ok (read_expr s ws max_depth (suc p)) _ r e in
          let y = bind_ok (read_expr s ws max_depth x.0.at) _ r x.2 in
          let j = expr_size_lem max_depth (suc p) x.0 i x.1 in
          let k = expr_size_lem max_depth x.0.at y.0 j.inside y.1 in
          subst (Spans fact_size (length ws) p) (ok_inj _ _ y.2) (record { after = omega (arith, j.after, k.after); inside = k.inside })
      go false t e =
          let x = bind_ok (read_expr s ws max_depth p) _ r e in
          let j = expr_size_lem max_depth p x.0 l x.1 in
          subst (Spans fact_size (length ws) p) (ok_inj _ _ x.2) (record { after = j.after; inside = j.inside })

  -- ---- actions

  code_size : (p : ℕ) (c : Code) (q : ℕ) (r : Read Action) → q ≤ length ws → read_code s ws p c q ≡ ok r → CodeSpans action_size (length ws) q r
  code_size p a_let q r l e =
      let x = bind_ok (read_word ws is_name_word q) _ r e in
      let y = bind_ok (read_expr s ws max_depth x.0.at) _ r x.2 in
      let i = word_size ws is_name_word q x.0 l x.1 in
      let j = expr_size_lem max_depth x.0.at y.0 i.inside y.1 in
      subst (CodeSpans action_size (length ws) q) (ok_inj _ _ y.2) (omega (arith, i.after, j.after), j.inside)
  code_size p a_set q r l e =
      let x = bind_ok (read_target s ws q) _ r e in
      let y = bind_ok (read_expr s ws max_depth x.0.at) _ r x.2 in
      let i = target_size_lem q x.0 l x.1 in
      let j = expr_size_lem max_depth x.0.at y.0 i.inside y.1 in
      subst (CodeSpans action_size (length ws) q) (ok_inj _ _ y.2) (omega (arith, i.after, j.after), j.inside)
  code_size p a_delete q r l e =
      let x = bind_ok (read_target s ws q) _ r e in
      let i = target_size_lem q x.0 l x.1 in
      subst (CodeSpans action_size (length ws) q) (ok_inj _ _ x.2) (omega (arith, i.after), i.inside)
  code_size p a_subsume q r l e =
      let x = bind_ok (read_target s ws q) _ r e in
      let i = target_size_lem q x.0 l x.1 in
      subst (CodeSpans action_size (length ws) q) (ok_inj _ _ x.2) (omega (arith, i.after), i.inside)
  code_size p a_union q r l e =
      let x = bind_ok (read_expr s ws max_depth q) _ r e in
      let y = bind_ok (read_expr s ws max_depth x.0.at) _ r x.2 in
      let i = expr_size_lem max_depth q x.0 l x.1 in
      let j = expr_size_lem max_depth x.0.at y.0 i.inside y.1 in
      subst (CodeSpans action_size (length ws) q) (ok_inj _ _ y.2) (omega (arith, i.after, j.after), j.inside)
  code_size p a_panic q r l e =
      let x = bind_ok (read_word ws is_literal_word q) _ r e in
      let i = word_size ws is_literal_word q x.0 l x.1 in
      subst (CodeSpans action_size (length ws) q) (ok_inj _ _ x.2) (omega (arith, i.after), i.inside)
  code_size p an_expression q r l e =
      let x = bind_ok (read_expr s ws max_depth q) _ r e in
      let i = expr_size_lem max_depth q x.0 l x.1 in
      subst (CodeSpans action_size (length ws) q) (ok_inj _ _ x.2) (omega (arith, i.after), i.inside)
  code_size p a_call q r l e = absurd (refuse_ok unfit p r e)
  code_size p no_code q r l e = absurd (refuse_ok unfit p r e)

  pub action_size_lem : SpansAll action_size (length ws) (read_action s ws)
  action_size_lem = code_spans ws action_size (read_code s ws) (λ p q r e. refuse_ok unfit p r e) code_size

  -- a written rule has as many words as its tree
  pub rule_size_lem : (r : Rule) → read_written s ws ≡ ok r → rule_size r ≡ length ws
  rule_size_lem r e =
      let w = bind_ok (read_word ws is_header_word 0) _ r e in
      let fs = bind_ok (read_row (read_fact s ws) (facts_of w.0.value) w.0.at) _ r w.2 in
      let xs = bind_ok (read_row (read_action s ws) (actions_of w.0.value) fs.0.at) _ r fs.2 in
      let i = word_size ws is_header_word 0 w.0 (omega arith) w.1 in
      let j = row_size fact_size (length ws) (read_fact s ws) fact_size_lem (facts_of w.0.value) w.0.at fs.0 i.inside fs.1 in
      let k = row_size action_size (length ws) (read_action s ws) action_size_lem (actions_of w.0.value) fs.0.at xs.0 j.inside xs.1 in
      let d = demand_ok (leb (length ws) xs.0.at) unfit xs.0.at _ r xs.2 in
      let m = leb-true (length ws) xs.0.at d.0 in
      subst (λ (q : Rule). rule_size q ≡ length ws) d.1 (omega (arith, i.after, j.after, k.after, k.inside))
