-- What is read from the words of a written rule is well formed: its leaves are names and literals, its heads are the signature's.
-- Assumes nothing.
use Prim.Native.Nat.{ℕ, zero, suc, ◌+◌, ◌*◌, ◌≤◌, ◌<◌}
use native.Mathlib.Omega.{arith}
use mathlib.Core.Path.{◌≡◌, refl, sym, ap, subst}
use mathlib.Core.Option.{some, some-injective, none-ne-some}
use mathlib.Core.Bool.{Bool, true, false, cond, ◌&&◌, ◌||◌}
use mathlib.Core.List.{List}
use lib.ListN.{length, get_or}
use lib.Dec.{leb, ltb, eqb}
use borrow.Author.Tests.{ltb-true, leb-true, lt-leb}
use Rattle.rules.specs.Words.{limit12, limit16, max_depth, fresh_base, name_base, literal_base, head_base, equality_word, within}
use Rattle.rules.specs.Words.{is_name_word, is_literal_word, is_head_word, is_header_word, head_of, count_of, facts_of, actions_of, Code}
use Rattle.rules.specs.Words.{a_let, a_set, a_delete, a_subsume, a_union, a_panic, a_call, an_expression, no_code}
use Rattle.rules.specs.Refusals.{ok, refuse, unfit, too_deep}
use Rattle.rules.specs.Signature.{Sig, heads, is_fresh, is_name, is_constructor}
use Rattle.rules.specs.Written.{Expr, Exprs, leaf, call, end, ◌then◌, Fact, holds, equal, Action, let', set', delete', subsume', union', panic'}
use Rattle.rules.specs.Written.{expr', Rule, Read, Reader, is_leaf, is_call, is_bad, read_many, read_row, read_shape, read_expr, read_word, Target}
use Rattle.rules.specs.Written.{read_target, read_equal, read_holds, read_fact, read_code, code_at, read_action, read_written}
use Rattle.rules.specs.ToCoreActions.{AsSet, optional, union_as_set}
use Rattle.meaning.specs.Meaning.{All}
use Rattle.meaning.proofs.Lists.{and_left, and_right}
use Rattle.meaning.proofs.Results.{bind_ok, ok_inj, refuse_ok, demand_ok}

-- ---- words by their range

pub within_low : (low size w : ℕ) → within low size w ≡ true → low ≤ w
within_low low size w e = leb-true low w (and_left (leb low w) (ltb w (low + size)) e)

pub within_high : (low size w : ℕ) → within low size w ≡ true → w < low + size
within_high low size w e = ltb-true w (low + size) (and_right (leb low w) (ltb w (low + size)) e)

-- a head's word has a head below H
pub head_below : (H w : ℕ) → is_head_word H w ≡ true → head_of w < H
head_below H w e =
    let a = within_low head_base (H * limit16) w e in
    let b = within_high head_base (H * limit16) w e in
    omega arith

-- ---- well-formed trees of a rule of n words: a call has fewer arguments than that

abbrev pub LeafWord : ℕ → Type 0
LeafWord w = (is_name_word w || is_literal_word w) ≡ true

-- how many expressions
abbrev pub many : Exprs → ℕ
many end = 0
many (e then es) = suc (many es)

-- a head of the signature, its arguments being well formed
pub record FormedCall (s : Sig) (n h : ℕ) (es : Exprs) (Args : Type 0) : Type 0 where
  pub head : h < heads s
  pub few : many es < n
  pub args : Args

abbrev mutual
  pub Formed : Sig → ℕ → Expr → Type 0
  Formed s n (leaf p w) = LeafWord w
  Formed s n (call p h es) = FormedCall s n h es (FormedAll s n es)

  pub FormedAll : Sig → ℕ → Exprs → Type 0
  FormedAll s n end = Unit {0}
  FormedAll s n (e then es) = Formed s n e × FormedAll s n es

abbrev pub FormedFact : Sig → ℕ → Fact → Type 0
FormedFact s n (holds e) = Formed s n e
FormedFact s n (equal p a b) = Formed s n a × Formed s n b

abbrev pub FormedAction : Sig → ℕ → Action → Type 0
FormedAction s n (let' p x e) = (is_name_word x ≡ true) × Formed s n e
FormedAction s n (set' p h es e) = FormedCall s n h es (FormedAll s n es) × Formed s n e
FormedAction s n (delete' p h es) = FormedCall s n h es (FormedAll s n es)
FormedAction s n (subsume' p h es) = FormedCall s n h es (FormedAll s n es)
FormedAction s n (union' a b) = Formed s n a × Formed s n b
FormedAction s n (panic' l) = is_literal_word l ≡ true
FormedAction s n (expr' e) = Formed s n e

pub record FormedRule (s : Sig) (n : ℕ) (r : Rule) : Type 0 where
  pub facts : All (FormedFact s n) r.facts
  pub actions : All (FormedAction s n) r.actions

-- ---- readers

-- all that a reader reads has a property
abbrev pub Reads : {A : Type 0} → (A → Type 0) → Reader A → Type 0
Reads {A} P one = (p : ℕ) (q : Read A) → one p ≡ ok q → P q.value

module _ {A : Type 0} (P : A → Type 0) where
  pub reads_row : (one : Reader A) → Reads P one → (n : ℕ) → Reads (All P) (read_row one n)
  reads_row one h zero p q k = subst (λ (x : Read (List A)). All P x.value) (ok_inj _ _ k) tt
  reads_row one h (suc n) p q k =
      let a = bind_ok (one p) _ q k in
      let b = bind_ok (read_row one n a.0.at) _ q a.2 in
      subst (λ (x : Read (List A)). All P x.value) (ok_inj _ _ b.2) (h p a.0 a.1, reads_row one h n a.0.at b.0 b.1)

pub reads_word : (ws : List ℕ) (fits : ℕ → Bool) → Reads (λ (w : ℕ). fits w ≡ true) (read_word ws fits)
reads_word ws fits p q k =
    let d = demand_ok (ltb p (length ws) && fits (get_or ws p 0)) unfit p _ q k in
    subst (λ (x : Read ℕ). fits x.value ≡ true) d.1 (and_right (ltb p (length ws)) (fits (get_or ws p 0)) d.0)

module _ (s : Sig) (ws : List ℕ) where
  abbrev size : ℕ
  size = length ws

  -- an expression is well formed, ends behind its first word and inside the record
  pub record ReadExpr (p : ℕ) (q : Read Expr) : Type 0 where
    pub formed : Formed s size q.value
    pub on : p < q.at
    pub inside : q.at ≤ size

  -- n of them
  pub record ReadExprs (n p : ℕ) (q : Read Exprs) : Type 0 where
    pub formed : FormedAll s size q.value
    pub count : many q.value ≡ n
    pub on : p + n ≤ q.at
    pub inside : q.at ≤ size

  many_formed : (one : Reader Expr) → ((p : ℕ) (q : Read Expr) → one p ≡ ok q → ReadExpr p q)
      → (n p : ℕ) (q : Read Exprs) → p ≤ size → read_many one n p ≡ ok q → ReadExprs n p q
  many_formed one h zero p q l k = subst (λ (x : Read Exprs). ReadExprs 0 p x) (ok_inj _ _ k) (record { formed = tt; count = refl; on = omega arith; inside = l })
  many_formed one h (suc n) p q l k =
      let a = bind_ok (one p) _ q k in
      let b = bind_ok (read_many one n a.0.at) _ q a.2 in
      let x = h p a.0 a.1 in
      let y = many_formed one h n a.0.at b.0 x.inside b.1 in
      subst (λ (z : Read Exprs). ReadExprs (suc n) p z) (ok_inj _ _ b.2)
      (record { formed = (x.formed, y.formed); count = ap suc y.count; on = let i = x.on in let j = y.on in omega arith; inside = y.inside })

  -- arguments behind the word at p: fewer than the record has words
  args_few : (h n p : ℕ) (q : Read Exprs) → h < heads s → ReadExprs n (suc p) q → FormedCall s size h q.value (FormedAll s size q.value)
  args_few h n p q l y = record { head = l; few = let i = y.on in let j = y.inside in let c = y.count in omega arith; args = y.formed }

  shape_formed : (inside : Bool) (args : ℕ → Reader Exprs) → ((n p : ℕ) (q : Read Exprs) → p ≤ size → args n p ≡ ok q → ReadExprs n p q) → (w p : ℕ) (q : Read Expr)
      → (i : Bool) → ltb p size ≡ i → (b : Bool) → (is_name_word w || is_literal_word w) ≡ b → (c : Bool) → is_head_word (heads s) w ≡ c
      → read_shape (cond i (cond b is_leaf (cond c is_call is_bad)) is_bad) inside args w p ≡ ok q → ReadExpr p q
  shape_formed inside args h w p q false m b e c f k = absurd (refuse_ok unfit p q k)
  shape_formed true args h w p q true m true e c f k = absurd (refuse_ok too_deep p q k)
  shape_formed false args h w p q true m true e c f k =
      let l = ltb-true p size m in
      subst (λ (x : Read Expr). ReadExpr p x) (ok_inj _ _ k) (record { formed = e; on = omega arith; inside = l })
  shape_formed true args h w p q true m false e true f k = absurd (refuse_ok too_deep p q k)
  shape_formed false args h w p q true m false e true f k =
      let l = ltb-true p size m in
      let a = bind_ok (args (count_of w) (suc p)) _ q k in
      let y = h (count_of w) (suc p) a.0 l a.1 in
      subst (λ (x : Read Expr). ReadExpr p x) (ok_inj _ _ a.2)
      (record { formed = args_few (head_of w) (count_of w) p a.0 (head_below (heads s) w f) y; on = let i = y.on in omega arith; inside = y.inside })
  shape_formed inside args h w p q true m false e false f k = absurd (refuse_ok unfit p q k)

  pub expr_reads : (d p : ℕ) (q : Read Expr) → read_expr s ws d p ≡ ok q → ReadExpr p q
  expr_reads zero p q k =
      let w = get_or ws p 0 in
      shape_formed true (λ n r. refuse too_deep r) (λ n r x l m. absurd (refuse_ok too_deep r x m)) w p q (ltb p size) refl (is_name_word w || is_literal_word w) refl
      (is_head_word (heads s) w) refl k
  expr_reads (suc d) p q k =
      let w = get_or ws p 0 in
      shape_formed false (λ n r. read_many (λ t. read_expr s ws d t) n r) (λ n r x. many_formed (λ t. read_expr s ws d t) (λ t y l. expr_reads d t y l) n r x) w p q
      (ltb p size) refl (is_name_word w || is_literal_word w) refl (is_head_word (heads s) w) refl k

  expr_formed : (d : ℕ) → Reads (Formed s size) (read_expr s ws d)
  expr_formed d p q k = (expr_reads d p q k).formed

  target_formed : Reads (λ (t : Target). FormedCall s size t.head t.args (FormedAll s size t.args)) (read_target s ws)
  target_formed p q k =
      let w = bind_ok (read_word ws (is_head_word (heads s)) p) _ q k in
      let d = demand_ok (ltb p size && is_head_word (heads s) (get_or ws p 0)) unfit p _ w.0 w.1 in
      let l = ltb-true p size (and_left (ltb p size) (is_head_word (heads s) (get_or ws p 0)) d.0) in
      let at : suc p ≡ w.0.at = ap (λ (x : Read ℕ). x.at) d.1 in
      let a = bind_ok (read_many (read_expr s ws max_depth) (count_of w.0.value) w.0.at) _ q w.2 in
      let y = many_formed (read_expr s ws max_depth) (expr_reads max_depth) (count_of w.0.value) w.0.at a.0 (omega arith) a.1 in
      subst (λ (x : Read Target). FormedCall s size x.value.head x.value.args (FormedAll s size x.value.args)) (ok_inj _ _ a.2)
      (args_few (head_of w.0.value) (count_of w.0.value) p a.0 (head_below (heads s) w.0.value (reads_word ws (is_head_word (heads s)) p w.0 w.1))
      (subst (λ (n : ℕ). ReadExprs (count_of w.0.value) n a.0) (sym at) y))

  pub fact_formed : Reads (FormedFact s size) (read_fact s ws)
  fact_formed p q = go (ltb p (length ws) && eqb (get_or ws p 0) equality_word)
    where
      go : (b : Bool) → cond b (read_equal s ws p) (read_holds s ws p) ≡ ok q → FormedFact s size q.value
      go true k =
          let a = bind_ok (read_expr s ws max_depth (suc p)) _ q k in
          let b = bind_ok (read_expr s ws max_depth a.0.at) _ q a.2 in
          subst (λ (x : Read Fact). FormedFact s size x.value) (ok_inj _ _ b.2) (expr_formed max_depth (suc p) a.0 a.1, expr_formed max_depth a.0.at b.0 b.1)
      go false k =
          let a = bind_ok (read_expr s ws max_depth p) _ q k in
          subst (λ (x : Read Fact). FormedFact s size x.value) (ok_inj _ _ a.2) (expr_formed max_depth p a.0 a.1)

  code_formed : (p : ℕ) (c : Code) → Reads (FormedAction s size) (read_code s ws p c)
  code_formed p a_let r q k =
      let x = bind_ok (read_word ws is_name_word r) _ q k in
      let a = bind_ok (read_expr s ws max_depth x.0.at) _ q x.2 in
      subst (λ (y : Read Action). FormedAction s size y.value) (ok_inj _ _ a.2) (reads_word ws is_name_word r x.0 x.1, expr_formed max_depth x.0.at a.0 a.1)
  code_formed p a_set r q k =
      let x = bind_ok (read_target s ws r) _ q k in
      let a = bind_ok (read_expr s ws max_depth x.0.at) _ q x.2 in
      let t = target_formed r x.0 x.1 in
      subst (λ (y : Read Action). FormedAction s size y.value) (ok_inj _ _ a.2) (t, expr_formed max_depth x.0.at a.0 a.1)
  code_formed p a_delete r q k =
      let x = bind_ok (read_target s ws r) _ q k in
      subst (λ (y : Read Action). FormedAction s size y.value) (ok_inj _ _ x.2) (target_formed r x.0 x.1)
  code_formed p a_subsume r q k =
      let x = bind_ok (read_target s ws r) _ q k in
      subst (λ (y : Read Action). FormedAction s size y.value) (ok_inj _ _ x.2) (target_formed r x.0 x.1)
  code_formed p a_union r q k =
      let a = bind_ok (read_expr s ws max_depth r) _ q k in
      let b = bind_ok (read_expr s ws max_depth a.0.at) _ q a.2 in
      subst (λ (y : Read Action). FormedAction s size y.value) (ok_inj _ _ b.2) (expr_formed max_depth r a.0 a.1, expr_formed max_depth a.0.at b.0 b.1)
  code_formed p a_panic r q k =
      let x = bind_ok (read_word ws is_literal_word r) _ q k in
      subst (λ (y : Read Action). FormedAction s size y.value) (ok_inj _ _ x.2) (reads_word ws is_literal_word r x.0 x.1)
  code_formed p an_expression r q k =
      let a = bind_ok (read_expr s ws max_depth r) _ q k in
      subst (λ (y : Read Action). FormedAction s size y.value) (ok_inj _ _ a.2) (expr_formed max_depth r a.0 a.1)
  code_formed p a_call r q k = absurd (refuse_ok unfit p q k)
  code_formed p no_code r q k = absurd (refuse_ok unfit p q k)

  pub written_formed : (r : Rule) → read_written s ws ≡ ok r → FormedRule s size r
  written_formed r k =
      let w = bind_ok (read_word ws is_header_word 0) _ r k in
      let f = bind_ok (read_row (read_fact s ws) (facts_of w.0.value) w.0.at) _ r w.2 in
      let x = bind_ok (read_row (read_action s ws) (actions_of w.0.value) f.0.at) _ r f.2 in
      let d = demand_ok (leb (length ws) x.0.at) unfit x.0.at _ r x.2 in
      subst (λ (y : Rule). FormedRule s size y) d.1
      (record {
        facts = reads_row (FormedFact s size) (read_fact s ws) fact_formed (facts_of w.0.value) w.0.at f.0 f.1;
        actions =
            reads_row (FormedAction s size) (read_action s ws) (λ p. code_formed p (code_at ws p) (suc p)) (actions_of w.0.value) f.0.at x.0 x.1;
      })

-- ---- a union that becomes a set has a well-formed call and a well-formed value

module _ (s : Sig) (n : ℕ) where
  optional_formed : (b : Bool) (q p w h : ℕ) (es : Exprs) → FormedCall s n h es (FormedAll s n es) → LeafWord w → (u : AsSet)
      → optional b (record { place = q; head = h; args = es; value = leaf p w }) ≡ some u
      → FormedCall s n u.head u.args (FormedAll s n u.args) × Formed s n u.value
  optional_formed true q p w h es f g u k =
      subst (λ (x : AsSet). FormedCall s n x.head x.args (FormedAll s n x.args) × Formed s n x.value) (some-injective _ _ k) (f, g)
  optional_formed false q p w h es f g u k = absurd (none-ne-some u k)

  pub as_set_formed : (a b : Expr) → Formed s n a → Formed s n b → (u : AsSet) → union_as_set s a b ≡ some u
      → FormedCall s n u.head u.args (FormedAll s n u.args) × Formed s n u.value
  as_set_formed (leaf p w) (leaf q v) fa fb u e = absurd (none-ne-some u e)
  as_set_formed (call p h es) (call q g fs) fa fb u e = absurd (none-ne-some u e)
  as_set_formed (leaf p w) (call q h es) fa fb u e = optional_formed (is_name w && s.flag && is_constructor s h) q p w h es fb fa u e
  as_set_formed (call q h es) (leaf p w) fa fb u e = optional_formed (is_name w && s.flag && is_constructor s h) q p w h es fa fb u e

-- ---- no fresh variable is written

pub leaf_plain : (w : ℕ) → LeafWord w → is_fresh w ≡ false
leaf_plain w = go (is_name_word w) refl
  where
    below : (n : ℕ) → n ≤ fresh_base → w < n → is_fresh w ≡ false
    below n l h = lt-leb fresh_base w (omega arith)

    go : (b : Bool) → is_name_word w ≡ b → (b || is_literal_word w) ≡ true → is_fresh w ≡ false
    go true e k = below (name_base + limit12) (omega arith) (within_high name_base limit12 w e)
    go false e k = below (literal_base + limit16) (omega arith) (within_high literal_base limit16 w k)
