-- How large a lowered head is: at most four words for each word of the actions.
-- Assumes nothing.
use Prim.Native.Nat.{ℕ, suc, ◌+◌, ◌*◌, ◌≤◌}
use native.Mathlib.Omega.{arith}
use mathlib.Core.Path.{◌≡◌, refl, subst}
use mathlib.Core.Bool.{Bool, true, false, ◌&&◌}
use mathlib.Core.List.{List, [], ◌∷◌, ◌++◌}
use mathlib.Core.Option.{Option, none, some, some-injective, none-ne-some}
use lib.ListN.{length, length-append}
use Rattle.rules.specs.Refusals.{ok, unbound, already_defined}
use Rattle.rules.specs.Signature.{Sig, is_name, is_constructor, elem}
use Rattle.rules.specs.Written.{Expr, Exprs, leaf, call, end, ◌then◌, Action, let', set', delete', subsume', union', panic', expr'}
use Rattle.rules.specs.Flat.{CoreAction, Let, Set, Delete, Subsume, Union, Call, action_words, words_of}
use Rattle.rules.specs.ToQuery.{fresh}
use Rattle.rules.specs.ToCoreActions.{readable, Low, Lows, lower_expr, lower_exprs, Done, lower_set, lower_change, AsSet, optional, union_as_set, lower_union, lower_let, lower_action, to_core_actions}
use Rattle.meaning.proofs.Sizes.{expr_size, exprs_size, action_size, total}
use Rattle.meaning.proofs.Lists.{length_words_append}
use Rattle.meaning.proofs.Results.{refuse_ok, ok_inj, bind_ok, demand_ok}

abbrev size : List CoreAction → ℕ
size xs = length (words_of action_words xs)

both : (xs ys : List CoreAction) → size (xs ++ ys) ≡ size xs + size ys
both = length_words_append action_words

one : (x : CoreAction) → size (x ∷ []) ≡ length (action_words x)
one x = omega (arith, length-append (action_words x) [])

optional_size : (c : Bool) (v u : AsSet) (n : ℕ) → optional c v ≡ some u → 1 + exprs_size v.args + expr_size v.value ≡ n
    → 1 + exprs_size u.args + expr_size u.value ≡ n
optional_size true v u n e k = subst (λ (x : AsSet). 1 + exprs_size x.args + expr_size x.value ≡ n) (some-injective _ _ e) k
optional_size false v u n e k = absurd (none-ne-some u e)

module _ (s : Sig) (bound : List ℕ) where
  -- each expression leaves one for its term
  mutual
    low_size : (e : Expr) (cs : List ℕ) (r : Low) → lower_expr s bound e cs ≡ ok r → suc (size r.acts) ≤ 4 * expr_size e
    low_size (leaf p w) cs r e =
        let d = demand_ok (readable s bound w) unbound p _ r e in
        subst (λ (x : Low). suc (size x.acts) ≤ 4 * 1) d.1 (omega arith)
    low_size (call p h es) cs r e =
        let q = bind_ok (lower_exprs s bound es cs) _ r e in
        let f = bind_ok (fresh p h q.0.next) _ r q.2 in
        let x = Call f.0.var h q.0.terms in
        let i = lows_size es cs q.0 q.1 in
        subst (λ (y : Low). suc (size y.acts) ≤ 4 * expr_size (call p h es)) (ok_inj _ _ f.2) (omega (arith, both q.0.acts (x ∷ []), one x))

    lows_size : (es : Exprs) (cs : List ℕ) (r : Lows) → lower_exprs s bound es cs ≡ ok r → length r.terms + size r.acts ≤ 4 * exprs_size es
    lows_size end cs r e = subst (λ (x : Lows). length x.terms + size x.acts ≤ 4 * 0) (ok_inj _ _ e) (omega arith)
    lows_size (x then es) cs r e =
        let a = bind_ok (lower_expr s bound x cs) _ r e in
        let b = bind_ok (lower_exprs s bound es a.0.next) _ r a.2 in
        let i = low_size x cs a.0 a.1 in
        let j = lows_size es a.0.next b.0 b.1 in
        subst (λ (y : Lows). length y.terms + size y.acts ≤ 4 * exprs_size (x then es)) (ok_inj _ _ b.2)
        (omega (arith, both a.0.acts b.0.acts))

  -- ---- actions

  set_size : (p h : ℕ) (es : Exprs) (x : Expr) (cs : List ℕ) (r : Done) → lower_set s bound p h es x cs ≡ ok r
      → size r.acts ≤ 2 + 4 * (exprs_size es + expr_size x)
  set_size p h es x cs r e =
      let a = bind_ok (lower_exprs s bound es cs) _ r e in
      let b = bind_ok (lower_expr s bound x a.0.next) _ r a.2 in
      let f = bind_ok (fresh p h b.0.next) _ r b.2 in
      let y = Set h a.0.terms b.0.term in
      let i = lows_size es cs a.0 a.1 in
      let j = low_size x a.0.next b.0 b.1 in
      subst (λ (z : Done). size z.acts ≤ 2 + 4 * (exprs_size es + expr_size x)) (ok_inj _ _ f.2)
      (omega (arith, both (a.0.acts ++ b.0.acts) (y ∷ []), both a.0.acts b.0.acts, one y, length-append a.0.terms (b.0.term ∷ [])))

  change_size : (change : ℕ → List ℕ → CoreAction) → ((h : ℕ) (ts : List ℕ) → length (action_words (change h ts)) ≡ 2 + length ts)
      → (p h : ℕ) (es : Exprs) (cs : List ℕ) (r : Done) → lower_change s bound change p h es cs ≡ ok r → size r.acts ≤ 4 * (2 + exprs_size es)
  change_size change w p h es cs r e =
      let a = bind_ok (lower_exprs s bound es cs) _ r e in
      let f = bind_ok (fresh p h a.0.next) _ r a.2 in
      let y = change h a.0.terms in
      let i = lows_size es cs a.0 a.1 in
      subst (λ (z : Done). size z.acts ≤ 4 * (2 + exprs_size es)) (ok_inj _ _ f.2)
      (omega (arith, both a.0.acts (y ∷ []), one y, w h a.0.terms))

  -- a union that becomes a set has the words of that set's parts
  asset_size : (a b : Expr) (u : AsSet) → union_as_set s a b ≡ some u → 1 + exprs_size u.args + expr_size u.value ≡ expr_size a + expr_size b
  asset_size (leaf p w) (leaf q v) u e = absurd (none-ne-some u e)
  asset_size (leaf p w) (call q h es) u e =
      optional_size (is_name w && s.flag && is_constructor s h) _ u (expr_size (leaf p w) + expr_size (call q h es)) e (omega arith)
  asset_size (call q h es) (leaf p w) u e =
      optional_size (is_name w && s.flag && is_constructor s h) _ u (expr_size (call q h es) + expr_size (leaf p w)) e (omega arith)
  asset_size (call p h es) (call q g fs) u e = absurd (none-ne-some u e)

  union_size : (a b : Expr) (cs : List ℕ) (r : Done) (o : Option AsSet) → union_as_set s a b ≡ o → lower_union s bound o a b cs ≡ ok r
      → size r.acts ≤ 4 * (1 + expr_size a + expr_size b)
  union_size a b cs r (some u) w e = omega (arith, set_size u.place u.head u.args u.value cs r e, asset_size a b u w)
  union_size a b cs r none w e =
      let x = bind_ok (lower_expr s bound a cs) _ r e in
      let y = bind_ok (lower_expr s bound b x.0.next) _ r x.2 in
      let z = Union x.0.term y.0.term in
      let i = low_size a cs x.0 x.1 in
      let j = low_size b x.0.next y.0 y.1 in
      subst (λ (d : Done). size d.acts ≤ 4 * (1 + expr_size a + expr_size b)) (ok_inj _ _ y.2)
      (omega (arith, both (x.0.acts ++ y.0.acts) (z ∷ []), both x.0.acts y.0.acts, one z))

  let_size : (b : Bool) (p x : ℕ) (y : Expr) (cs : List ℕ) (r : Done) → lower_let b s bound p x y cs ≡ ok r → size r.acts ≤ 4 * (2 + expr_size y)
  let_size true p x y cs r e = absurd (refuse_ok already_defined p r e)
  let_size false p x y cs r e =
      let a = bind_ok (lower_expr s bound y cs) _ r e in
      let z = Let x a.0.term in
      let i = low_size y cs a.0 a.1 in
      subst (λ (d : Done). size d.acts ≤ 4 * (2 + expr_size y)) (ok_inj _ _ a.2) (omega (arith, both a.0.acts (z ∷ []), one z))

  lower_action_size : (x : Action) (cs : List ℕ) (r : Done) → lower_action s bound x cs ≡ ok r → size r.acts ≤ 4 * action_size x
  lower_action_size (let' p x y) cs r e = let_size (elem x bound) p x y cs r e
  lower_action_size (set' p h es y) cs r e = omega (arith, set_size p h es y cs r e)
  lower_action_size (delete' p h es) cs r e = change_size Delete (λ g ts. omega arith) p h es cs r e
  lower_action_size (subsume' p h es) cs r e = change_size Subsume (λ g ts. omega arith) p h es cs r e
  lower_action_size (union' a b) cs r e = union_size a b cs r (union_as_set s a b) refl e
  lower_action_size (panic' l) cs r e = subst (λ (d : Done). size d.acts ≤ 4 * 2) (ok_inj _ _ e) (omega arith)
  lower_action_size (expr' y) cs r e =
      let a = bind_ok (lower_expr s bound y cs) _ r e in
      let i = low_size y cs a.0 a.1 in
      subst (λ (d : Done). size d.acts ≤ 4 * (1 + expr_size y)) (ok_inj _ _ a.2) (omega arith)

-- a lowered head has at most four words for each word of the actions
pub head_words : (s : Sig) (bound : List ℕ) (xs : List Action) (cs : List ℕ) (d : Done) → to_core_actions s bound xs cs ≡ ok d
    → length (words_of action_words d.acts) ≤ 4 * total action_size xs
head_words s bound [] cs d e = subst (λ (z : Done). size z.acts ≤ 4 * 0) (ok_inj _ _ e) (omega arith)
head_words s bound (x ∷ xs) cs d e =
    let a = bind_ok (lower_action s bound x cs) _ d e in
    let b = bind_ok (to_core_actions s a.0.bound xs a.0.next) _ d a.2 in
    let i = lower_action_size s bound x cs a.0 a.1 in
    let j = head_words s a.0.bound xs a.0.next b.0 b.1 in
    subst (λ (z : Done). size z.acts ≤ 4 * total action_size (x ∷ xs)) (ok_inj _ _ b.2) (omega (arith, both a.0.acts b.0.acts))
