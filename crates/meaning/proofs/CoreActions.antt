-- Lowering the head (`to_core_actions`) keeps its events, whatever its calls answer. Assumes nothing.
use Prim.Native.Nat.{ℕ}
use native.Mathlib.Nat.{le_refl, le_trans}
use mathlib.Core.Path.{◌≡◌, refl, sym, ◌∙◌, ap, ap₂, subst, fun_ext}
use mathlib.Core.Bool.{Bool, true, false, cond, ◌&&◌}
use mathlib.Core.List.{List, [], ◌∷◌, ◌++◌, map}
use mathlib.Core.Option.{Option, none, some, some-injective, none-ne-some}
use lib.Dec.{eqb}
use borrow.Author.Tests.{eqb-true}
use Rattle.rules.specs.Signature.{Sig, is_var, is_name, is_fresh, elem, is_constructor}
use Rattle.rules.specs.Written.{Expr, Exprs, leaf, call, end, ◌then◌, Action, let', set', delete', subsume', union', panic', expr'}
use Rattle.rules.specs.Flat.{CoreAction, Let, Set, Delete, Subsume, Union, Call}
use Rattle.rules.specs.Refusals.{ok, unbound, already_defined}
use Rattle.rules.specs.ToQuery.{count, Fresh, fresh}
use Rattle.rules.specs.ToCoreActions.{readable, Low, Lows, lower_expr, lower_exprs, Done, lower_set, lower_change, AsSet, optional, union_as_set, lower_union, lower_let, lower_action, to_core_actions}
use Rattle.rules.specs.Canonicalize.{bindings, Replacement}
use Rattle.meaning.specs.Meaning.{World, All, val, Event, called, was_set, deleted, subsumed, united, Answers, Run, upd, give, note}
use Rattle.meaning.specs.Meaning.{run_expr, run_exprs, run_set, UnionSet, union_set, run_union, run_action, run_actions, run_core_action, run_core_actions}
use Rattle.meaning.specs.Demand3.{SameSet}
use Rattle.meaning.proofs.Results.{bind_ok, ok_inj, refuse_ok, demand_ok}
use Rattle.meaning.proofs.Fresh.{Before, Grows, before_later, plain_before, Took, took, fresh_var}
use Rattle.meaning.proofs.Query.{Plain, Plains, AgreePlain, AgreeBefore, val_agree, same_all, Same, upd_same, upd_other, val_fresh, before_plain}
use Rattle.meaning.proofs.Lists.{all_map}
use Rattle.meaning.proofs.Settling.{Bound}
use Rattle.meaning.proofs.Unions.{unions_agree}

abbrev pub PlainAction : Action → Type 0
PlainAction (let' p w e) = Plain e
PlainAction (set' p h es e) = Plains es × Plain e
PlainAction (delete' p h es) = Plains es
PlainAction (subsume' p h es) = Plains es
PlainAction (union' a b) = Plain a × Plain b
PlainAction (panic' l) = Unit {0}
PlainAction (expr' e) = Plain e

module _ {D : Type 0} (s : Sig) (W : World D) (ans : Answers D) where
  pub run_append : (xs ys : List CoreAction) (g : Run D) → run_core_actions s W ans (xs ++ ys) g ≡ run_core_actions s W ans ys (run_core_actions s W ans xs g)
  run_append [] ys g = refl
  run_append (x ∷ xs) ys g = run_append xs ys (run_core_action s W ans x g)

  -- the run of a lowered expression: only later fresh variables change, the events are those of the written one, and so is the value
  pub record Ran (e : Expr) (cs : List ℕ) (term : ℕ) (ρ : ℕ → D) (g k : Run D) : Type 0 where
    pub kept : AgreeBefore cs g.env k.env
    pub events : k.trace ≡ (run_expr s W ans ρ e g.trace).trace
    pub value : val s W k.env term ≡ (run_expr s W ans ρ e g.trace).value

  pub record RanAll (es : Exprs) (cs : List ℕ) (terms : List ℕ) (ρ : ℕ → D) (g k : Run D) : Type 0 where
    pub kept : AgreeBefore cs g.env k.env
    pub events : k.trace ≡ (run_exprs s W ans ρ es g.trace).trace
    pub values : map (val s W k.env) terms ≡ (run_exprs s W ans ρ es g.trace).value

  pub record Lowers (e : Expr) (cs : List ℕ) (r : Low) : Type 0 where
    pub grows : Grows cs r.next
    pub term : Before r.next r.term
    pub runs : (ρ : ℕ → D) (g : Run D) → AgreePlain ρ g.env → Ran e cs r.term ρ g (run_core_actions s W ans r.acts g)

  pub record LowersAll (es : Exprs) (cs : List ℕ) (r : Lows) : Type 0 where
    pub grows : Grows cs r.next
    pub terms : All (Before r.next) r.terms
    pub runs : (ρ : ℕ → D) (g : Run D) → AgreePlain ρ g.env → RanAll es cs r.terms ρ g (run_core_actions s W ans r.acts g)

  lowers_leaf : (p w : ℕ) (cs : List ℕ) → is_fresh w ≡ false → Lowers (leaf p w) cs (record { term = w; acts = []; next = cs })
  lowers_leaf p w cs h =
      record {
        grows = λ x. le_refl _;
        term = plain_before w h cs;
        runs = λ ρ g a. record { kept = λ x b. refl; events = refl; value = val_agree s W g.env ρ w (sym (a w h)) };
      }

  module _ (h : ℕ) (es : Exprs) (cs : List ℕ) (r : Lows) (l : LowersAll es cs r) (f : Fresh) (k : Took h r.next f) where
    -- the own call, after the arguments
    call_ran : (p : ℕ) (ρ : ℕ → D) (g m : Run D) → RanAll es cs r.terms ρ g m → Ran (call p h es) cs f.var ρ g (run_core_action s W ans (Call f.var h r.terms) m)
    call_ran p ρ g m q =
        let v = ans m.trace h (map (val s W m.env) r.terms) in
        let is_it : give s m.env f.var v ≡ upd m.env f.var v = ap (λ (b : Bool). cond b (upd m.env f.var v) m.env) (fresh_var s h (count r.next h) f.var k.is_it) in
        record {
          kept = λ w b.
              q.kept w b
              ∙ sym (upd_other m.env f.var v w (λ e. before_later cs r.next l.grows w b h (count r.next h) (le_refl _) k.small (e ∙ k.is_it)))
              ∙ ap (λ (σ : ℕ → D). σ w) (sym is_it);
          events = ap₂ (λ (t : List (Event D)) (vs : List D). note t (called h vs)) q.events q.values;
          value =
              val_fresh s W (give s m.env f.var v) h (count r.next h) f.var k.is_it
              ∙ ap (λ (σ : ℕ → D). σ f.var) is_it
              ∙ upd_same m.env f.var v
              ∙ ap₂ (λ (t : List (Event D)) (vs : List D). ans t h vs) q.events q.values;
        }

    lowers_call : (p : ℕ) → Lowers (call p h es) cs (record { term = f.var; acts = r.acts ++ Call f.var h r.terms ∷ []; next = f.next })
    lowers_call p =
        record {
          grows = λ x. le_trans (l.grows x) (k.grows x);
          term = k.after;
          runs = λ ρ g a.
              subst (λ (m : Run D). Ran (call p h es) cs f.var ρ g m) (sym (run_append r.acts (Call f.var h r.terms ∷ []) g))
              (call_ran p ρ g (run_core_actions s W ans r.acts g) (l.runs ρ g a));
        }

  lowers_end : (cs : List ℕ) → LowersAll end cs (record { terms = []; acts = []; next = cs })
  lowers_end cs = record { grows = λ x. le_refl _; terms = tt; runs = λ ρ g a. record { kept = λ x b. refl; events = refl; values = refl } }

  agree_on : (ρ : ℕ → D) (cs : List ℕ) (g m : Run D) → AgreePlain ρ g.env → AgreeBefore cs g.env m.env → AgreePlain ρ m.env
  agree_on ρ cs g m a b w n = a w n ∙ before_plain cs g.env m.env b w n

  then_ran : (e : Expr) (es : Exprs) (cs ds : List ℕ) (t : ℕ) (ts : List ℕ) → Before ds t → Grows cs ds → (ρ : ℕ → D) (g m k : Run D)
      → Ran e cs t ρ g m → RanAll es ds ts ρ m k → RanAll (e then es) cs (t ∷ ts) ρ g k
  then_ran e es cs ds t ts bt gr ρ g m k x y =
      record {
        kept = λ w b. x.kept w b ∙ y.kept w (before_later cs ds gr w b);
        events = y.events ∙ ap (λ (z : List (Event D)). (run_exprs s W ans ρ es z).trace) x.events;
        values =
            ap₂ ◌∷◌ (sym (val_agree s W m.env k.env t (y.kept t bt)) ∙ x.value)
            (y.values ∙ ap (λ (z : List (Event D)). (run_exprs s W ans ρ es z).value) x.events);
      }

  lowers_then : (e : Expr) (es : Exprs) (cs : List ℕ) (r : Low) (q : Lows) → Lowers e cs r → LowersAll es r.next q
      → LowersAll (e then es) cs (record { terms = r.term ∷ q.terms; acts = r.acts ++ q.acts; next = q.next })
  lowers_then e es cs r q l k =
      record {
        grows = λ x. le_trans (l.grows x) (k.grows x);
        terms = (before_later r.next q.next k.grows r.term l.term, k.terms);
        runs = λ ρ g a.
            let m = run_core_actions s W ans r.acts g in
            let x = l.runs ρ g a in
            subst (λ (z : Run D). RanAll (e then es) cs (r.term ∷ q.terms) ρ g z) (sym (run_append r.acts q.acts g))
            (then_ran e es cs r.next r.term q.terms l.term l.grows ρ g m (run_core_actions s W ans q.acts m) x
            (k.runs ρ m (agree_on ρ cs g m a x.kept)));
      }

  mutual
    pub lowers : (e : Expr) → Plain e → (bound cs : List ℕ) (r : Low) → lower_expr s bound e cs ≡ ok r → Lowers e cs r
    lowers (leaf p w) h bound cs r e =
        subst (λ (x : Low). Lowers (leaf p w) cs x) (demand_ok (readable s bound w) unbound p _ r e).1 (lowers_leaf p w cs h)
    lowers (call p h es) pl bound cs r e =
        let q = bind_ok (lower_exprs s bound es cs) _ r e in
        let f = bind_ok (fresh p h q.0.next) _ r q.2 in
        subst (λ (x : Low). Lowers (call p h es) cs x) (ok_inj _ _ f.2)
        (lowers_call h es cs q.0 (lowers_all es pl bound cs q.0 q.1) f.0 (took p h q.0.next f.0 f.1) p)

    pub lowers_all : (es : Exprs) → Plains es → (bound cs : List ℕ) (r : Lows) → lower_exprs s bound es cs ≡ ok r → LowersAll es cs r
    lowers_all end h bound cs r e = subst (λ (x : Lows). LowersAll end cs x) (ok_inj _ _ e) (lowers_end cs)
    lowers_all (x then es) h bound cs r e =
        let a = bind_ok (lower_expr s bound x cs) _ r e in
        let b = bind_ok (lower_exprs s bound es a.0.next) _ r a.2 in
        subst (λ (y : Lows). LowersAll (x then es) cs y) (ok_inj _ _ b.2)
        (lowers_then x es cs a.0 b.0 (lowers x h.0 bound cs a.0 a.1) (lowers_all es h.1 bound a.0.next b.0 b.1))

  -- ---- actions

  -- a written and a lowered run stand alike: names have the same values, and the events are the same
  pub record Alike (g m : Run D) : Type 0 where
    pub names : AgreePlain g.env m.env
    pub events : m.trace ≡ g.trace

  abbrev at : (ℕ → D) → List (Event D) → Run D
  at σ t = record { env = σ; trace = t }

  -- arguments, then a value
  pub record SetRan (es : Exprs) (e : Expr) (ts : List ℕ) (t : ℕ) (ρ : ℕ → D) (tr : List (Event D)) (k : Run D) : Type 0 where
    pub names : AgreePlain ρ k.env
    pub events : k.trace ≡ (run_expr s W ans ρ e (run_exprs s W ans ρ es tr).trace).trace
    pub values : map (val s W k.env) ts ≡ (run_exprs s W ans ρ es tr).value
    pub value : val s W k.env t ≡ (run_expr s W ans ρ e (run_exprs s W ans ρ es tr).trace).value

  module _ (es : Exprs) (e : Expr) (cs : List ℕ) (r : Lows) (q : Low) (l : LowersAll es cs r) (k : Lowers e r.next q) where
    set_ran : (ρ σ : ℕ → D) (tr : List (Event D)) → AgreePlain ρ σ → SetRan es e r.terms q.term ρ tr (run_core_actions s W ans (r.acts ++ q.acts) (at σ tr))
    set_ran ρ σ tr a =
        let m = run_core_actions s W ans r.acts (at σ tr) in
        let x = l.runs ρ (at σ tr) a in
        let b = agree_on ρ cs (at σ tr) m a x.kept in
        let n = run_core_actions s W ans q.acts m in
        let y = k.runs ρ m b in
        subst (λ (z : Run D). SetRan es e r.terms q.term ρ tr z) (sym (run_append r.acts q.acts (at σ tr)))
        (record {
          names = agree_on ρ r.next m n b y.kept;
          events = y.events ∙ ap (λ (z : List (Event D)). (run_expr s W ans ρ e z).trace) x.events;
          values =
              sym (same_all s W m.env n.env r.terms (all_map (Before r.next) (Same s W m.env n.env) (λ w h. val_agree s W m.env n.env w (y.kept w h)) r.terms l.terms))
              ∙ x.values;
          value = y.value ∙ ap (λ (z : List (Event D)). (run_expr s W ans ρ e z).value) x.events;
        })

  set_alike : (p h : ℕ) (es : Exprs) (e : Expr) → Plains es → Plain e → (bound cs : List ℕ) (d : Done) → lower_set s bound p h es e cs ≡ ok d
      → (ρ σ : ℕ → D) (tr : List (Event D)) → AgreePlain ρ σ → Alike (run_set s W ans h es e (at ρ tr)) (run_core_actions s W ans d.acts (at σ tr))
  set_alike p h es e pl pe bound cs d k ρ σ tr a =
      let r = bind_ok (lower_exprs s bound es cs) _ d k in
      let q = bind_ok (lower_expr s bound e r.0.next) _ d r.2 in
      let f = bind_ok (fresh p h q.0.next) _ d q.2 in
      let x = set_ran es e cs r.0 q.0 (lowers_all es pl bound cs r.0 r.1) (lowers e pe bound r.0.next q.0 q.1) ρ σ tr a in
      subst (λ (z : Done). Alike (run_set s W ans h es e (at ρ tr)) (run_core_actions s W ans z.acts (at σ tr))) (ok_inj _ _ f.2)
      (subst (λ (z : Run D). Alike (run_set s W ans h es e (at ρ tr)) z) (sym (run_append (r.0.acts ++ q.0.acts) (Set h r.0.terms q.0.term ∷ []) (at σ tr)))
      (record {
        names = x.names;
        events = ap₂ note x.events (ap₂ (was_set h) x.values x.value);
      }))

  -- delete and subsume
  change_alike : (act : ℕ → List ℕ → CoreAction) (event : ℕ → List D → Event D)
      → ((h : ℕ) (ts : List ℕ) (g : Run D) → run_core_action s W ans (act h ts) g ≡ at g.env (note g.trace (event h (map (val s W g.env) ts))))
      → (p h : ℕ) (es : Exprs) → Plains es → (bound cs : List ℕ) (d : Done) → lower_change s bound act p h es cs ≡ ok d
      → (ρ σ : ℕ → D) (tr : List (Event D)) → AgreePlain ρ σ
      → Alike (at ρ (note (run_exprs s W ans ρ es tr).trace (event h (run_exprs s W ans ρ es tr).value))) (run_core_actions s W ans d.acts (at σ tr))
  change_alike act event does p h es pl bound cs d k ρ σ tr a =
      let r = bind_ok (lower_exprs s bound es cs) _ d k in
      let f = bind_ok (fresh p h r.0.next) _ d r.2 in
      let m = run_core_actions s W ans r.0.acts (at σ tr) in
      let x = (lowers_all es pl bound cs r.0 r.1).runs ρ (at σ tr) a in
      subst (λ (z : Done). Alike (at ρ (note (run_exprs s W ans ρ es tr).trace (event h (run_exprs s W ans ρ es tr).value))) (run_core_actions s W ans z.acts (at σ tr))) (ok_inj _ _ f.2)
      (subst (λ (z : Run D). Alike (at ρ (note (run_exprs s W ans ρ es tr).trace (event h (run_exprs s W ans ρ es tr).value))) z)
      (sym (run_append r.0.acts (act h r.0.terms ∷ []) (at σ tr) ∙ does h r.0.terms m))
      (record { names = agree_on ρ cs (at σ tr) m a x.kept; events = ap₂ note x.events (ap (event h) x.values) }))

  -- a name gets the same value on both sides
  give_agree : (ρ σ : ℕ → D) (x : ℕ) (u v : D) → u ≡ v → AgreePlain ρ σ → AgreePlain (give s ρ x u) (give s σ x v)
  give_agree ρ σ x u v e a w n = go (is_var s x)
    where
      one : (c : Bool) → cond c u (ρ w) ≡ cond c v (σ w)
      one true = e
      one false = a w n

      go : (b : Bool) → cond b (upd ρ x u) ρ w ≡ cond b (upd σ x v) σ w
      go true = one (eqb w x)
      go false = a w n

  let_alike : (p w : ℕ) (e : Expr) → Plain e → (bound cs : List ℕ) (d : Done) → (b : Bool) → lower_let b s bound p w e cs ≡ ok d
      → (ρ σ : ℕ → D) (tr : List (Event D)) → AgreePlain ρ σ → Alike (run_action s W ans (let' p w e) (at ρ tr)) (run_core_actions s W ans d.acts (at σ tr))
  let_alike p w e pe bound cs d true k ρ σ tr a = absurd (refuse_ok already_defined p d k)
  let_alike p w e pe bound cs d false k ρ σ tr a =
      let r = bind_ok (lower_expr s bound e cs) _ d k in
      let m = run_core_actions s W ans r.0.acts (at σ tr) in
      let x = (lowers e pe bound cs r.0 r.1).runs ρ (at σ tr) a in
      subst (λ (z : Done). Alike (run_action s W ans (let' p w e) (at ρ tr)) (run_core_actions s W ans z.acts (at σ tr))) (ok_inj _ _ r.2)
      (subst (λ (z : Run D). Alike (run_action s W ans (let' p w e) (at ρ tr)) z) (sym (run_append r.0.acts (Let w r.0.term ∷ []) (at σ tr)))
      (record {
        names = give_agree ρ m.env w (run_expr s W ans ρ e tr).value (val s W m.env r.0.term) (sym x.value) (agree_on ρ cs (at σ tr) m a x.kept);
        events = x.events;
      }))

  -- the parts of a union that means a set
  plain_as_set : (a b : Expr) → Plain a → Plain b → (u : AsSet) → union_as_set s a b ≡ some u → Plains u.args × Plain u.value
  plain_as_set (leaf p w) (leaf q v) pa pb u e = absurd (none-ne-some u e)
  plain_as_set (call p h es) (call q g fs) pa pb u e = absurd (none-ne-some u e)
  plain_as_set (leaf p w) (call q h es) pa pb u e = go (is_name w && s.flag && is_constructor s h) e
    where
      go : (b : Bool) → optional b (record { place = q; head = h; args = es; value = leaf p w }) ≡ some u → Plains u.args × Plain u.value
      go true k = subst (λ (x : AsSet). Plains x.args × Plain x.value) (some-injective _ _ k) (pb, pa)
      go false k = absurd (none-ne-some u k)
  plain_as_set (call q h es) (leaf p w) pa pb u e = go (is_name w && s.flag && is_constructor s h) e
    where
      go : (b : Bool) → optional b (record { place = q; head = h; args = es; value = leaf p w }) ≡ some u → Plains u.args × Plain u.value
      go true k = subst (λ (x : AsSet). Plains x.args × Plain x.value) (some-injective _ _ k) (pa, pb)
      go false k = absurd (none-ne-some u k)

  -- a union proper is one argument, then the other
  union_alike : (x y : Expr) → Plain x → Plain y → (o : Option AsSet) → union_as_set s x y ≡ o → (m : Option UnionSet) → SameSet o m
      → (bound cs : List ℕ) (d : Done) → lower_union s bound o x y cs ≡ ok d
      → (ρ σ : ℕ → D) (tr : List (Event D)) → AgreePlain ρ σ → Alike (run_union s W ans m x y (at ρ tr)) (run_core_actions s W ans d.acts (at σ tr))
  union_alike x y px py (some u) e (some v) same bound cs d k ρ σ tr a =
      let pu = plain_as_set x y px py u e in
      subst (λ (z : Run D). Alike z (run_core_actions s W ans d.acts (at σ tr)))
      (λ i. run_set s W ans (same.0 i) (same.1 i) (same.2.1 i) (at ρ tr))
      (set_alike u.place u.head u.args u.value pu.0 pu.1 bound cs d k ρ σ tr a)
  union_alike x y px py (some u) e none same bound cs d k ρ σ tr a = absurd same
  union_alike x y px py none e (some v) same bound cs d k ρ σ tr a = absurd same
  union_alike x y px py none e none same bound cs d k ρ σ tr a =
      let r = bind_ok (lower_expr s bound x cs) _ d k in
      let q = bind_ok (lower_expr s bound y r.0.next) _ d r.2 in
      let l = lowers x px bound cs r.0 r.1 in
      let m = run_core_actions s W ans r.0.acts (at σ tr) in
      let n = run_core_actions s W ans q.0.acts m in
      let u = l.runs ρ (at σ tr) a in
      let b = agree_on ρ cs (at σ tr) m a u.kept in
      let v = (lowers y py bound r.0.next q.0 q.1).runs ρ m b in
      subst (λ (z : Done). Alike (run_union s W ans none x y (at ρ tr)) (run_core_actions s W ans z.acts (at σ tr))) (ok_inj _ _ q.2)
      (subst (λ (z : Run D). Alike (run_union s W ans none x y (at ρ tr)) z)
      (sym
      (run_append (r.0.acts ++ q.0.acts) (Union r.0.term q.0.term ∷ []) (at σ tr)
      ∙ ap (λ (z : Run D). run_core_action s W ans (Union r.0.term q.0.term) z) (run_append r.0.acts q.0.acts (at σ tr))))
      (record {
        names = agree_on ρ r.0.next m n b v.kept;
        events =
            ap₂ note (v.events ∙ ap (λ (z : List (Event D)). (run_expr s W ans ρ y z).trace) u.events)
            (ap₂ united (sym (val_agree s W m.env n.env r.0.term (v.kept r.0.term l.term)) ∙ u.value)
            (v.value ∙ ap (λ (z : List (Event D)). (run_expr s W ans ρ y z).value) u.events));
      }))

  action_alike : (x : Action) → PlainAction x → (bound cs : List ℕ) (d : Done) → lower_action s bound x cs ≡ ok d
      → (ρ σ : ℕ → D) (tr : List (Event D)) → AgreePlain ρ σ → Alike (run_action s W ans x (at ρ tr)) (run_core_actions s W ans d.acts (at σ tr))
  action_alike (let' p w e) pl bound cs d k ρ σ tr a = let_alike p w e pl bound cs d (elem w bound) k ρ σ tr a
  action_alike (set' p h es e) pl bound cs d k ρ σ tr a = set_alike p h es e pl.0 pl.1 bound cs d k ρ σ tr a
  action_alike (delete' p h es) pl bound cs d k ρ σ tr a = change_alike Delete deleted (λ g ts m. refl) p h es pl bound cs d k ρ σ tr a
  action_alike (subsume' p h es) pl bound cs d k ρ σ tr a = change_alike Subsume subsumed (λ g ts m. refl) p h es pl bound cs d k ρ σ tr a
  action_alike (union' x y) pl bound cs d k ρ σ tr a = union_alike x y pl.0 pl.1 (union_as_set s x y) refl (union_set s x y) (unions_agree s x y) bound cs d k ρ σ tr a
  action_alike (panic' l) pl bound cs d k ρ σ tr a =
      subst (λ (z : Done). Alike (run_action s W ans (panic' l) (at ρ tr)) (run_core_actions s W ans z.acts (at σ tr))) (ok_inj _ _ k) (record { names = a; events = refl })
  action_alike (expr' e) pl bound cs d k ρ σ tr a =
      let r = bind_ok (lower_expr s bound e cs) _ d k in
      let x = (lowers e pl bound cs r.0 r.1).runs ρ (at σ tr) a in
      subst (λ (z : Done). Alike (run_action s W ans (expr' e) (at ρ tr)) (run_core_actions s W ans z.acts (at σ tr))) (ok_inj _ _ r.2)
      (record { names = agree_on ρ cs (at σ tr) (run_core_actions s W ans r.0.acts (at σ tr)) a x.kept; events = x.events })

  pub actions_alike : (xs : List Action) → All PlainAction xs → (bound cs : List ℕ) (d : Done) → to_core_actions s bound xs cs ≡ ok d
      → (g m : Run D) → Alike g m → Alike (run_actions s W ans xs g) (run_core_actions s W ans d.acts m)
  actions_alike [] pl bound cs d k g m a = subst (λ (z : Done). Alike g (run_core_actions s W ans z.acts m)) (ok_inj _ _ k) a
  actions_alike (x ∷ xs) pl bound cs d k g m a =
      let r = bind_ok (lower_action s bound x cs) _ d k in
      let q = bind_ok (to_core_actions s r.0.bound xs r.0.next) _ d r.2 in
      let one =
      subst (λ (t : List (Event D)). Alike (run_action s W ans x g) (run_core_actions s W ans r.0.acts (at m.env t))) (sym a.events)
      (action_alike x pl.0 bound cs r.0 r.1 g.env m.env g.trace a.names) in
      subst (λ (z : Done). Alike (run_actions s W ans (x ∷ xs) g) (run_core_actions s W ans z.acts m)) (ok_inj _ _ q.2)
      (subst (λ (z : Run D). Alike (run_actions s W ans (x ∷ xs) g) z) (sym (run_append r.0.acts q.0.acts m))
      (actions_alike xs pl.1 r.0.bound r.0.next q.0 q.1 (run_action s W ans x g) (run_core_actions s W ans r.0.acts m) one))

  -- ---- the bindings change nothing where they hold

  bind_same : (σ : ℕ → D) (r : Replacement) → Bound s W σ r → give s σ r.old (val s W σ r.new) ≡ σ
  bind_same σ r h = go (is_var s r.old) refl
    where
      one : is_var s r.old ≡ true → (w : ℕ) (c : Bool) → eqb w r.old ≡ c → cond c (val s W σ r.new) (σ w) ≡ σ w
      one b w true e = sym h ∙ ap (λ (c : Bool). cond c (σ r.old) (W.fixed r.old)) b ∙ ap σ (sym (eqb-true w r.old e))
      one b w false e = refl

      go : (b : Bool) → is_var s r.old ≡ b → cond b (upd σ r.old (val s W σ r.new)) σ ≡ σ
      go true b = fun_ext (λ w. one b w (eqb w r.old) refl)
      go false b = refl

  pub bindings_run : (rs : List Replacement) (σ : ℕ → D) (t : List (Event D)) → All (Bound s W σ) rs → run_core_actions s W ans (bindings rs) (at σ t) ≡ at σ t
  bindings_run [] σ t h = refl
  bindings_run (r ∷ rs) σ t h = ap (λ (τ : ℕ → D). run_core_actions s W ans (bindings rs) (at τ t)) (bind_same σ r h.0) ∙ bindings_run rs σ t h.1
