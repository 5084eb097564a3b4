-- 01, "Lowering the head": the source's `to_core_actions`, and `to_core_rule`, which joins it to the body.
--
--     written  (set (f (g x)) 1)      flat  (call @g.0 (g x)) (set (f @g.0) 1), and one count of f is used up
--
-- Assumes nothing: these are definitions.
use Rattle.std.specs.Prelude.{ℕ, Bool, true, false, ◌||◌, ◌&&◌, not, List, [], ◌∷◌, ◌++◌}
use Rattle.std.proofs.Math.Option.{Option, none, some}
use Rattle.rules.specs.Refusals.{Res, ok, refuse, ◌>>=◌, demand, unbound, already_defined}
use Rattle.rules.specs.Signature.{Sig, is_constructor, is_var, is_name, elem}
use Rattle.rules.specs.Written.{Expr, Exprs, leaf, call, end, ◌then◌, Action, let', set', delete', subsume', union', panic', expr', Rule}
use Rattle.rules.specs.Flat.{Atom, CoreAction, Let, Set, Delete, Subsume, Union, Panic, Call}
use Rattle.rules.specs.ToQuery.{fresh, to_query, body_vars}

-- ---- expressions

-- a leaf may be read: it is a literal or a global, also after a let of it, or it is bound
abbrev pub readable : Sig → List ℕ → ℕ → Bool
readable s bound w = not (is_var s w) || elem w bound

-- the term that stands for an expression, its actions, the counters after them
pub record Low : Type 0 where
  pub term : ℕ
  pub acts : List CoreAction
  pub next : List ℕ

pub record Lows : Type 0 where
  pub terms : List ℕ
  pub acts : List CoreAction
  pub next : List ℕ

-- a call takes its fresh variable after its arguments, and becomes action 7
abbrev mutual
  pub lower_expr : Sig → List ℕ → Expr → List ℕ → Res Low
  lower_expr s bound (leaf p w) cs = demand (readable s bound w) unbound p (record { term = w; acts = []; next = cs })
  lower_expr s bound (call p h es) cs = do
    r ← lower_exprs s bound es cs
    f ← fresh p h r.next
    ok (record { term = f.var; acts = r.acts ++ Call f.var h r.terms ∷ []; next = f.next })

  pub lower_exprs : Sig → List ℕ → Exprs → List ℕ → Res Lows
  lower_exprs s bound end cs = ok (record { terms = []; acts = []; next = cs })
  lower_exprs s bound (e then es) cs = do
    r ← lower_expr s bound e cs
    q ← lower_exprs s bound es r.next
    ok (record { terms = r.term ∷ q.terms; acts = r.acts ++ q.acts; next = q.next })

-- ---- actions

-- what an action lowers to: its flat actions, the names bound after it, the counters after it
pub record Done : Type 0 where
  pub acts : List CoreAction
  pub bound : List ℕ
  pub next : List ℕ

-- arguments, then the value; one count of the head is used up after the action, and binds nothing
abbrev pub lower_set : Sig → List ℕ → ℕ → ℕ → Exprs → Expr → List ℕ → Res Done
lower_set s bound p h es e cs = do
  r ← lower_exprs s bound es cs
  q ← lower_expr s bound e r.next
  f ← fresh p h q.next
  ok (record { acts = r.acts ++ q.acts ++ Set h r.terms q.term ∷ []; bound = bound; next = f.next })

-- delete and subsume likewise; the source's `Change`
abbrev pub lower_change : Sig → List ℕ → (ℕ → List ℕ → CoreAction) → ℕ → ℕ → Exprs → List ℕ → Res Done
lower_change s bound change p h es cs = do
  r ← lower_exprs s bound es cs
  f ← fresh p h r.next
  ok (record { acts = r.acts ++ change h r.terms ∷ []; bound = bound; next = f.next })

-- the set that a union of a name and a constructor call, in either order, becomes with the flag on
pub record AsSet : Type 0 where
  pub place : ℕ
  pub head : ℕ
  pub args : Exprs
  pub value : Expr

abbrev pub optional : {A : Type 0} → Bool → A → Option A
optional true a = some a
optional false a = none

abbrev pub union_as_set : Sig → Expr → Expr → Option AsSet
union_as_set s (leaf p w) (leaf q v) = none
union_as_set s (leaf p w) (call q h es) =
    optional (is_name w && s.flag && is_constructor s h) (record { place = q; head = h; args = es; value = leaf p w })
union_as_set s (call q h es) (leaf p w) =
    optional (is_name w && s.flag && is_constructor s h) (record { place = q; head = h; args = es; value = leaf p w })
union_as_set s (call p h es) (call q g fs) = none

abbrev pub lower_union : Sig → List ℕ → Option AsSet → Expr → Expr → List ℕ → Res Done
lower_union s bound (some u) a b cs = lower_set s bound u.place u.head u.args u.value cs
lower_union s bound none a b cs = do
  r ← lower_expr s bound a cs
  q ← lower_expr s bound b r.next
  ok (record { acts = r.acts ++ q.acts ++ Union r.term q.term ∷ []; bound = bound; next = q.next })

-- a let tests its name before its expression, then binds it
abbrev pub lower_let : Bool → Sig → List ℕ → ℕ → ℕ → Expr → List ℕ → Res Done
lower_let true s bound p x e cs = refuse already_defined p
lower_let false s bound p x e cs = do
  r ← lower_expr s bound e cs
  ok (record { acts = r.acts ++ Let x r.term ∷ []; bound = x ∷ bound; next = r.next })

-- an expression action leaves only its calls
abbrev pub lower_action : Sig → List ℕ → Action → List ℕ → Res Done
lower_action s bound (let' p x e) cs = lower_let (elem x bound) s bound p x e cs
lower_action s bound (set' p h es e) cs = lower_set s bound p h es e cs
lower_action s bound (delete' p h es) cs = lower_change s bound Delete p h es cs
lower_action s bound (subsume' p h es) cs = lower_change s bound Subsume p h es cs
lower_action s bound (union' a b) cs = lower_union s bound (union_as_set s a b) a b cs
lower_action s bound (panic' l) cs = ok (record { acts = Panic l ∷ []; bound = bound; next = cs })
lower_action s bound (expr' e) cs = do
  r ← lower_expr s bound e cs
  ok (record { acts = r.acts; bound = bound; next = r.next })

abbrev pub to_core_actions : Sig → List ℕ → List Action → List ℕ → Res Done
to_core_actions s bound [] cs = ok (record { acts = []; bound = bound; next = cs })
to_core_actions s bound (a ∷ xs) cs = do
  r ← lower_action s bound a cs
  q ← to_core_actions s r.bound xs r.next
  ok (record { acts = r.acts ++ q.acts; bound = q.bound; next = q.next })

-- ---- a rule

-- the flat body, the head, and the counters after both
pub record CoreRule : Type 0 where
  pub body : List Atom
  pub head : List CoreAction
  pub next : List ℕ

-- bound at first: the variables of the flat atoms
abbrev pub to_core_rule : Sig → Rule → List ℕ → Res CoreRule
to_core_rule s r cs = do
  q ← to_query r.facts cs
  d ← to_core_actions s (body_vars s q.atoms) r.actions q.next
  ok (record { body = q.atoms; head = d.acts; next = d.next })
