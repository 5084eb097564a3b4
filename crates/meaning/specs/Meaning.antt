-- 01, "Meaning, for demand 3": when values meet facts and atoms, and which events a head gives.
--
-- D is the type of values, which may be any. Values of variables are functions from words to values; the words that are not asked don't matter.
-- Assumes nothing: these are definitions.
use Rattle.std.specs.Prelude.{ℕ, ◌≡◌, cond, List, [], ◌∷◌, ◌++◌, map, eqb}
use Rattle.std.proofs.Math.Option.{Option, none, some}
use Rattle.rules.specs.Signature.{Sig, is_var, is_name, is_constructor}
use Rattle.rules.specs.Words.{unit}
use Rattle.rules.specs.Written.{Expr, Exprs, leaf, call, end, ◌then◌, Fact, holds, equal, Action, let', set', delete', subsume', union', panic', expr'}
use Rattle.rules.specs.Flat.{Tab, Atom, eqn, tab, CoreAction, Let, Set, Delete, Subsume, Union, Panic, Call}

-- ---- what a rule is run in

-- globals and literals have fixed values, and a head's table maps input lists of any length to at most one output
pub record World (D : Type 0) : Type 0 where
  pub fixed : ℕ → D
  pub table : ℕ → List D → Option D

-- what demand 3 supposes of value-eq: Unit for two equal values, and an output for no others
pub record ValueEq (D : Type 0) (s : Sig) (W : World D) : Type 0 where
  pub same : (a : D) → W.table s.value_eq (a ∷ a ∷ []) ≡ some (W.fixed unit)
  pub only : (a b v : D) → W.table s.value_eq (a ∷ b ∷ []) ≡ some v → a ≡ b

-- each of a list
abbrev pub All {ℓ} : {A : Type ℓ} → (A → Type 0) → List A → Type 0
All P [] = Unit {0}
All P (x ∷ xs) = P x × All P xs

abbrev pub and_then : {A B : Type 0} → Option A → (A → Option B) → Option B
and_then none f = none
and_then (some a) f = f a

-- the value of a term, where the variables have the values σ
abbrev pub val : {D : Type 0} → Sig → World D → (ℕ → D) → ℕ → D
val s W σ w = cond (is_var s w) (σ w) (W.fixed w)

-- ---- facts: a call's value is its table's output, or none

abbrev mutual
  pub eval : {D : Type 0} → Sig → World D → (ℕ → D) → Expr → Option D
  eval s W ρ (leaf p w) = some (val s W ρ w)
  eval s W ρ (call p h es) = and_then (eval_all s W ρ es) (λ vs. W.table h vs)

  pub eval_all : {D : Type 0} → Sig → World D → (ℕ → D) → Exprs → Option (List D)
  eval_all s W ρ end = some []
  eval_all s W ρ (e then es) = and_then (eval s W ρ e) (λ v. and_then (eval_all s W ρ es) (λ vs. some (v ∷ vs)))

-- an expression fact holds when it has a value, an equality when both sides have values and they are equal
abbrev pub FactHolds : {D : Type 0} → Sig → World D → (ℕ → D) → Fact → Type 0
FactHolds {D} s W ρ (holds e) = (v : D) × (eval s W ρ e ≡ some v)
FactHolds {D} s W ρ (equal p a b) = (v : D) × (eval s W ρ a ≡ some v) × (eval s W ρ b ≡ some v)

-- ---- atoms

-- the head's table gives the last term's value for the values of the terms before it
abbrev pub TabHolds : {D : Type 0} → Sig → World D → (ℕ → D) → Tab → Type 0
TabHolds s W σ t = W.table t.head (map (val s W σ) t.ins) ≡ some (val s W σ t.out)

abbrev pub AtomHolds : {D : Type 0} → Sig → World D → (ℕ → D) → Atom → Type 0
AtomHolds s W σ (eqn p a b) = val s W σ a ≡ val s W σ b
AtomHolds s W σ (tab t) = TabHolds s W σ t

-- ---- heads: their events

-- call, set, delete, subsume, union, panic, with head and values in order, a panic with its literal
pub data Event (D : Type 0) : Type 0 where
  called : (head : ℕ) → List D → Event D
  was_set : (head : ℕ) → List D → D → Event D
  deleted subsumed : (head : ℕ) → List D → Event D
  united : D → D → Event D
  panicked : (literal : ℕ) → Event D

-- the answer to a call in a head: any value, fixed by that call and all events before it
abbrev pub Answers : Type 0 → Type 0
Answers D = List (Event D) → ℕ → List D → D

-- a run so far: the variables' values, and the events in order
pub record Run (D : Type 0) : Type 0 where
  pub env : ℕ → D
  pub trace : List (Event D)

-- a value, and the events up to it
pub record Reached (D A : Type 0) : Type 0 where
  pub value : A
  pub trace : List (Event D)

-- x gets the value v
abbrev pub upd : {D : Type 0} → (ℕ → D) → ℕ → D → ℕ → D
upd σ x v w = cond (eqb w x) v (σ w)

-- a let's name or a call's target gets a value, unless it is a global
abbrev pub give : {D : Type 0} → Sig → (ℕ → D) → ℕ → D → ℕ → D
give s σ x v = cond (is_var s x) (upd σ x v) σ

-- an event is appended: the one place that does
abbrev pub note : {D : Type 0} → List (Event D) → Event D → List (Event D)
note t e = t ++ e ∷ []

-- ---- written heads

-- left to right, arguments before their call
abbrev mutual
  pub run_expr : {D : Type 0} → Sig → World D → Answers D → (ℕ → D) → Expr → List (Event D) → Reached D D
  run_expr s W ans ρ (leaf p w) t = record { value = val s W ρ w; trace = t }
  run_expr s W ans ρ (call p h es) t =
      let r = run_exprs s W ans ρ es t in
      record { value = ans r.trace h r.value; trace = note r.trace (called h r.value) }

  pub run_exprs : {D : Type 0} → Sig → World D → Answers D → (ℕ → D) → Exprs → List (Event D) → Reached D (List D)
  run_exprs s W ans ρ end t = record { value = []; trace = t }
  run_exprs s W ans ρ (e then es) t =
      let r = run_expr s W ans ρ e t in
      let q = run_exprs s W ans ρ es r.trace in
      record { value = r.value ∷ q.value; trace = q.trace }

abbrev pub run_set : {D : Type 0} → Sig → World D → Answers D → ℕ → Exprs → Expr → Run D → Run D
run_set s W ans h es e g =
    let r = run_exprs s W ans g.env es g.trace in
    let q = run_expr s W ans g.env e r.trace in
    record { env = g.env; trace = note q.trace (was_set h r.value q.value) }

-- the value of a name
abbrev pub name_of : Expr → Option ℕ
name_of (leaf p w) = cond (is_name w) (some w) none
name_of (call p h es) = none

-- a call of a constructor: its head and its arguments
pub record Built : Type 0 where
  pub head : ℕ
  pub args : Exprs

abbrev pub built_by : Sig → Expr → Option Built
built_by s (leaf p w) = none
built_by s (call p h es) = cond (is_constructor s h) (some (record { head = h; args = es })) none

-- what such a call is set to: the name
pub record UnionSet : Type 0 where
  pub call : Built
  pub name : ℕ

abbrev pub set_to : Option Built → Option ℕ → Option UnionSet
set_to c n = and_then c (λ b. and_then n (λ w. some (record { call = b; name = w })))

abbrev pub either : Option UnionSet → Option UnionSet → Option UnionSet
either (some u) o = some u
either none o = o

-- with the flag on, a union of a name and a constructor call, in either order, means the set of that call to the name. It is said here from 01's
-- sentence alone, and not by the choice that lowering makes: that both agree is the promise `UnionsAgree`
abbrev pub union_set : Sig → Expr → Expr → Option UnionSet
union_set s a b = cond s.flag (either (set_to (built_by s a) (name_of b)) (set_to (built_by s b) (name_of a))) none

-- the call's arguments, then the name; any other union is one side, then the other
abbrev pub run_union : {D : Type 0} → Sig → World D → Answers D → Option UnionSet → Expr → Expr → Run D → Run D
run_union s W ans (some u) a b g =
    let r = run_exprs s W ans g.env u.call.args g.trace in
    record { env = g.env; trace = note r.trace (was_set u.call.head r.value (val s W g.env u.name)) }
run_union s W ans none a b g =
    let r = run_expr s W ans g.env a g.trace in
    let q = run_expr s W ans g.env b r.trace in
    record { env = g.env; trace = note q.trace (united r.value q.value) }

-- a let is no event
abbrev pub run_action : {D : Type 0} → Sig → World D → Answers D → Action → Run D → Run D
run_action s W ans (let' p w e) g =
    let r = run_expr s W ans g.env e g.trace in
    record { env = give s g.env w r.value; trace = r.trace }
run_action s W ans (set' p h es e) g = run_set s W ans h es e g
run_action s W ans (delete' p h es) g =
    let r = run_exprs s W ans g.env es g.trace in
    record { env = g.env; trace = note r.trace (deleted h r.value) }
run_action s W ans (subsume' p h es) g =
    let r = run_exprs s W ans g.env es g.trace in
    record { env = g.env; trace = note r.trace (subsumed h r.value) }
run_action s W ans (union' a b) g = run_union s W ans (union_set s a b) a b g
run_action s W ans (panic' l) g = record { env = g.env; trace = note g.trace (panicked l) }
run_action s W ans (expr' e) g = record { env = g.env; trace = (run_expr s W ans g.env e g.trace).trace }

abbrev pub run_actions : {D : Type 0} → Sig → World D → Answers D → List Action → Run D → Run D
run_actions s W ans [] g = g
run_actions s W ans (a ∷ xs) g = run_actions s W ans xs (run_action s W ans a g)

-- ---- lowered heads: action 1 is a let, action 7 a call whose answer its target gets, the rest are as written

abbrev pub run_core_action : {D : Type 0} → Sig → World D → Answers D → CoreAction → Run D → Run D
run_core_action s W ans (Let x t) g = record { env = give s g.env x (val s W g.env t); trace = g.trace }
run_core_action s W ans (Set h ts v) g = record { env = g.env; trace = note g.trace (was_set h (map (val s W g.env) ts) (val s W g.env v)) }
run_core_action s W ans (Delete h ts) g = record { env = g.env; trace = note g.trace (deleted h (map (val s W g.env) ts)) }
run_core_action s W ans (Subsume h ts) g = record { env = g.env; trace = note g.trace (subsumed h (map (val s W g.env) ts)) }
run_core_action s W ans (Union a b) g = record { env = g.env; trace = note g.trace (united (val s W g.env a) (val s W g.env b)) }
run_core_action s W ans (Panic l) g = record { env = g.env; trace = note g.trace (panicked l) }
run_core_action s W ans (Call x h ts) g =
    let vs = map (val s W g.env) ts in
    record { env = give s g.env x (ans g.trace h vs); trace = note g.trace (called h vs) }

abbrev pub run_core_actions : {D : Type 0} → Sig → World D → Answers D → List CoreAction → Run D → Run D
run_core_actions s W ans [] g = g
run_core_actions s W ans (a ∷ xs) g = run_core_actions s W ans xs (run_core_action s W ans a g)
