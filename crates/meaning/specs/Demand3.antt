-- Demand 3, as a statement. It is proved in proofs/Demand3.antt, and can be read with `Meaning` and the definitions of `rules` alone.
-- Assumes nothing: what demand 3 supposes of tables and of value-eq stands in the statement.
use Rattle.std.specs.Prelude.{ℕ, ◌*◌, ◌≡◌, ◌↔◌, true, cond, List, [], ◌∷◌, take}
use Rattle.std.proofs.Math.Option.{Option, none, some}
use Rattle.octets.specs.Words.{words}
use Rattle.rules.specs.Words.{unit}
use Rattle.rules.specs.Refusals.{ok}
use Rattle.rules.specs.Signature.{Sig, is_fresh, elem, read_signature}
use Rattle.rules.specs.Written.{Expr, leaf, Rule, read_written}
use Rattle.rules.specs.Flat.{Atom, CoreAction, Let, Set, Delete, Subsume, Union, Panic, Call, FlatRule, read_flat}
use Rattle.rules.specs.ToQuery.{Query, to_query, terms_of, body_vars}
use Rattle.rules.specs.ToCoreActions.{AsSet, union_as_set}
use Rattle.rules.specs.Calls.{Result, lower_words, lower}
use Rattle.meaning.specs.Meaning.{World, ValueEq, All, val, FactHolds, AtomHolds, Answers, UnionSet, union_set, run_actions, run_core_actions}

-- ρ are the given values of names, φ is a choice of values for fresh variables
abbrev pub join : {D : Type 0} → (ρ φ : ℕ → D) → ℕ → D
join ρ φ w = cond (is_fresh w) (φ w) (ρ w)

-- a binding holds when its variable and its term have one value. No other action is a binding
abbrev pub BindingHolds : {D : Type 0} → Sig → World D → (ℕ → D) → CoreAction → Type 0
BindingHolds s W σ (Let x t) = val s W σ x ≡ val s W σ t
BindingHolds s W σ (Set h ts v) = ⊥
BindingHolds s W σ (Delete h ts) = ⊥
BindingHolds s W σ (Subsume h ts) = ⊥
BindingHolds s W σ (Union a b) = ⊥
BindingHolds s W σ (Panic l) = ⊥
BindingHolds s W σ (Call x h ts) = ⊥

-- values meet the lowered atoms and the bindings, which are the first n actions
abbrev pub Meets : {D : Type 0} → Sig → World D → FlatRule → ℕ → (ℕ → D) → Type 0
Meets s W f n σ = All (AtomHolds s W σ) f.atoms × All (BindingHolds s W σ) (take n f.actions)

-- two choices are one on the fresh variables of a flat body
abbrev pub OneChoice : {D : Type 0} → (φ ψ : ℕ → D) → List Atom → Type 0
OneChoice φ ψ body = All (λ (a : Atom). All (λ (w : ℕ). is_fresh w ≡ true → φ w ≡ ψ w) (terms_of a)) body

-- if a word is a fresh variable, it is one of the flat body
abbrev pub FreshOf : Sig → List Atom → ℕ → Type 0
FreshOf s body w = is_fresh w ≡ true → elem w (body_vars s body) ≡ true

-- the variable and the term of a binding
abbrev pub binding_terms : CoreAction → List ℕ
binding_terms (Let x t) = x ∷ t ∷ []
binding_terms (Set h ts v) = []
binding_terms (Delete h ts) = []
binding_terms (Subsume h ts) = []
binding_terms (Union a b) = []
binding_terms (Panic l) = []
binding_terms (Call x h ts) = []

-- what demand 3 says of a written rule r, its flat body, and the lowered rule f, which has n bindings
pub record Faithful {D : Type 0} (s : Sig) (W : World D) (r : Rule) (body : List Atom) (f : FlatRule) (n : ℕ) : Type 0 where
  -- a choice is one for the flat body's fresh variables: no other stands in the lowered atoms or in the bindings
  pub chosen : All (λ (a : Atom). All (FreshOf s body) (terms_of a)) f.atoms × All (λ (b : CoreAction). All (FreshOf s body) (binding_terms b)) (take n f.actions)
  -- values of the written variables meet the written facts exactly when some choice for the fresh variables meets the lowered rule
  pub matches : (ρ : ℕ → D) → All (FactHolds s W ρ) r.facts ↔ ((φ : ℕ → D) × Meets s W f n (join ρ φ))
  -- there is never a second choice
  pub unique : (ρ φ ψ : ℕ → D) → Meets s W f n (join ρ φ) → Meets s W f n (join ρ ψ) → OneChoice φ ψ body
  -- where there is one, the lowered head, run from all these values, gives the events of the written head, in order, whatever its calls answer
  pub events : (ρ φ : ℕ → D) → Meets s W f n (join ρ φ) → (answers : Answers D)
      → (run_core_actions s W answers f.actions (record { env = join ρ φ; trace = [] })).trace
      ≡ (run_actions s W answers r.actions (record { env = ρ; trace = [] })).trace

-- what was lowered and what came of it: the signature and the written rule as read, the flat body, and the result as it is read back from its words
pub record Carried (signature rule counters result : List ℕ) : Type 0 where
  pub sig : Sig
  pub written : Rule
  pub query : Query
  pub lowered : FlatRule
  pub reads_signature : read_signature signature ≡ ok sig
  pub reads_written : read_written sig rule ≡ ok written
  pub flattens : to_query written.facts counters ≡ ok query
  pub reads_lowered : read_flat sig result ≡ ok lowered

-- what is supposed of values of the type D and of a world of them, under a signature
abbrev pub Supposed : Type 1
Supposed = (D : Type 0) → Sig → World D → Type 0

-- a result with n replacements is faithful in every world of which P holds, whatever else the tables hold
abbrev pub CarriedWhere : Supposed → (signature rule counters result : List ℕ) → ℕ → Type 1
CarriedWhere P signature rule counters result n =
    (c : Carried signature rule counters result)
    × ((D : Type 0) (W : World D) → P D c.sig W → Faithful c.sig W c.written c.query.atoms c.lowered n)

-- of value-eq alone something is supposed; values may be of any type
abbrev pub CarriedFaithfully : (signature rule counters result : List ℕ) → ℕ → Type 1
CarriedFaithfully = CarriedWhere ValueEq

-- demand 3: whatever is accepted, whatever its signature and counters
abbrev pub Demand3 : Type 1
Demand3 =
    (signature rule counters : List ℕ) (room scratch : ℕ) (o : Result) → lower_words signature rule counters room scratch ≡ ok o
    → CarriedFaithfully signature rule counters o.words o.replacements

-- and of bytes: whatever the call gives back with number 0
abbrev pub Demand3Bytes : Type 1
Demand3Bytes =
    (signature rule counters output : List ℕ) (scratch : ℕ) → (lower signature rule counters output scratch).number ≡ 0
    → CarriedFaithfully (words signature) (words rule) (words counters)
    (words (take (4 * (lower signature rule counters output scratch).written) (lower signature rule counters output scratch).output))
    (lower signature rule counters output scratch).replacements

-- ---- the same under 01's own words for value-eq

-- Unit for two equal values, and nothing for two unequal ones
pub record ValueEqWorded (D : Type 0) (s : Sig) (W : World D) : Type 0 where
  pub same : (a : D) → W.table s.value_eq (a ∷ a ∷ []) ≡ some (W.fixed unit)
  pub differ : (a b : D) → (a ≡ b → ⊥) → W.table s.value_eq (a ∷ b ∷ []) ≡ none

-- equality of values that cannot be denied holds, as it does wherever equality can be decided. Without it, "nothing for two unequal values" says
-- nothing of values that are not known to be equal
abbrev pub Stable : Type 0 → Type 0
Stable D = (a b : D) → ((a ≡ b → ⊥) → ⊥) → a ≡ b

abbrev pub Worded : Supposed
Worded D s W = Stable D × ValueEqWorded D s W

abbrev pub Demand3Worded : Type 1
Demand3Worded =
    (signature rule counters : List ℕ) (room scratch : ℕ) (o : Result) → lower_words signature rule counters room scratch ≡ ok o
    → CarriedWhere Worded signature rule counters o.words o.replacements

-- ---- which unions become sets

-- the set that lowering makes of a union, and the one that it means
abbrev pub SameSet : Option AsSet → Option UnionSet → Type 0
SameSet none none = Unit {0}
SameSet none (some v) = ⊥
SameSet (some u) none = ⊥
SameSet (some u) (some v) = (u.head ≡ v.call.head) × (u.args ≡ v.call.args) × ((p : ℕ) × (u.value ≡ leaf p v.name))

-- lowering makes a set of just those unions that mean one, and that set
abbrev pub UnionsAgree : Type 0
UnionsAgree = (s : Sig) (a b : Expr) → SameSet (union_as_set s a b) (union_set s a b)
