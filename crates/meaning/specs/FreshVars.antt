-- The fresh variables of one lowering, and what is promised of them.
--
-- This is what makes the incident of the request impossible: there, the second fresh variable of one head and the first of another were spelt alike.
-- Assumes nothing: these are definitions and statements.
use Rattle.std.specs.Prelude.{ℕ, ◌<◌, ◌≡◌, true, false, List, [], ◌∷◌, ◌++◌}
use Rattle.rules.specs.Words.{limit16, fresh_word}
use Rattle.rules.specs.Refusals.{ok}
use Rattle.rules.specs.Signature.{Sig, is_fresh}
use Rattle.rules.specs.Written.{Expr, Exprs, leaf, call, end, ◌then◌, Fact, holds, equal, Action, let', set', delete', subsume', union', panic', expr', Rule, read_written}
use Rattle.rules.specs.Flat.{Atom, eqn, tab, CoreAction, Let, Set, Delete, Subsume, Union, Panic, Call}
use Rattle.rules.specs.ToCoreActions.{CoreRule, to_core_rule}
use Rattle.meaning.specs.Meaning.{All}

-- no two of a list are the same
abbrev pub Distinct : List ℕ → Type 0
Distinct [] = Unit {0}
Distinct (x ∷ xs) = All (λ (y : ℕ). x ≡ y → ⊥) xs × Distinct xs

-- ---- the fresh variables that a lowering makes: one for each call of a fact, and one for each call of an action

abbrev pub made_by_atom : Atom → List ℕ
made_by_atom (eqn p a b) = []
made_by_atom (tab t) = t.out ∷ []

abbrev pub made_by_atoms : List Atom → List ℕ
made_by_atoms [] = []
made_by_atoms (a ∷ xs) = made_by_atom a ++ made_by_atoms xs

abbrev pub made_by_action : CoreAction → List ℕ
made_by_action (Let x t) = []
made_by_action (Set h ts v) = []
made_by_action (Delete h ts) = []
made_by_action (Subsume h ts) = []
made_by_action (Union a b) = []
made_by_action (Panic l) = []
made_by_action (Call x h ts) = x ∷ []

abbrev pub made_by_actions : List CoreAction → List ℕ
made_by_actions [] = []
made_by_actions (a ∷ xs) = made_by_action a ++ made_by_actions xs

abbrev pub made : CoreRule → List ℕ
made c = made_by_atoms c.body ++ made_by_actions c.head

-- ---- the words that stand as names and literals in a written rule

abbrev mutual
  pub leaves : Expr → List ℕ
  leaves (leaf p w) = w ∷ []
  leaves (call p h es) = leaves_all es

  pub leaves_all : Exprs → List ℕ
  leaves_all end = []
  leaves_all (e then es) = leaves e ++ leaves_all es

abbrev pub fact_leaves : Fact → List ℕ
fact_leaves (holds e) = leaves e
fact_leaves (equal p a b) = leaves a ++ leaves b

abbrev pub action_leaves : Action → List ℕ
action_leaves (let' p x e) = x ∷ leaves e
action_leaves (set' p h es e) = leaves_all es ++ leaves e
action_leaves (delete' p h es) = leaves_all es
action_leaves (subsume' p h es) = leaves_all es
action_leaves (union' a b) = leaves a ++ leaves b
action_leaves (panic' l) = l ∷ []
action_leaves (expr' e) = leaves e

-- ---- the promises

-- the word of a pair determines the pair
abbrev pub PairByWord : Type 0
PairByWord = (h c g d : ℕ) → c < limit16 → d < limit16 → fresh_word h c ≡ fresh_word g d → (h ≡ g) × (c ≡ d)

-- in one lowering all fresh variables are distinct, and none of them is a written name or literal
abbrev pub FreshAreNew : Type 0
FreshAreNew =
    (s : Sig) (ws cs : List ℕ) (r : Rule) (c : CoreRule) → read_written s ws ≡ ok r → to_core_rule s r cs ≡ ok c
    → Distinct (made c)
    × All (λ (v : ℕ). is_fresh v ≡ true) (made c)
    × All (λ (f : Fact). All (λ (w : ℕ). is_fresh w ≡ false) (fact_leaves f)) r.facts
    × All (λ (a : Action). All (λ (w : ℕ). is_fresh w ≡ false) (action_leaves a)) r.actions
