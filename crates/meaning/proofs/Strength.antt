-- `Faithful` is not met by everything: wrong lowerings of small rules, each of which it refuses. The signature is that of 01's trial rules, heads
-- being 0 value-eq, 1 the function f, 2 the constructor c and 3 the function g; the world is that of `Example`, in which f and g give their first
-- input. Assumes nothing.
use Prim.Native.Nat.{ℕ, ◌+◌}
use native.Mathlib.Omega.{arith}
use mathlib.Core.Path.{◌≡◌, refl, sym, ◌∙◌, ap}
use mathlib.Core.Bool.{cond, false≢true}
use mathlib.Core.List.{List, [], ◌∷◌}
use mathlib.Core.Option.{some-injective, none-ne-some}
use lib.ListN.{length}
use lib.Dec.{eqb}
use borrow.Author.Tests.{eqb-false}
use Rattle.rules.specs.Words.{unit}
use Rattle.rules.specs.Written.{Exprs, leaf, call, end, ◌then◌, Fact, holds, equal, Action, let', set', union', panic', expr', Rule}
use Rattle.rules.specs.Flat.{Atom, eqn, tab, CoreAction, Let, Set, Union, Panic, Call, FlatRule}
use Rattle.meaning.specs.Meaning.{All, FactHolds, Event, called, was_set, deleted, subsumed, united, panicked, Answers, run_actions, run_core_actions}
use Rattle.meaning.specs.Demand3.{join, Faithful}
use Rattle.meaning.proofs.Example.{world, sig}

-- a lowered rule with n bindings that does not mean what the written rule does
abbrev pub Wrong : Rule → List Atom → FlatRule → ℕ → Type 0
Wrong r body f n = Faithful sig world r body f n → ⊥

abbrev rule : List Fact → List Action → Rule
rule facts actions = record { facts = facts; actions = actions }

abbrev lowered : List Atom → List CoreAction → FlatRule
lowered atoms actions = record { atoms = atoms; actions = actions }

-- a global, two variables, two literals, two fresh variables of f and one of c
abbrev G : ℕ
G = 0x4000_0000

abbrev x : ℕ
x = 0x4000_0001

abbrev y : ℕ
y = 0x4000_0002

abbrev one : ℕ
one = 0x2000_0001

abbrev two : ℕ
two = 0x2000_0002

abbrev f₀ : ℕ
f₀ = 0x8001_0000

abbrev f₁ : ℕ
f₁ = 0x8001_0001

abbrev c₀ : ℕ
c₀ = 0x8002_0000

-- f of x, as an expression and as an atom with the output w
abbrev fx : Exprs
fx = leaf 4 x then end

abbrev atom : ℕ → Atom
atom w = tab (record { place = 1; head = 1; ins = x ∷ []; out = w })

-- x has the value 1, every other variable 2
abbrev ρ : ℕ → ℕ
ρ w = cond (eqb w x) 1 2

differ : ◌≡◌ {A = ℕ} 1 2 → ⊥
differ e = omega arith

-- ---- the body: (= y (f x)), whose flat body is f(x) = @f.0 and y = @f.0

abbrev equation : List Fact
equation = equal 1 (leaf 2 y) (call 3 1 fx) ∷ []

abbrev flat : List Atom
flat = atom f₀ ∷ eqn 1 y f₀ ∷ []

-- f(1) is not 2, so `ρ` does not meet the equation
unmet : All (FactHolds sig world ρ) equation → ⊥
unmet h = differ (some-injective _ _ h.0.2 ∙ sym (some-injective _ _ h.0.1))

-- the atom is dropped
pub atom_dropped : Wrong (rule equation []) flat (lowered [] (Let y f₀ ∷ [])) 1
atom_dropped F = unmet ((F.matches ρ).1 (λ w. 2, (tt, (refl, tt))))

-- the binding stands there, and is not asked
pub binding_not_asked : Wrong (rule equation []) flat (lowered (atom f₀ ∷ []) (Let y f₀ ∷ [])) 0
binding_not_asked F = unmet ((F.matches ρ).1 (λ w. 1, ((refl, tt), tt)))

-- an empty rule for all
pub empty_for_all : Wrong (rule equation []) flat (lowered [] []) 0
empty_for_all F = unmet ((F.matches ρ).1 (ρ, (tt, tt)))

-- an atom that never holds, for no facts
pub never_met : Wrong (rule [] []) [] (lowered (tab (record { place = 1; head = 0; ins = one ∷ two ∷ []; out = unit }) ∷ []) []) 0
never_met F = none-ne-some unit ((F.matches ρ).0 tt).1.0.0

-- ---- the body: (f x), whose flat body is f(x) = @f.0

abbrev expression : List Fact
expression = holds (call 3 1 fx) ∷ []

-- the written rule handed out: its words, read as a flat rule, are f() = x
pub written_handed_out : Wrong (rule expression []) (atom f₀ ∷ []) (lowered (tab (record { place = 1; head = 1; ins = []; out = x }) ∷ []) []) 0
written_handed_out F = let e = some-injective _ _ ((F.matches ρ).0 ((1, refl), tt)).1.0.0 in let z : ◌≡◌ {A = ℕ} 0 1 = e in omega arith

-- nothing asks for @f.0, so it may have any value
pub second_choice : Wrong (rule expression []) (atom f₀ ∷ []) (lowered [] []) 0
second_choice F = differ ((F.unique ρ (λ w. 1) (λ w. 2) (tt, tt) (tt, tt)).0.1.0 refl)

-- a fresh variable that the flat body does not have. It takes the same value, so the values that match are the same, and there is one choice
pub invented : Wrong (rule expression []) (atom f₀ ∷ []) (lowered (atom f₀ ∷ atom f₁ ∷ []) []) 0
invented F = false≢true (F.chosen.0.1.0.1.0 refl)

-- ---- the head: what the events tell

-- of the first event its kind and head
abbrev first : List (Event ℕ) → ℕ
first [] = 0
first (called h vs ∷ es) = 100 + h
first (was_set h vs v ∷ es) = 200 + h
first (deleted h vs ∷ es) = 300 + h
first (subsumed h vs ∷ es) = 400 + h
first (united a b ∷ es) = 500
first (panicked l ∷ es) = 600

-- the value that was set last, or d
abbrev last_set : ℕ → List (Event ℕ) → ℕ
last_set d [] = d
last_set d (called h vs ∷ es) = last_set d es
last_set d (was_set h vs v ∷ es) = last_set v es
last_set d (deleted h vs ∷ es) = last_set d es
last_set d (subsumed h vs ∷ es) = last_set d es
last_set d (united a b ∷ es) = last_set d es
last_set d (panicked l ∷ es) = last_set d es

-- every call answers 5; every call answers how many events were before it
abbrev five : Answers ℕ
five t h vs = 5

abbrev sofar : Answers ℕ
sofar t h vs = length t

-- two heads are told apart by a number of their events
module _ (written : List Action) (core : List CoreAction) (answers : Answers ℕ) (tell : List (Event ℕ) → ℕ) where
  by_events : (tell (run_core_actions sig world answers core (record { env = join ρ ρ; trace = [] })).trace
      ≡ tell (run_actions sig world answers written (record { env = ρ; trace = [] })).trace → ⊥) → Wrong (rule [] written) [] (lowered [] core) 0
  by_events apart F = apart (ap tell (F.events ρ ρ (tt, tt) answers))

-- two sets exchanged
pub sets_exchanged : Wrong (rule [] (set' 2 1 end (leaf 3 one) ∷ set' 5 3 end (leaf 6 one) ∷ [])) [] (lowered [] (Set 3 [] one ∷ Set 1 [] one ∷ [])) 0
sets_exchanged = by_events _ _ five first (eqb-false 203 201 refl)

-- a call dropped
pub call_dropped : Wrong (rule [] (expr' (call 2 1 end) ∷ [])) [] (lowered [] []) 0
call_dropped = by_events _ _ five first (eqb-false 0 101 refl)

-- a literal in place of a call's answer
pub answer_replaced : Wrong (rule [] (set' 2 3 end (call 3 1 end) ∷ [])) [] (lowered [] (Call f₀ 1 [] ∷ Set 3 [] one ∷ [])) 0
answer_replaced = by_events _ _ five (last_set 0) (eqb-false one 5 refl)

-- the answers of two calls exchanged: they are the same calls, and only what was before them tells them apart
pub answers_exchanged : Wrong (rule [] (let' 1 x (call 3 1 end) ∷ let' 4 y (call 6 1 end) ∷ set' 8 3 end (leaf 9 x) ∷ [])) []
    (lowered [] (Call f₀ 1 [] ∷ Let y f₀ ∷ Call f₁ 1 [] ∷ Let x f₁ ∷ Set 3 [] x ∷ [])) 0
answers_exchanged = by_events _ _ sofar (last_set 9) (eqb-false 1 0 refl)

-- with the flag on, a union of a name and a constructor call that stays one
pub union_kept : Wrong (rule [] (union' (leaf 2 G) (call 3 2 end) ∷ [])) [] (lowered [] (Call c₀ 2 [] ∷ Union G c₀ ∷ [])) 0
union_kept = by_events _ _ five first (eqb-false 102 202 refl)

-- a literal taken for a name: its union with a constructor call becomes a set
pub literal_union_set : Wrong (rule [] (union' (leaf 2 one) (call 3 2 end) ∷ [])) [] (lowered [] (Set 2 [] one ∷ [])) 0
literal_union_set = by_events _ _ five first (eqb-false 202 102 refl)

-- the actions behind a panic dropped
pub actions_dropped : Wrong (rule [] (panic' one ∷ set' 4 3 end (leaf 5 two) ∷ [])) [] (lowered [] (Panic one ∷ [])) 0
actions_dropped = by_events _ _ five (last_set 0) (eqb-false 0 two refl)

-- a global read as what a let gave it
pub global_as_let : Wrong (rule [] (let' 1 G (leaf 3 one) ∷ set' 5 3 end (leaf 6 G) ∷ [])) [] (lowered [] (Let G one ∷ Set 3 [] one ∷ [])) 0
global_as_let = by_events _ _ five (last_set 0) (eqb-false one G refl)
