-- 01, "Settling": the source's `canonicalize`.
--
--     flat  (f y @f.0) (= x @f.0) (= 1 2)      canonical  (f y @f.0) (value-eq 1 2 unit), and x is bound to @f.0
--
-- Assumes nothing: these are definitions.
use Rattle.std.specs.Prelude.{ℕ, zero, suc, Bool, true, false, cond, List, [], ◌∷◌, map, length, eqb}
use Rattle.std.proofs.Math.Option.{Option, none, some}
use Rattle.rules.specs.Words.{unit}
use Rattle.rules.specs.Signature.{Sig, is_var, same_term}
use Rattle.rules.specs.Flat.{Tab, Atom, eqn, tab, CoreAction, Let}

-- `old` is replaced by `new`
pub record Replacement : Type 0 where
  pub old : ℕ
  pub new : ℕ

-- ---- replacing a term throughout the body

abbrev pub replace_term : Replacement → ℕ → ℕ
replace_term r t = cond (eqb t r.old) r.new t

abbrev pub replace_tab : Replacement → Tab → Tab
replace_tab r a =
    record { place = a.place; head = a.head; ins = map (replace_term r) a.ins; out = replace_term r a.out }

abbrev pub replace_atom : Replacement → Atom → Atom
replace_atom r (eqn p a b) = eqn p (replace_term r a) (replace_term r b)
replace_atom r (tab a) = tab (replace_tab r a)

-- ---- which term is replaced

-- what an equality asks for: its left term if that is a variable, else its right one, is replaced by the other
abbrev pub replacement_of : (same leftVar rightVar : Bool) → ℕ → ℕ → Option Replacement
replacement_of true l r a b = none
replacement_of false true r a b = some (record { old = a; new = b })
replacement_of false false true a b = some (record { old = b; new = a })
replacement_of false false false a b = none

abbrev pub or_else : Option Replacement → Option Replacement → Option Replacement
or_else (some r) o = some r
or_else none o = o

-- the first equality with unequal terms of which one is a variable
abbrev pub first_replacement : Sig → List Atom → Option Replacement
first_replacement s [] = none
first_replacement s (eqn p a b ∷ xs) = or_else (replacement_of (same_term a b) (is_var s a) (is_var s b) a b) (first_replacement s xs)
first_replacement s (tab t ∷ xs) = first_replacement s xs

-- ---- replacements until none is left

-- a body on its way: its atoms, and the replacements so far, the last one first
pub record Body : Type 0 where
  pub atoms : List Atom
  pub repls : List Replacement

-- one replacement, if there is one to make, and on with what it leaves
abbrev pub replace_step : Option Replacement → List Atom → List Replacement → (List Atom → List Replacement → Body) → Body
replace_step none xs rs go = record { atoms = xs; repls = rs }
replace_step (some r) xs rs go = go (map (replace_atom r) xs) (r ∷ rs)

-- at most n of them
abbrev pub replace_up_to : Sig → ℕ → List Atom → List Replacement → Body
replace_up_to s zero xs rs = record { atoms = xs; repls = rs }
replace_up_to s (suc n) xs rs = replace_step (first_replacement s xs) xs rs (λ ys qs. replace_up_to s n ys qs)

-- as many as there are atoms: no more are ever asked for, which is proved where the laws of settling are
abbrev pub replace_all : Sig → List Atom → List Replacement → Body
replace_all s xs rs = replace_up_to s (length xs) xs rs

-- ---- then equalities of equal terms go, and others become value-eq of both terms and Unit, in position

abbrev pub resolve_eq : Sig → Bool → ℕ → ℕ → ℕ → List Tab → List Tab
resolve_eq s true p a b ts = ts
resolve_eq s false p a b ts = record { place = p; head = s.value_eq; ins = a ∷ b ∷ []; out = unit } ∷ ts

abbrev pub resolve : Sig → List Atom → List Tab
resolve s [] = []
resolve s (eqn p a b ∷ xs) = resolve_eq s (same_term a b) p a b (resolve s xs)
resolve s (tab t ∷ xs) = t ∷ resolve s xs

-- ---- the whole

-- atoms of heads only, and all replacements so far, the last one first
pub record Canonical : Type 0 where
  pub tabs : List Tab
  pub repls : List Replacement

abbrev pub canonicalize : Sig → List Atom → List Replacement → Canonical
canonicalize s xs rs =
    let b = replace_all s xs rs in
    record { tabs = resolve s b.atoms; repls = b.repls }

-- each replacement is said by an action 1 that is put before all actions, so the last one stands first
abbrev pub bindings : List Replacement → List CoreAction
bindings [] = []
bindings (r ∷ rs) = Let r.old r.new ∷ bindings rs
