-- Demand 3 is not empty: what it supposes can be met, and a rule is matched. The rule is P1 of 01's trial rules, lowered from counters at zero.
-- Assumes nothing.
use Prim.Native.Nat.{ℕ, zero, suc}
use mathlib.Core.Path.{◌≡◌, refl, sym, ◌∙◌, ap, subst}
use mathlib.Core.Bool.{Bool, true, false, cond}
use mathlib.Core.List.{List, [], ◌∷◌}
use mathlib.Core.Option.{Option, none, some, none-ne-some}
use lib.Dec.{eqb}
use borrow.Author.Tests.{eq-eqb, eqb-true}
use Rattle.rules.specs.Words.{unit, scratch_words}
use Rattle.rules.specs.Refusals.{ok}
use Rattle.rules.specs.Signature.{Sig, read_signature}
use Rattle.rules.specs.Written.{leaf, call, end, ◌then◌, equal, set', Rule, read_written}
use Rattle.rules.specs.Trials.{flag_on}
use Rattle.rules.specs.Calls.{Result, lower_words}
use Rattle.meaning.specs.Meaning.{World, ValueEq, All, FactHolds}
use Rattle.meaning.specs.Demand3.{join, Meets, Carried}
use Rattle.meaning.proofs.Results.{ok_inj}
use Rattle.meaning.proofs.Demand3.{demand3}

-- values are numbers. value-eq is head 0; every other head gives its first input, or 0 without inputs
abbrev pub eq_table : List ℕ → Option ℕ
eq_table [] = none
eq_table (a ∷ []) = none
eq_table (a ∷ b ∷ []) = cond (eqb a b) (some unit) none
eq_table (a ∷ b ∷ c ∷ xs) = none

abbrev pub table : ℕ → List ℕ → Option ℕ
table zero xs = eq_table xs
table (suc h) [] = some 0
table (suc h) (x ∷ xs) = some x

abbrev pub world : World ℕ
world = record { fixed = λ w. w; table = table }

value_eq_lem : (s : Sig) → s.value_eq ≡ 0 → ValueEq ℕ s world
value_eq_lem s e =
    record {
      same = λ a. ap (λ (h : ℕ). table h (a ∷ a ∷ [])) e ∙ ap (λ (c : Bool). cond {A = Option ℕ} c (some unit) none) (eq-eqb a a refl);
      only = λ a b v h. only a b v (eqb a b) refl (ap (λ (h : ℕ). table h (a ∷ b ∷ [])) (sym e) ∙ h);
    }
  where
    only : (a b v : ℕ) (c : Bool) → eqb a b ≡ c → cond {A = Option ℕ} c (some unit) none ≡ some v → a ≡ b
    only a b v true q h = eqb-true a b q
    only a b v false q h = absurd (none-ne-some v h)

-- P1: x2 = f(x1), x3 = f(x1), set g(x1) = x3
abbrev p1 : List ℕ
p1 =
    0x0400_2001 ∷ 0x0800_0002 ∷ 0x4000_0002 ∷ 0x1001_0001 ∷ 0x4000_0001 ∷ 0x0800_0002 ∷ 0x4000_0003 ∷ 0x1001_0001 ∷ 0x4000_0001 ∷ 0x0200_0002 ∷
    0x1003_0001 ∷ 0x4000_0001 ∷ 0x4000_0003 ∷ []

abbrev zeros : List ℕ
zeros = 0 ∷ 0 ∷ 0 ∷ 0 ∷ []

-- its result, as 01 gives it
abbrev result : Result
result =
    record {
      words =
          0x0400_1004 ∷ 0x1001_0002 ∷ 0x4000_0001 ∷ 0x8001_0001 ∷ 0x0200_0001 ∷ 0x8001_0000 ∷ 0x8001_0001 ∷ 0x0200_0001 ∷ 0x4000_0003 ∷ 0x8001_0001 ∷
          0x0200_0001 ∷ 0x4000_0002 ∷ 0x8001_0000 ∷ 0x0200_0002 ∷ 0x1003_0001 ∷ 0x4000_0001 ∷ 0x4000_0003 ∷ [];
      replacements = 3;
      passes = 2;
      counters = 0 ∷ 2 ∷ 0 ∷ 1 ∷ [];
    }

accepted : lower_words flag_on p1 zeros 17 scratch_words ≡ ok result
accepted = refl

-- every written variable has the value 7
abbrev sevens : ℕ → ℕ
sevens w = 7

-- the signature and the rule as they are read
abbrev pub sig : Sig
sig = record { globals = 1; value_eq = 0; flag = true; kinds = 2 ∷ 0 ∷ 1 ∷ 0 ∷ [] }

abbrev written : Rule
written =
    record {
      facts =
          equal 1 (leaf 2 0x4000_0002) (call 3 1 (leaf 4 0x4000_0001 then end)) ∷ equal 5 (leaf 6 0x4000_0003) (call 7 1 (leaf 8 0x4000_0001 then end)) ∷ [];
      actions = set' 10 3 (leaf 11 0x4000_0001 then end) (leaf 12 0x4000_0003) ∷ [];
    }

sig_read : read_signature flag_on ≡ ok sig
sig_read = refl

written_read : read_written sig p1 ≡ ok written
written_read = refl

facts_met : All (FactHolds sig world sevens) written.facts
facts_met = ((7, refl, refl), ((7, refl, refl), tt))

-- some choice of values for the fresh variables meets the lowered rule
pub matched : (c : Carried flag_on p1 zeros result.words) × (φ : ℕ → ℕ) × Meets c.sig world c.lowered 3 (join sevens φ)
matched =
    let d = demand3 flag_on p1 zeros 17 scratch_words result accepted in
    let c = d.0 in
    let s : sig ≡ c.sig = ok_inj _ _ (sym sig_read ∙ c.reads_signature) in
    let r : written ≡ c.written = ok_inj _ _ (sym (subst (λ (x : Sig). read_written x p1 ≡ ok written) s written_read) ∙ c.reads_written) in
    let met = subst (λ (x : Rule). All (FactHolds c.sig world sevens) x.facts) r (subst (λ (x : Sig). All (FactHolds x world sevens) written.facts) s facts_met) in
    let m = ((d.1 ℕ world (value_eq_lem c.sig (ap (λ (x : Sig). x.value_eq) (sym s)))).matches sevens).0 met in
    (c, m.0, m.1)
