-- 01, "Words and records": how many words a written rule has, by its tree.
-- Assumes nothing: these are definitions.
use Prim.Native.Nat.{ℕ, suc, ◌+◌}
use mathlib.Core.List.{List, [], ◌∷◌}
use Rattle.rules.specs.Written.{Expr, Exprs, leaf, call, end, ◌then◌, Fact, holds, equal, Action, let', set', delete', subsume', union', panic', expr', Rule}

abbrev mutual
  pub expr_size : Expr → ℕ
  expr_size (leaf p w) = 1
  expr_size (call p h es) = suc (exprs_size es)

  pub exprs_size : Exprs → ℕ
  exprs_size end = 0
  exprs_size (e then es) = expr_size e + exprs_size es

-- an equality has a word of its own
abbrev pub fact_size : Fact → ℕ
fact_size (holds e) = expr_size e
fact_size (equal p a b) = 1 + expr_size a + expr_size b

-- the action word; then a name, or a kind 3 word, or a literal, where the action has one
abbrev pub action_size : Action → ℕ
action_size (let' p x e) = 2 + expr_size e
action_size (set' p h es e) = 2 + exprs_size es + expr_size e
action_size (delete' p h es) = 2 + exprs_size es
action_size (subsume' p h es) = 2 + exprs_size es
action_size (union' a b) = 1 + expr_size a + expr_size b
action_size (panic' l) = 2
action_size (expr' e) = 1 + expr_size e

abbrev pub total : {A : Type 0} → (A → ℕ) → List A → ℕ
total size [] = 0
total size (x ∷ xs) = size x + total size xs

-- with the header
abbrev pub rule_size : Rule → ℕ
rule_size r = 1 + total fact_size r.facts + total action_size r.actions
