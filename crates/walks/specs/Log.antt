-- 01, "Turned back": a refusal leaves the counters as they were. Each use of a counter is logged by the fresh variable's own word, which
-- says the head and what its counter was. Assumes nothing: these are definitions.
use Rattle.std.specs.Prelude.{◌≡◌, List, [], ◌∷◌, ℕ, ◌+◌, ◌/◌, ◌%◌, ◌≤◌, set, Result}
use Rattle.std.specs.Prelude.{Ok, Err}
use Rattle.rules.specs.Words.{limit16, fresh_base}
use Rattle.rules.specs.Refusals.{Res, ok, refuse, used_up}
use Rattle.rules.specs.ToQuery.{Fresh}
use Rattle.refusals.specs.Numbers.{number_of}
use Rattle.walks.specs.declared.Stopped.{Stopped}

-- the head and the count of a fresh variable
abbrev pub used_head : ℕ → ℕ
used_head v = v / limit16 % 32768

abbrev pub used_count : ℕ → ℕ
used_count v = v % limit16

-- the sum of the counters: each use is one more, so that it tells how many uses are logged
unfoldable pub total : List ℕ → ℕ
total [] = 0
total (c ∷ cs) = c + total cs

-- the counters with the logged uses taken back, the last use first
unfoldable pub undone : List ℕ → List ℕ → List ℕ
undone [] cs = cs
undone (v ∷ vs) cs = set (undone vs cs) (used_head v) (used_count v)

-- a fresh variable was taken: it is logged at lg
pub record Took (f : Fresh) (lg : ℕ) (s cs s' cs' : List ℕ) (r : ℕ) : Type 0 where
  pub var : r ≡ f.var
  pub large : fresh_base ≤ r
  pub next : cs' ≡ f.next
  pub grown : total cs' ≡ 1 + total cs
  pub logged : s' ≡ set s lg r
  pub undo : set cs' (used_head r) (used_count r) ≡ cs

-- a refusal with this number at this place
pub record Refuses (n p : ℕ) (e : Stopped) : Type 0 where
  pub number : number_of e.refusal.reason ≡ n
  pub place : e.refusal.place ≡ p

-- the counter is used up: nothing changed, and that is the refusal
pub record Full (n p lg : ℕ) (s cs s' cs' : List ℕ) (e : Stopped) : Type 0 where
  pub nine : n ≡ used_up
  pub refuses : Refuses n p e
  pub log : e.log ≡ lg
  pub counters : cs' ≡ cs
  pub scratch : s' ≡ s

abbrev pub Taken : Res Fresh → ℕ → List ℕ → List ℕ → List ℕ → List ℕ → Result ℕ Stopped → Type 0
Taken (ok f) lg s cs s' cs' (Ok v) = Took f lg s cs s' cs' v
Taken (ok f) lg s cs s' cs' (Err e) = ⊥
Taken (refuse n q) lg s cs s' cs' (Ok v) = ⊥
Taken (refuse n q) lg s cs s' cs' (Err e) = Full n q lg s cs s' cs' e
