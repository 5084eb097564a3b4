-- 01, "Lowering the head": where an action and a row of them stand in a written rule, and what lowering either leaves.
-- Assumes nothing: these are definitions.
use Rattle.std.specs.Prelude.{◌≡◌, List, ℕ, ◌+◌, length, Result, ⊤}
use Rattle.rules.specs.Refusals.{Res, ok, refuse}
use Rattle.rules.specs.Signature.{Sig}
use Rattle.rules.specs.Written.{read_action, read_row}
use Rattle.rules.specs.ToCoreActions.{Done, union_as_set, lower_union, lower_action, to_core_actions}
use Rattle.walks.specs.Steps.{tops, Under, Counted, ReadAt}
use Rattle.walks.specs.declared.Stopped.{Stopped}
use Rattle.head_exprs.specs.Scopes.{Scoped, Names}
use Rattle.head_exprs.specs.Sites.{Site, site_of, RoomAt, ScopeRoomAt, WalkedAt}
use Rattle.head_exprs.specs.declared.scope.Scope.{Scope}
use Rattle.actions.specs.Acts.{PairAt, done_piece, walk_of, names_of, Gave}
use Rattle.actions.specs.Lowers.{Does}
use Rattle.actions.specs.declared.Acted.{Acted}
use Rattle.core_actions.specs.Unions.{Signed}

-- an action stands there; `at` is the place of its action word
abbrev pub ActionAt : Sig → List ℕ → ℕ → Type 0
ActionAt sig ws at = ReadAt (read_action sig ws) ws at

-- n actions stand there, one behind another
abbrev pub ActionsAt : Sig → List ℕ → ℕ → ℕ → Type 0
ActionsAt sig ws n at = ReadAt (read_row (read_action sig ws) n) ws at

-- after a row of actions that is done the answer counts the names that the scope had and those bound since
abbrev pub NamesAfter : Res Done → List ℕ → Scope → Result Acted Stopped → Type 0
NamesAfter (ok d) bound c r = names_of r + length bound ≡ c.names + length d.bound
NamesAfter (refuse n p) bound c r = ⊤

-- where a row of actions stands: its stack starts behind the names of the scope
abbrev pub row_site : (ws s cs : List ℕ) (at to lg : ℕ) → Scope → Site
row_site ws s cs at to lg c = site_of ws s cs at (tops to (c.first + c.names) lg) c

-- ---- under a signature that the words gs say

module _ (gs : List ℕ) (k : Site) where
  -- one under which X stands there
  abbrev pub KnownSigned : (Sig → Type 0) → Type 0
  KnownSigned X = Under (λ sig. X sig × Counted sig k.cs × Names sig k.s k.scope × Signed sig gs)

  -- what a walk over X at the place p asks
  abbrev pub AsksSigned : (Sig → Type 0) → ℕ → Type 0
  AsksSigned X p = KnownSigned X × (RoomAt k p × ScopeRoomAt k p)

  -- whatever of X stands there, under any of them: P
  abbrev pub EverySigned : (X : Sig → Type 0) → ((sig : Sig) → X sig → List ℕ → Type 0) → Type 0
  EverySigned X P = (sig : Sig) (x : X sig) (bound : List ℕ) → Counted sig k.cs → Scoped sig bound k.s k.scope → Signed sig gs → P sig x bound

  -- what lowering a union, an action and a row of n actions leaves: s' of the scratch, cs' of the counters, and the answer r
  abbrev pub LowersUnion : (s' cs' : List ℕ) → Result Acted Stopped → Type 0
  LowersUnion s' cs' r =
      EverySigned (λ sig. PairAt sig k.ws k.at)
      (λ sig x bound. Does k sig bound (lower_union sig bound (union_as_set sig x.left.value x.right.value) x.left.value x.right.value k.cs)
      (1 + (x.left.size + x.right.size)) s' cs' r)

  abbrev pub LowersAction : (s' cs' : List ℕ) → Result Acted Stopped → Type 0
  LowersAction s' cs' r = EverySigned (λ sig. ActionAt sig k.ws k.at) (λ sig x bound. Does k sig bound (lower_action sig bound x.value k.cs) x.size s' cs' r)

  abbrev pub ActsAll : (n : ℕ) (s' cs' : List ℕ) → Result Acted Stopped → Type 0
  ActsAll n s' cs' r =
      EverySigned (λ sig. ActionsAt sig k.ws n k.at)
      (λ sig x bound. WalkedAt k 0 (Gave r) (done_piece (to_core_actions sig bound x.value k.cs)) x.size k.at s' cs' (walk_of r)
      × NamesAfter (to_core_actions sig bound x.value k.cs) bound k.scope r)
