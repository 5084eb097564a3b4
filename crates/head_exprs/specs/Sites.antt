-- Where an action or a row of expressions is lowered: the words that its walk is given, and what its contract asks and says of them.
-- Assumes nothing: these are definitions.
use Rattle.std.specs.Prelude.{List, ℕ, length, Result}
use Rattle.rules.specs.Refusals.{Res}
use Rattle.rules.specs.Signature.{Sig}
use Rattle.walks.specs.Steps.{Piece, tops, Walked, Room, Under, Counted}
use Rattle.walks.specs.declared.Walk.{Walk}
use Rattle.walks.specs.declared.Stopped.{Stopped}
use Rattle.walks.specs.declared.Tops.{Tops}
use Rattle.head_exprs.specs.Scopes.{Scoped, ScopeRoom, Names}
use Rattle.head_exprs.specs.declared.scope.Scope.{Scope}

-- the words of the rule, of the scratch and of the counters; a place in the rule; where words, stack and log go on; and the names in scope
pub record Site : Type 0 where
  pub ws : List ℕ
  pub s : List ℕ
  pub cs : List ℕ
  pub at : ℕ
  pub to : ℕ
  pub sp : ℕ
  pub lg : ℕ
  pub scope : Scope

abbrev pub site_of : (ws s cs : List ℕ) (at : ℕ) → Tops → Scope → Site
site_of ws s cs at t c = record { ws = ws; s = s; cs = cs; at = at; to = t.to; sp = t.sp; lg = t.log; scope = c }

-- ---- the parts of contracts

module _ (k : Site) where
  -- a signature under which X stands there
  abbrev pub Known : (Sig → Type 0) → Type 0
  Known X = Under (λ sig. X sig × Counted sig k.cs × Names sig k.s k.scope)

  -- room for what stands at the place p
  abbrev pub RoomAt : ℕ → Type 0
  RoomAt p = Room (length k.ws) p (tops k.to k.sp k.lg) (length k.s)

  abbrev pub ScopeRoomAt : ℕ → Type 0
  ScopeRoomAt p = ScopeRoom (length k.ws) p k.to k.sp k.scope

  -- what a walk over X at the place p asks
  abbrev pub Asks : (Sig → Type 0) → ℕ → Type 0
  Asks X p = Known X × (RoomAt p × ScopeRoomAt p)

  -- whatever of X stands there, under any signature: P
  abbrev pub Every : (X : Sig → Type 0) → ((sig : Sig) → X sig → List ℕ → Type 0) → Type 0
  Every X P = (sig : Sig) (x : X sig) (bound : List ℕ) → Counted sig k.cs → Scoped sig bound k.s k.scope → P sig x bound

  -- the n words from p on were walked with the result x and the answer r, which left s' and cs'
  abbrev pub WalkedAt : (m : ℕ) → (Walk → Piece → Type 0) → (x : Res Piece) (n p : ℕ) (s' cs' : List ℕ) → Result Walk Stopped → Type 0
  WalkedAt m T x n p s' cs' r = Walked m T x n p k.to k.sp k.lg k.s k.cs s' cs' r
