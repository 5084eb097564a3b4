-- An action by its code: what the function for it asks, and what it leaves, from what is known where the action's word is read. Assumes nothing.
use mathlib.Core.Path.{◌≡◌, refl, sym, ◌∙◌, subst}
use mathlib.Core.Logic.{⊎_elim}
use mathlib.Core.List.{List, ◌∷◌}
use Prim.Native.Nat.{ℕ, ◌+◌, ◌-◌, ◌≤◌, ◌<◌}
use native.Mathlib.Nat.{eq-or-lt_of_le}
use native.Mathlib.Omega.{arith}
use lib.ListN.{length, get_or}
use Rattle.rules.specs.Words.{max_depth, action_base, action_word, head_word, head_of}
use Rattle.rules.specs.Refusals.{Res}
use Rattle.rules.specs.Signature.{Sig}
use Rattle.rules.specs.Written.{Action}
use Rattle.rules.specs.Flat.{CoreAction, Delete, Subsume, action_words}
use Rattle.rules.specs.ToCoreActions.{Done, lower_change, lower_set, lower_action}
use Rattle.std.specs.Prelude.{Result}
use Rattle.walks.specs.Steps.{Piece, ExprAt}
use Rattle.walks.specs.declared.Stopped.{Stopped}
use Rattle.head_exprs.specs.Scopes.{Scoped}
use Rattle.head_exprs.specs.Sites.{Site, Known, RoomAt, ScopeRoomAt, Every, WalkedAt}
use Rattle.actions.specs.Acts.{done_piece, LetAt, ChangeAt, PairAt, changed, walk_of, Gave, Quiet}
use Rattle.actions.specs.Lowers.{Does, second, LowersLet, LowersChange, LowersPanic, LowersExpression}
use Rattle.actions.specs.declared.Acted.{Acted}
use Rattle.core_actions.specs.Rows.{ActionAt, KnownSigned, AsksSigned, LowersUnion, LowersAction}
use Rattle.actions.proofs.Pieces.{done_change, done_set_row, SameBound, same_change, same_set}
use Rattle.actions.proofs.Acting.{acts_same}
use Rattle.core_actions.proofs.ReadActions.{action_high, no_other, let_cases, set_cases, delete_cases, subsume_cases, union_cases, panic_cases, expression_cases}

-- the action y of n words is done
abbrev Ends : Site → Sig → (bound s' cs' : List ℕ) → Result Acted Stopped → Action → ℕ → Type 0
Ends k sig bound s' cs' r y n = Does k sig bound (lower_action sig bound y k.cs) n s' cs' r

-- ---- the action's word is read: w

pub record Coded (gs : List ℕ) (k : Site) (w : ℕ) : Type 0 where
  pub known : KnownSigned gs k (λ sig. ActionAt sig k.ws k.at)
  pub room : RoomAt k k.at
  pub scope_room : ScopeRoomAt k k.at
  pub top : k.scope.first + k.scope.names ≡ k.sp
  pub is : w ≡ get_or k.ws k.at 0
  pub high : action_base ≤ w

pub coded : {gs : List ℕ} {k : Site} {w : ℕ} → AsksSigned gs k (λ sig. ActionAt sig k.ws k.at) k.at → k.scope.first + k.scope.names ≡ k.sp
    → w ≡ get_or k.ws k.at 0 → Coded gs k w
coded {k = k} asks top is =
    let q = asks.0 in
    record { known = q; room = asks.1.0; scope_room = asks.1.1; top = top; is = is; high = omega (arith, action_high q.sig k.ws k.at q.known.0) }

module _ {gs : List ℕ} {k : Site} {w : ℕ} (g : Coded gs k w) where
  word : (code : ℕ) → w - action_base ≡ code → get_or k.ws k.at 0 ≡ action_word code
  word code e = omega (arith, g.is, g.high)

  asks : {A : Sig → Type 0} → ((sig : Sig) → ActionAt sig k.ws k.at → A sig) → Known k A
  asks at = let q = g.known in record { sig = q.sig; known = (at q.sig q.known.0, q.known.1, q.known.2) }

  -- ---- let

  pub let_asks : w - action_base ≡ 1 → Known k (λ sig. LetAt sig k.ws k.at)
  let_asks e = asks (λ sig x. let_cases sig k.ws k.at x (λ y n. LetAt sig k.ws k.at) (word 1 e) (λ y. y))

  pub let_done : {s' cs' : List ℕ} {r : Result Acted Stopped} → w - action_base ≡ 1 → LowersLet k s' cs' r → LowersAction gs k s' cs' r
  let_done {s'} {cs'} {r} e does sig x bound n sc sg =
      let_cases sig k.ws k.at x (Ends k sig bound s' cs' r) (word 1 e) (λ y. does sig y bound n sc)

  -- ---- set, delete and subsume: the row that is walked is the action's

  -- the codes 3 and 4 are read by one arm
  by_either : {A : Type 0} → 3 ≤ w - action_base → w - action_base < 5 → (w - action_base ≡ 3 → A) → (w - action_base ≡ 4 → A) → A
  by_either low high three four =
      ⊎_elim (λ (same : 3 ≡ w - action_base). three (sym same)) (λ (more : 3 < w - action_base). four (omega arith)) (eq-or-lt_of_le low)

  -- the kind 3 word's head
  abbrev head : ℕ
  head = head_of (second k)

  module _ {s' cs' : List ℕ} {r : Result Acted Stopped} where
    row_does : (sig : Sig) (bound : List ℕ) (x : Res Done) (more code : ℕ) (y : ChangeAt sig k.ws more k.at) → Scoped sig bound k.s k.scope → Quiet r
        → SameBound sig bound x → w ≡ code → done_piece x ≡ changed sig bound code more (k.at + 1) head y.exprs.value k.cs
        → WalkedAt k 0 (Gave r) (changed sig bound w more (k.at + 1) head y.exprs.value k.cs) (2 + y.exprs.size) k.at s' cs' (walk_of r)
        → Does k sig bound x (2 + y.exprs.size) s' cs' r
    row_does sig bound x more code y sc none same e is walk =
        let i = y.exprs.inside in
        acts_same sig bound k.scope (length k.ws) x same none g.scope_room (omega arith) sc
        (subst (λ (p : Res Piece). WalkedAt k 0 (Gave r) p (2 + y.exprs.size) k.at s' cs' (walk_of r)) (sym is)
        (subst (λ (u : ℕ). WalkedAt k 0 (Gave r) (changed sig bound u more (k.at + 1) head y.exprs.value k.cs) (2 + y.exprs.size) k.at
        s' cs' (walk_of r)) e walk))

    pub set_done : w - action_base ≡ 2 → LowersChange k w 1 s' cs' r → LowersAction gs k s' cs' r
    set_done e does sig x bound n sc sg =
        set_cases sig k.ws k.at x (Ends k sig bound s' cs' r) (word 2 e)
        (λ y es v row. row_does sig bound (lower_set sig bound (k.at + 1) head es v k.cs) 1 (action_word 2) y sc does.0
        (same_set sig bound (k.at + 1) head es v k.cs) (g.is ∙ word 2 e)
        (done_set_row sig bound (k.at + 1) head es v k.cs ∙ (λ i. changed sig bound (action_word 2) 1 (k.at + 1) head (sym row i) k.cs))
        (does.1 sig y bound n sc))

    change_does : (C : ℕ → List ℕ → CoreAction) (code : ℕ) → ((h : ℕ) (ts : List ℕ) → action_words (C h ts) ≡ code ∷ head_word h (length ts) ∷ ts)
        → get_or k.ws k.at 0 ≡ code → LowersChange k w 0 s' cs' r
        → Every k (λ sig. ChangeAt sig k.ws 0 k.at)
        (λ sig y bound. Does k sig bound (lower_change sig bound C (k.at + 1) head y.exprs.value k.cs) (2 + y.exprs.size) s' cs' r)
    change_does C code is e does sig y bound n sc =
        row_does sig bound (lower_change sig bound C (k.at + 1) head y.exprs.value k.cs) 0 code y sc does.0
        (same_change sig bound C (k.at + 1) head y.exprs.value k.cs) (g.is ∙ e)
        (done_change sig bound C code is (k.at + 1) head y.exprs.value k.cs) (does.1 sig y bound n sc)

    pub delete_done : w - action_base ≡ 3 → LowersChange k w 0 s' cs' r → LowersAction gs k s' cs' r
    delete_done e does sig x bound n sc sg =
        delete_cases sig k.ws k.at x (Ends k sig bound s' cs' r) (word 3 e)
        (λ y. change_does Delete (action_word 3) (λ h ts. refl) (word 3 e) does sig y bound n sc)

    pub subsume_done : w - action_base ≡ 4 → LowersChange k w 0 s' cs' r → LowersAction gs k s' cs' r
    subsume_done e does sig x bound n sc sg =
        subsume_cases sig k.ws k.at x (Ends k sig bound s' cs' r) (word 4 e)
        (λ y. change_does Subsume (action_word 4) (λ h ts. refl) (word 4 e) does sig y bound n sc)

    pub change_done : 3 ≤ w - action_base → w - action_base < 5 → LowersChange k w 0 s' cs' r → LowersAction gs k s' cs' r
    change_done low high does = by_either low high (λ e. delete_done e does) (λ e. subsume_done e does)

  pub set_asks : w - action_base ≡ 2 → Known k (λ sig. ChangeAt sig k.ws 1 k.at)
  set_asks e = asks (λ sig x. set_cases sig k.ws k.at x (λ y n. ChangeAt sig k.ws 1 k.at) (word 2 e) (λ y es v row. y))

  pub delete_asks : w - action_base ≡ 3 → Known k (λ sig. ChangeAt sig k.ws 0 k.at)
  delete_asks e = asks (λ sig x. delete_cases sig k.ws k.at x (λ y n. ChangeAt sig k.ws 0 k.at) (word 3 e) (λ y. y))

  pub subsume_asks : w - action_base ≡ 4 → Known k (λ sig. ChangeAt sig k.ws 0 k.at)
  subsume_asks e = asks (λ sig x. subsume_cases sig k.ws k.at x (λ y n. ChangeAt sig k.ws 0 k.at) (word 4 e) (λ y. y))

  pub change_asks : 3 ≤ w - action_base → w - action_base < 5 → Known k (λ sig. ChangeAt sig k.ws 0 k.at)
  change_asks low high = by_either low high delete_asks subsume_asks

  -- ---- union

  pub union_asks : w - action_base ≡ 5 → KnownSigned gs k (λ sig. PairAt sig k.ws k.at)
  union_asks e =
      let q = g.known in
      record {
        sig = q.sig;
        known = (union_cases q.sig k.ws k.at q.known.0 (λ y n. PairAt q.sig k.ws k.at) (word 5 e) (λ y. y), q.known.1, q.known.2, q.known.3);
      }

  pub union_done : {s' cs' : List ℕ} {r : Result Acted Stopped} → w - action_base ≡ 5 → LowersUnion gs k s' cs' r → LowersAction gs k s' cs' r
  union_done {s'} {cs'} {r} e does sig x bound n sc sg =
      union_cases sig k.ws k.at x (Ends k sig bound s' cs' r) (word 5 e) (λ y. does sig y bound n sc sg)

  -- ---- panic and an expression

  pub panic_asks : w - action_base ≡ 6 → k.at + 1 < length k.ws
  panic_asks e = let q = g.known in panic_cases q.sig k.ws k.at q.known.0 (λ y n. k.at + 1 < length k.ws) (word 6 e) (λ i. i)

  pub panic_done : {s' cs' : List ℕ} {r : Result Acted Stopped} → w - action_base ≡ 6
      → LowersPanic k s' cs' r
      → LowersAction gs k s' cs' r
  panic_done {s'} {cs'} {r} e does sig x bound n sc sg =
      panic_cases sig k.ws k.at x (Ends k sig bound s' cs' r) (word 6 e) (λ i. does sig bound sc)

  pub expression_asks : w - action_base ≡ 8 → Known k (λ sig. ExprAt sig k.ws max_depth (k.at + 1))
  expression_asks e = asks (λ sig x. expression_cases sig k.ws k.at x (λ y n. ExprAt sig k.ws max_depth (k.at + 1)) (word 8 e) (λ y. y))

  pub expression_done : {s' cs' : List ℕ} {r : Result Acted Stopped} → w - action_base ≡ 8
      → LowersExpression k s' cs' r
      → LowersAction gs k s' cs' r
  expression_done {s'} {cs'} {r} e does sig x bound n sc sg =
      expression_cases sig k.ws k.at x (Ends k sig bound s' cs' r) (word 8 e) (λ y. does sig y bound n sc)

  -- ---- no other word is an action's

  abbrev Not : ℕ → Type 0
  Not code = w - action_base ≡ code → ⊥

  not_word : (code : ℕ) → Not code → w ≡ action_word code → ⊥
  not_word code no' e = no' (omega arith)

  pub no_code_lem : {s' cs' : List ℕ} {r : Result Acted Stopped} → Not 1 → Not 2 → Not 3 → Not 4 → Not 5 → Not 6 → Not 8 → LowersAction gs k s' cs' r
  no_code_lem n1 n2 n3 n4 n5 n6 n8 sig x bound n sc sg =
      absurd (no_other sig k.ws k.at x w g.is (not_word 1 n1) (not_word 2 n2) (not_word 3 n3) (not_word 4 n4) (not_word 5 n5) (not_word 6 n6) (not_word 8 n8))
