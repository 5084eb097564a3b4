-- What an action leaves, from the walk that lowers it; an action that is one expression, and a panic. Assumes nothing.
use mathlib.Core.Path.{◌≡◌, refl, sym, ap, subst}
use mathlib.Core.List.{List, [], ◌∷◌, ◌++◌}
use Prim.Native.Nat.{ℕ, ◌+◌, ◌-◌, ◌*◌, ◌^◌, ◌≤◌, ◌<◌}
use native.Mathlib.Omega.{arith}
use lib.ListN.{length}
use Rattle.std.specs.Prelude.{Result, Ok, Err}
use Rattle.octets.specs.Regions.{splice}
use Rattle.rules.specs.Words.{max_depth, action_word}
use Rattle.rules.specs.Refusals.{Res, ok, refuse, ◌>>=◌}
use Rattle.rules.specs.Signature.{Sig}
use Rattle.rules.specs.Written.{panic', expr'}
use Rattle.rules.specs.ToCoreActions.{Done, lower_action}
use Rattle.walks.specs.Steps.{Piece, reached_at, nothing, Kept, Walked, InAnswer, ExprAt}
use Rattle.walks.specs.declared.Walk.{Walk}
use Rattle.walks.specs.declared.Stopped.{Stopped}
use Rattle.walks.proofs.Frames.{kept_wide}
use Rattle.walks.proofs.Steps.{went, stop, none_walked, written}
use Rattle.head_exprs.specs.Scopes.{Scoped, ScopeRoom, grown}
use Rattle.head_exprs.specs.Sites.{Site, RoomAt, ScopeRoomAt, Every, WalkedAt}
use Rattle.head_exprs.specs.Lowered.{lowered}
use Rattle.head_exprs.specs.declared.scope.Scope.{Scope}
use Rattle.head_exprs.proofs.Scopes.{scoped_kept}
use Rattle.head_exprs.proofs.Sites.{Begun}
use Rattle.actions.specs.Acts.{done_piece, acted_at, walk_of, names_of, Gave, Quiet, Acts}
use Rattle.actions.specs.Lowers.{second, LowersPanic, LowersExpression}
use Rattle.actions.specs.declared.Acted.{Acted}
use Rattle.actions.proofs.Pieces.{silent, done_expression, SameBound, same_expression}

-- ---- from a walk to what an action leaves

-- a refused action
pub acts_stop : {sig : Sig} {bound : List ℕ} {c : Scope} {k at to sp lg : ℕ} {s cs s' cs' : List ℕ} {e : Stopped} (x : Res Done)
    → Walked 0 (Gave (Err e)) (done_piece x) k at to sp lg s cs s' cs' (Err e) → Acts x sig bound c k at to sp lg s cs s' cs' (Err e)
acts_stop (ok d) w = absurd w.ended
acts_stop (refuse n p) w = record { piece = w; after = tt }

-- the scope of a part that binds nothing
pub scope_after : {at to sp lg log : ℕ} {c : Scope} {sig : Sig} {bound s cs s' cs' : List ℕ} (n k : ℕ) → ScopeRoom n at to sp c → at + k ≤ n
    → Kept to (to + 4 * k) sp (sp + k) lg (lg + k) s cs s' cs' log → Scoped sig bound s c → Scoped sig bound s' c
scope_after n k r h kp x = scoped_kept kp r.body (omega (arith, r.names)) r.top x

-- an action that binds nothing
pub acts_same : {k at to sp lg : ℕ} {s cs s' cs' : List ℕ} {r : Result Acted Stopped} (sig : Sig) (bound : List ℕ) (c : Scope) (n : ℕ) (x : Res Done)
    → SameBound sig bound x → Quiet r → ScopeRoom n at to sp c → at + k ≤ n → Scoped sig bound s c
    → Walked 0 (Gave r) (done_piece x) k at to sp lg s cs s' cs' (walk_of r) → Acts x sig bound c k at to sp lg s cs s' cs' r
acts_same sig bound c n (refuse i p) same quiet sr h sc w = record { piece = w; after = tt }
acts_same {k = k} {s' = s'} {r = r} sig bound c n (ok d) same quiet sr h sc w =
    let e : c.names ≡ c.names + names_of r = omega (arith, quiet) in
    let now = scope_after n k sr h w.kept sc in
    let big = subst (λ (t : ℕ). Scoped sig bound s' (record { globals = c.globals; body = c.body; first = c.first; names = t })) e now in
    let more : names_of r + length bound ≡ length d.bound = omega (arith, quiet, ap length same) in
    record { piece = w; after = (omega (arith, quiet), more, subst (λ (b : List ℕ). Scoped sig b s' (grown c (names_of r))) (sym same) big) }

-- ---- an expression

-- the one at p is lowered with the answer r, which leaves s1 and cs1
pub record LowAt (k : Site) (p : ℕ) (s1 cs1 : List ℕ) (r : Result Walk Stopped) : Type 0 where
  pub walk : Every k (λ sig. ExprAt sig k.ws max_depth p) (λ sig x bound. WalkedAt k 1 (InAnswer k.lg) (lowered sig bound x.value k.cs) x.size p s1 cs1 r)
  pub size : length s1 ≡ length k.s
  pub counters : length cs1 ≡ length k.cs

-- so says the contract of that walk
pub low_at : {k : Site} {p : ℕ} {s1 cs1 : List ℕ} {r : Result Walk Stopped}
    → Every k (λ sig. ExprAt sig k.ws max_depth p) (λ sig x bound. WalkedAt k 1 (InAnswer k.lg) (lowered sig bound x.value k.cs) x.size p s1 cs1 r)
    → length s1 ≡ length k.s → length cs1 ≡ length k.cs → LowAt k p s1 cs1 r
low_at walk size counters = record { walk = walk; size = size; counters = counters }

-- the walk e of what stands behind the action word is done, and leaves s1: what writing three words behind it asks
pub record Fine (k : Site) (s1 : List ℕ) (e : Walk) : Type 0 where
  pub logged : k.lg ≤ e.log
  pub log : e.log < length s1
  pub words : e.to + 3 ≤ length s1
  pub top : k.sp < length s1
  pub scratch_fits : length s1 < 2 ^ 64

pub is_fine : {k : Site} {X : Sig → Type 0} {m n p : ℕ} {T : Walk → Piece → Type 0} {s1 cs1 : List ℕ} {e : Walk} → Begun k X → (x : Res Piece)
    → WalkedAt k m T x n p s1 cs1 (Ok e) → k.at < p → p + n ≤ length k.ws → Fine k s1 e
is_fine g x w behind inside =
    let o = went x w in
    let r = g.room in
    let z = w.kept.size in
    record {
      logged = o.log_from;
      log = omega (arith, o.log_up_to, r.log);
      words = omega (arith, o.up_to, r.words, r.stack, r.log);
      top = omega (arith, r.stack, r.log);
      scratch_fits = omega (arith, g.scratch_fits);
    }

-- an action that is no more
module _ {k : Site} (g : Begun k (λ sig. ExprAt sig k.ws max_depth (k.at + 1))) {s1 cs1 : List ℕ} where
  -- the walk of its calls is the action's own, but for the term
  ends : {q : Result Walk Stopped} (r : Result Acted Stopped) → LowAt k (k.at + 1) s1 cs1 q → Quiet r
      → ((y : Res Piece) (n : ℕ) → WalkedAt k 1 (InAnswer k.lg) y n (k.at + 1) s1 cs1 q
      → WalkedAt k 0 (Gave r) (◌>>=◌ y (λ p. ok (silent p))) (1 + n) k.at s1 cs1 (walk_of r)) → LowersExpression k s1 cs1 r
  ends r l quiet wide sig x bound n sc =
      let i = x.inside in
      acts_same sig bound k.scope (length k.ws) (lower_action sig bound (expr' x.value) k.cs) (same_expression sig bound x.value k.cs) quiet
      g.scope_room (omega arith) sc (rw (done_expression sig bound x.value k.cs) (wide (lowered sig bound x.value k.cs) x.size (l.walk sig x bound n sc)))

  pub expression_refused : {e : Stopped} → LowAt k (k.at + 1) s1 cs1 (Err e) → LowersExpression k s1 cs1 (Err e)
  expression_refused {e} l = ends (Err e) l refl (λ y n w. stop (1 + n) k.at y (λ p. ok (silent p)) w (omega arith))

  module _ {e : Walk} (l : LowAt k (k.at + 1) s1 cs1 (Ok e)) where
    pub expression_logged : k.lg ≤ e.log
    expression_logged = let t = g.tree in omega (arith, (l.walk t.sig t.it t.bound t.counted t.scoped).kept.up_to)

    pub expression_done : LowersExpression k s1 cs1 (Ok (acted_at e.next e.to e.log 0 (e.log - k.lg)))
    expression_done = ends (Ok (acted_at e.next e.to e.log 0 (e.log - k.lg))) l refl wide
      where
        wide : (y : Res Piece) (n : ℕ) → WalkedAt k 1 (InAnswer k.lg) y n (k.at + 1) s1 cs1 (Ok e)
            → WalkedAt k 0 (Gave (Ok (acted_at e.next e.to e.log 0 (e.log - k.lg)))) (◌>>=◌ y (λ p. ok (silent p))) (1 + n) k.at s1 cs1
            (Ok (reached_at e.next e.to e.log 0))
        wide (refuse i p) n w = absurd w.ended
        wide (ok p) n w =
            let o = w.ended.0 in
            let m : ℕ = 1 + n in
            record {
              kept =
                  kept_wide k.to (k.to + 4 * m) k.sp (k.sp + m) (k.lg + m) w.kept (omega arith) (omega arith) (omega arith) (omega arith) (omega arith);
              ended = (
                record { next = omega (arith, o.next); to = o.to; counters = o.counters; written = o.written; fits = omega (arith, o.fits) },
                omega (arith, w.ended.1.uses),
              );
            }

-- ---- a panic

-- its literal is read as l
pub record Panics (k : Site) (l : ℕ) : Type 0 where
  pub is : l ≡ second k
  pub inside : k.at + 1 < length k.ws
  pub room : RoomAt k k.at
  pub scope_room : ScopeRoomAt k k.at
  pub rule_fits : length k.ws < 2 ^ 64

module _ {k : Site} {l : ℕ} (h : Panics k l) where
  abbrev standing : Walk
  standing = reached_at (k.at + 2) k.to k.lg 0

  pub panic_done : {s1 : List ℕ} {e : ℕ} → (e ≡ k.to + 2) × (s1 ≡ splice k.s k.to (action_word 6 ∷ l ∷ []))
      → LowersPanic k s1 k.cs (Ok (acted_at (k.at + 2) e k.lg 0 1))
  panic_done {s1} {e} put sig bound sc =
      let i = h.inside in
      let r = h.room in
      acts_same sig bound k.scope (length k.ws) (lower_action sig bound (panic' (second k)) k.cs) refl refl h.scope_room (omega arith) sc
      (written 0 (Gave (Ok (acted_at (k.at + 2) e k.lg 0 1))) 0 2 (k.at + 2) k.at k.to k.sp k.lg k.s k.cs k.s k.cs s1 (action_word 6 ∷ l ∷ []) standing e 0
      (ok (nothing k.cs)) (λ p. record { terms = []; words = action_word 6 ∷ second k ∷ []; count = 1; next = k.cs })
      (omega (arith, r.words)) (omega (arith, r.stack)) (omega (arith, r.log)) (omega arith) (omega arith) (omega arith)
      (none_walked {T = λ b p. p ≡ nothing k.cs} k.sp k.s k.cs standing refl) put.1 (omega (arith, put.0))
      (λ p u. record {
        words = λ i. sym (ap (λ (z : Piece). z.words) u) i ++ (action_word 6 ∷ sym h.is i ∷ []);
        counters = sym (ap (λ (z : Piece). z.next) u);
        terms = refl;
      }))
