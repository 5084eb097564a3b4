-- The scope on the way through a row of expressions, a row of none, and the two ways out of lowering a name or a literal. Assumes nothing.
use mathlib.Core.Path.{◌≡◌, refl, sym, ap}
use mathlib.Core.Bool.{Bool, true, false}
use mathlib.Core.List.{List}
use Prim.Native.Nat.{ℕ, ◌+◌, ◌*◌, ◌≤◌, ◌<◌}
use native.Mathlib.Omega.{arith}
use lib.ListN.{get_or}
use Rattle.rules.specs.Words.{literal_base, fresh_base}
use Rattle.rules.specs.Refusals.{demand, unbound}
use Rattle.rules.specs.Signature.{Sig}
use Rattle.rules.specs.ToCoreActions.{readable}
use Rattle.std.specs.Prelude.{Result, Ok, Err}
use Rattle.refusals.specs.Numbers.{number_of}
use Rattle.refusals.specs.declared.Reason.TheVariants.{Unbound}
use Rattle.refusals.specs.declared.Refusal.{Refusal}
use Rattle.walks.specs.Steps.{reached_at, Walked, InAnswer, OnStack, Counted, ExprAt, ExprsAt}
use Rattle.walks.specs.declared.Walk.{Walk}
use Rattle.walks.specs.declared.Stopped.{Stopped}
use Rattle.walks.proofs.Frames.{kept_none}
use Rattle.walks.proofs.Read.{leaf_cases}
use Rattle.walks.proofs.Rows.{Going, left_all, left_none}
use Rattle.head_exprs.specs.Scopes.{Scoped, ScopeRoom}
use Rattle.head_exprs.specs.Lowered.{lowered, lowered_all}
use Rattle.head_exprs.specs.declared.scope.Scope.{Scope}
use Rattle.head_exprs.proofs.Scopes.{scoped_kept}
use Rattle.head_exprs.proofs.Pieces.{leaf_piece, lowered_leaf, lowered_row}

-- ---- the scope on the way through a row

pub scope_room_lem : {at to sp lg top : ℕ} {s cs s1 cs1 : List ℕ} {w : Walk} {c : Scope} (n : ℕ) → ScopeRoom n at to sp c
    → Going at to sp lg s cs top s1 cs1 w → ScopeRoom n w.next w.to top c
scope_room_lem n r g =
    let a = g.next in
    record {
      few = r.few;
      body = omega (arith, r.body, g.words);
      names = omega (arith, r.names, g.words_to);
      top = omega (arith, r.top, g.stack);
    }

pub scope_going : {at to sp lg top : ℕ} {s cs s1 cs1 : List ℕ} {w : Walk} {c : Scope} {sig : Sig} {bound : List ℕ} (n : ℕ) → ScopeRoom n at to sp c
    → Going at to sp lg s cs top s1 cs1 w → w.next ≤ n → Scoped sig bound s c → Scoped sig bound s1 c
scope_going n r g h x =
    let a = g.next in
    scoped_kept g.kept r.body (omega (arith, r.names)) r.top x

pub scope_in : {n at to sp : ℕ} {c : Scope} → ScopeRoom n at to sp c → ScopeRoom n (at + 1) to sp c
scope_in r = record { few = r.few; body = r.body; names = omega (arith, r.names); top = r.top }

-- where a walk stands without a term, and a row of none there
abbrev pub standing : (at to lg : ℕ) → Walk
standing p t l = reached_at p t l 0

pub none_way : (sig : Sig) (bound ws : List ℕ) (d n at to sp lg u : ℕ) (s cs : List ℕ) → n ≡ 0 → (es : ExprsAt sig ws d n at)
    → Walked n (OnStack sp n lg s) (lowered_all sig bound es.value cs) es.size at to sp lg s cs s cs (Ok (reached_at at to lg u))
none_way sig bound ws d n at to sp lg u s cs z es =
    left_none (lowered sig bound) (lowered_all sig bound) (lowered_row sig bound) sig ws d n at to sp lg s cs es n sp s cs (reached_at at to lg u)
    (left_all (lowered sig bound) (lowered_all sig bound) (lowered_row sig bound) sig ws d n at to sp lg s cs es u) z

-- ---- a name or a literal

module _ (sig : Sig) (bound ws : List ℕ) (d at to sp lg : ℕ) (s cs : List ℕ) (x : ExprAt sig ws d at) (c : Counted sig cs) (w : ℕ) (is : w ≡ get_or ws at 0)
    (high : literal_base ≤ w) (b : Bool) (test : w < fresh_base → b ≡ readable sig bound w) where
  -- what is left of it, with the answer r, where it is the leaf at this place
  abbrev Leaf-ends : Result Walk Stopped → Type 0
  Leaf-ends r = Walked 1 (InAnswer lg) (lowered sig bound x.value cs) x.size at to sp lg s cs s cs r

  by_leaf : (r : Result Walk Stopped)
      → (w < fresh_base → Walked 1 (InAnswer lg) (demand b unbound at (leaf_piece sig bound w cs)) 1 at to sp lg s cs s cs r) → Leaf-ends r
  by_leaf r f =
      leaf_cases sig ws c.few (λ t k. Walked 1 (InAnswer lg) (lowered sig bound t cs) k at to sp lg s cs s cs r) d at w x is high
      (λ i old. rw (lowered_leaf sig bound at w cs, sym (test old)) (f old))

  pub read_way : b ≡ true → Leaf-ends (Ok (reached_at (at + 1) to lg w))
  read_way e =
      by_leaf (Ok (reached_at (at + 1) to lg w))
      (λ old. rw e
      (record {
        kept = kept_none to (to + 4 * 1) sp (sp + 1) lg (lg + 1) s cs (omega arith);
        ended = (
          record { next = refl; to = omega arith; counters = refl; written = refl; fits = omega arith },
          record { term = refl; uses = omega arith },
        );
      }))

  pub unbound_way : {r : Refusal} → b ≡ false → (r.reason ≡ Unbound) × (r.place ≡ at) → Leaf-ends (Err (record { refusal = r; log = lg }))
  unbound_way e is =
      by_leaf _
      (λ old. rw e
      (record {
        kept = kept_none to (to + 4 * 1) sp (sp + 1) lg (lg + 1) s cs (omega arith);
        ended = record { number = ap number_of is.0; place = is.1 };
      }))
