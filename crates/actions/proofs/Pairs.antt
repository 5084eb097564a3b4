-- A union that stays one: its left side is lowered, then its right side from where that walk stands, and the action of both terms is written. What is
-- known at each step of `unite`, and each way out. Assumes nothing.
use mathlib.Core.Path.{◌≡◌, refl, sym}
use mathlib.Core.List.{List, [], ◌∷◌, ◌++◌}
use mathlib.Core.Option.{none}
use Prim.Native.Nat.{ℕ, ◌+◌, ◌-◌, ◌≤◌}
use native.Mathlib.Omega.{arith}
use lib.ListN.{length}
use Rattle.octets.specs.Regions.{splice}
use Rattle.rules.specs.Words.{max_depth, action_word}
use Rattle.rules.specs.Refusals.{Res, ok, ◌>>=◌}
use Rattle.rules.specs.Signature.{Sig}
use Rattle.rules.specs.Written.{read_expr}
use Rattle.rules.specs.ToCoreActions.{Done, lower_union}
use Rattle.std.specs.Prelude.{Result, Ok, Err}
use Rattle.walks.specs.Steps.{Piece, both, and_then, tops_at, InAnswer, ExprAt}
use Rattle.walks.specs.declared.Walk.{Walk}
use Rattle.walks.specs.declared.Stopped.{Stopped}
use Rattle.walks.proofs.Steps.{went, stop, walk_then, written}
use Rattle.walks.proofs.Read.{moved}
use Rattle.walks.proofs.Asks.{counted_kept, right_there}
use Rattle.head_exprs.specs.Scopes.{Scoped}
use Rattle.head_exprs.specs.Sites.{Site, site_of, ScopeRoomAt, Asks, WalkedAt}
use Rattle.head_exprs.specs.Lowered.{lowered}
use Rattle.head_exprs.proofs.Sites.{Tree, tree, Begun}
use Rattle.actions.specs.Acts.{PairAt, acted_at, Gave}
use Rattle.actions.specs.Lowers.{Does, Unites}
use Rattle.actions.specs.declared.Acted.{Acted}
use Rattle.actions.proofs.Pieces.{union_piece, done_union, same_union}
use Rattle.actions.proofs.Acting.{acts_stop, acts_same, scope_after, LowAt, Fine, is_fine}

abbrev pub Pair : Site → Sig → Type 0
Pair k sig = PairAt sig k.ws k.at

-- what both sides are lowered to, the right one from the counters that the left one leaves
module _ {k : Site} (t : Tree k (Pair k)) where
  abbrev X : Res Piece
  X = lowered t.sig t.bound t.it.left.value k.cs

  abbrev Y : List ℕ → Res Piece
  Y = lowered t.sig t.bound t.it.right.value

  abbrev size : ℕ
  size = t.it.left.size + t.it.right.size

  abbrev union : Res Done
  union = lower_union t.sig t.bound none t.it.left.value t.it.right.value k.cs

  abbrev Ends : List ℕ → List ℕ → Result Acted Stopped → Type 0
  Ends s' cs' r = Does k t.sig t.bound union (1 + size) s' cs' r

  -- a walk over both sides that stops
  refused : {m p : ℕ} {T : Walk → Piece → Type 0} {s' cs' : List ℕ} {e : Stopped} (n : ℕ) → WalkedAt k m T (and_then X Y) n p s' cs' (Err e) → n ≤ 1 + size
      → Ends s' cs' (Err e)
  refused n w h =
      acts_stop union
      (rw (done_union t.sig t.bound t.it.left.value t.it.right.value k.cs) (stop (1 + size) k.at (and_then X Y) (λ q. ok (union_piece q)) w h))

-- ---- the left side is lowered, which leaves s1 and cs1

pub left_refused : {k : Site} {s1 cs1 : List ℕ} {e : Stopped} → LowAt k (k.at + 1) s1 cs1 (Err e) → Unites k s1 cs1 (Err e)
left_refused {k} {s1} {cs1} {e} left sig x bound n sc = stopped (tree sig x bound n sc)
  where
    stopped : (t : Tree k (Pair k)) → Ends t s1 cs1 (Err e)
    stopped t =
        let one : WalkedAt k 0 (λ a p. ⊥) (and_then (X t) (Y t)) (1 + size t) k.at s1 cs1 (Err e) =
        stop (1 + size t) k.at (X t) (λ p. ◌>>=◌ (Y t p.next) (λ q. ok (both p q))) (left.walk t.sig t.it.left t.bound t.counted t.scoped) (omega arith) in
        refused t (1 + size t) one (omega arith)

-- ---- it is done: l

pub record LeftDone (k : Site) (s1 cs1 : List ℕ) (l : Walk) : Type 0 where
  pub begun : Begun k (Pair k)
  pub low : LowAt k (k.at + 1) s1 cs1 (Ok l)

pub left_done : {k : Site} {s1 cs1 : List ℕ} {l : Walk} → Begun k (Pair k) → LowAt k (k.at + 1) s1 cs1 (Ok l) → LeftDone k s1 cs1 l
left_done g low = record { begun = g; low = low }

-- the site of the right side
abbrev pub behind : Site → (s1 cs1 : List ℕ) → Walk → Site
behind k s1 cs1 l = site_of k.ws s1 cs1 l.next (tops_at l k.sp) k.scope

module _ {k : Site} {s1 cs1 : List ℕ} {l : Walk} (d : LeftDone k s1 cs1 l) where
  walk : (t : Tree k (Pair k)) → WalkedAt k 1 (InAnswer k.lg) (X t) t.it.left.size (k.at + 1) s1 cs1 (Ok l)
  walk t = d.low.walk t.sig t.it.left t.bound t.counted t.scoped

  scoped : (t : Tree k (Pair k)) → Scoped t.sig t.bound s1 k.scope
  scoped t =
      let i = t.it.right.inside in
      let sr = d.begun.scope_room in
      let here : ScopeRoomAt k (k.at + 1) = record { few = sr.few; body = sr.body; names = omega (arith, sr.names); top = sr.top } in
      scope_after (length k.ws) t.it.left.size here (omega arith) (walk t).kept t.scoped

  -- the right side, where the walk stands
  abbrev right : Tree k (Pair k) → Tree (behind k s1 cs1 l) (λ sig. ExprAt sig k.ws max_depth l.next)
  right t =
      let there = (went (X t) (walk t)).next in
      tree t.sig (moved (read_expr t.sig k.ws max_depth) k.ws (k.at + 1 + t.it.left.size) l.next (sym there) t.it.right)
      t.bound (counted_kept t.counted d.low.counters) (scoped t)

  -- what lowering it asks
  pub right_asks : Asks (behind k s1 cs1 l) (λ sig. ExprAt sig k.ws max_depth l.next) l.next
  right_asks =
      let g = d.begun in
      let t = right g.tree in
      let o = went (X g.tree) (walk g.tree) in
      let sr = g.scope_room in
      let n = o.next in
      let u = o.up_to in
      let f = o.from in (
        record { sig = t.sig; known = (t.it, t.counted, record { bound = t.bound; scoped = t.scoped }) },
        (
          (right_there t.sig k.ws max_depth (length s1) g.tree.it.left.size g.room d.low.size o g.tree.it.right).room,
          record { few = sr.few; body = omega (arith, sr.body); names = omega (arith, sr.names); top = sr.top },
        ),
      )

  -- ---- the right side is lowered with the answer r, which leaves s2 and cs2

  record Sides (r : Walk) (p : Piece) : Type 0 where
    pub terms : p.terms ≡ l.term ∷ r.term ∷ []
    pub uses : r.log ≡ k.lg + p.count

  sides : {s2 cs2 : List ℕ} {r : Result Walk Stopped} → LowAt (behind k s1 cs1 l) l.next s2 cs2 r → (t : Tree k (Pair k))
      → WalkedAt k 2 Sides (and_then (X t) (Y t)) (size t) (k.at + 1) s2 cs2 r
  sides {s2} {cs2} low t =
      let u = right t in
      let i = t.it.right.inside in
      walk_then t.it.left.size t.it.right.size (k.at + 1) k.to k.sp k.sp k.lg k.s k.cs s1 cs1 s2 cs2 l
      (omega (arith, d.begun.room.stack)) (omega arith) (omega arith) 2 Sides (X t) (Y t) (omega arith) (walk t)
      (low.walk u.sig u.it u.bound u.counted u.scoped)
      (λ b p q t u. record { terms = λ i. t.term i ++ u.term i; uses = omega (arith, t.uses, u.uses) })

  pub right_refused : {s2 cs2 : List ℕ} {e : Stopped} → LowAt (behind k s1 cs1 l) l.next s2 cs2 (Err e) → Unites k s2 cs2 (Err e)
  right_refused low sig x bound n sc = let t : Tree k (Pair k) = tree sig x bound n sc in refused t (size t) (sides low t) (omega arith)

  module _ {s2 cs2 : List ℕ} {r : Walk} (low : LowAt (behind k s1 cs1 l) l.next s2 cs2 (Ok r)) where
    pub both_fine : Fine k s2 r
    both_fine =
        let t = d.begun.tree in
        let i = t.it.right.inside in
        is_fine d.begun (and_then (X t) (Y t)) (sides low t) (omega arith) (omega arith)

    -- the action is written, up to e, which leaves s3
    module _ {s3 : List ℕ} {e : ℕ} (put : (e ≡ r.to + 3) × (s3 ≡ splice s2 r.to (action_word 5 ∷ l.term ∷ r.term ∷ []))) where
      abbrev answer : Result Acted Stopped
      answer = Ok (acted_at r.next e r.log 0 (r.log - k.lg + 1))

      pub union_done : Unites k s3 cs2 answer
      union_done sig x bound n sc = done (tree sig x bound n sc)
        where
          done : (t : Tree k (Pair k)) → Ends t s3 cs2 answer
          done t =
              let i = t.it.right.inside in
              let q = d.begun.room in
              acts_same t.sig t.bound k.scope (length k.ws) (union t)
              (same_union t.sig t.bound t.it.left.value t.it.right.value k.cs) refl d.begun.scope_room (omega arith)
              t.scoped
              (rw (done_union t.sig t.bound t.it.left.value t.it.right.value k.cs)
              (written 0 (Gave answer) (size t) (1 + size t) (k.at + 1) k.at k.to k.sp k.lg k.s k.cs s2 cs2 s3
              (action_word 5 ∷ l.term ∷ r.term ∷ []) r e 0 (and_then (X t) (Y t)) union_piece
              (omega (arith, q.words)) (omega (arith, q.stack)) (omega (arith, q.log)) (omega arith) (omega arith) (omega arith) (sides low t) put.1 put.0
              (λ p u. record { words = λ i. p.words ++ action_word 5 ∷ u.terms i; counters = refl; terms = omega (arith, u.uses) })))
