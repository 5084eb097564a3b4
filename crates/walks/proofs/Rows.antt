-- A walk on its way through a row, and the loop over the arguments of a call. What is left of the row is walked from where the walk stands, and
-- whatever that leaves is what walking the whole row leaves: so each turn is one law, and no law needs a row's front. Assumes nothing.
use mathlib.Core.Path.{◌≡◌, refl, sym}
use mathlib.Core.List.{List}
use Prim.Native.Nat.{ℕ, ◌+◌, ◌-◌, ◌*◌, ◌≤◌, ◌<◌}
use native.Mathlib.Omega.{arith}
use lib.ListN.{length, set}
use Rattle.std.specs.Prelude.{Result, Ok, Err}
use Rattle.rules.specs.Refusals.{Res, ok, ◌>>=◌}
use Rattle.rules.specs.Signature.{Sig}
use Rattle.rules.specs.Written.{Expr, Exprs, end, ◌then◌, read_expr, read_many}
use Rattle.walks.specs.Steps.{Piece, nothing, both, and_then, reached_at, tops, tops_at, Kept, Walked, InAnswer, OnStack, Room, ExprAt, ExprsAt}
use Rattle.walks.specs.declared.Walk.{Walk}
use Rattle.walks.specs.declared.Stopped.{Stopped}
use Rattle.walks.proofs.Frames.{kept_none, kept_wide, kept_then}
use Rattle.walks.proofs.Steps.{Went, went, stop, none_walked, walk_then, pushed, stacked}
use Rattle.walks.proofs.Read.{moved, expr_some, exprs_many, first_cases, none_cases}

-- ---- on the way

-- `done` words were read since the start, at most four words were written and one was pushed for each, and `top` is the stack's end
pub record Going (at to sp lg : ℕ) (s cs : List ℕ) (top : ℕ) (s1 cs1 : List ℕ) (w : Walk) : Type 0 where
  pub done : ℕ
  pub next : w.next ≡ at + done
  pub words : to ≤ w.to
  pub words_to : w.to ≤ to + 4 * done
  pub stack : sp ≤ top
  pub stack_to : top ≤ sp + done
  pub kept : Kept to (to + 4 * done) sp (sp + done) lg (lg + done) s cs s1 cs1 w.log

pub going_start : (at to sp lg t : ℕ) (s cs : List ℕ) → Going at to sp lg s cs sp s cs (reached_at at to lg t)
going_start at to sp lg t s cs =
    record {
      done = 0;
      next = omega arith;
      words = omega arith;
      words_to = omega arith;
      stack = omega arith;
      stack_to = omega arith;
      kept = kept_none to (to + 4 * 0) sp (sp + 0) lg (lg + 0) s cs (omega arith);
    }

pub going_room : {at to sp lg top : ℕ} {s cs s1 cs1 : List ℕ} {w : Walk} (n len : ℕ) → Room n at (tops to sp lg) (length s) → len ≡ length s
    → Going at to sp lg s cs top s1 cs1 w
    → Room n w.next (tops_at w top) len
going_room n len r e g =
    let a = g.next in
    let b = g.words_to in
    let c = g.stack in
    let d = g.stack_to in
    let f = g.kept.up_to in
    let h = g.kept.in_log in
    record { words = omega (arith, r.words); stack = omega (arith, r.stack); log = omega (arith, r.log) }

-- k words more are read, and t of them pushed
pub going_next : {at to sp lg top m : ℕ} {s cs s1 cs1 s2 cs2 : List ℕ} {w a : Walk} (n k t : ℕ) → Room n at (tops to sp lg) (length s)
    → Going at to sp lg s cs top s1 cs1 w → w.next + k ≤ n
    → Went m k w.next w.to w.log a → Kept w.to (w.to + 4 * k) top (top + k) w.log (w.log + k) s1 cs1 s2 cs2 a.log → t ≤ k
    → Going at to sp lg s cs (top + t) s2 cs2 a
going_next {at} {to} {sp} {lg} {top} {m} {s} {cs} {s1} {cs1} {s2} {cs2} {w} {a} n k t r g i h kp le =
    let e = g.next in
    let b = g.words_to in
    let b0 = g.words in
    let c = g.stack in
    let d = g.stack_to in
    let f = g.kept.in_log in
    let K : ℕ = g.done + k in
    let rs : sp + K ≤ lg = omega (arith, r.stack) in
    record {
      done = g.done + k;
      next = omega (arith, h.next);
      words = omega (arith, h.from);
      words_to = omega (arith, h.up_to);
      stack = omega arith;
      stack_to = omega arith;
      kept =
          kept_then rs
          (kept_wide to (to + 4 * K) sp (sp + K) (lg + K) g.kept (omega arith) (omega arith) (omega arith) (omega arith) (omega arith))
          (kept_wide to (to + 4 * K) sp (sp + K) (lg + K) kp (omega arith) (omega arith) (omega arith) (omega arith) (omega arith));
    }

-- ---- arguments

-- pieces of one expression and of a row of them, as both definitions of 01 make them
pub record Rowed (one : Expr → List ℕ → Res Piece) (all : Exprs → List ℕ → Res Piece) : Type 0 where
  pub none : (cs : List ℕ) → all end cs ≡ ok (nothing cs)
  pub more : (e : Expr) (es : Exprs) (cs : List ℕ) → all (e then es) cs ≡ and_then (one e cs) (all es)

module _ (one : Expr → List ℕ → Res Piece) (all : Exprs → List ℕ → Res Piece) (rowed : Rowed one all) (sig : Sig) (ws : List ℕ) (d n at to sp lg : ℕ) (s cs : List ℕ) where
  -- of the row x there are `left` expressions left, and walking them makes the whole
  pub record Left (x : ExprsAt sig ws d n at) (left top : ℕ) (s1 cs1 : List ℕ) (w : Walk) : Type 0 where
    pub rest : ExprsAt sig ws d left w.next
    pub whole : (s' cs' : List ℕ) (r : Result Walk Stopped)
        → Walked left (OnStack top left w.log s') (all rest.value cs1) rest.size w.next w.to top w.log s1 cs1 s' cs' r
        → Walked n (OnStack sp n lg s') (all x.value cs) x.size at to sp lg s cs s' cs' r

  pub left_all : (x : ExprsAt sig ws d n at) (t : ℕ) → Left x n sp s cs (reached_at at to lg t)
  left_all x t = record { rest = x; whole = λ s' cs' r z. z }

  -- where none are left, the walk is done
  pub left_none : (x : ExprsAt sig ws d n at) (left top : ℕ) (s1 cs1 : List ℕ) (w : Walk) → Left x left top s1 cs1 w → left ≡ 0
      → Walked n (OnStack sp n lg s1) (all x.value cs) x.size at to sp lg s cs s1 cs1 (Ok w)
  left_none x left top s1 cs1 w l z =
      l.whole s1 cs1 (Ok w)
      (none_cases sig ws (λ es k. Walked left (OnStack top left w.log s1) (all es cs1) k w.next w.to top w.log s1 cs1 s1 cs1 (Ok w)) d left w.next l.rest z
      (rw (rowed.none cs1, z) (none_walked top s1 cs1 w (record { size = refl; terms = refl; uses = omega arith }))))

  -- one more: its term is pushed
  module _ (x : ExprsAt sig ws d n at) (left top : ℕ) (s1 cs1 : List ℕ) (w : Walk) (l : Left x left top s1 cs1 w) (some : 0 < left)
      (room : Room (length ws) w.next (tops_at w top) (length s1)) (s2 cs2 : List ℕ) where
    abbrev First : Result Walk Stopped → Type 0
    First r = (e : ExprAt sig ws d w.next) → Walked 1 (InAnswer w.log) (one e.value cs1) e.size w.next w.to top w.log s1 cs1 s2 cs2 r

    pub left_stop : (e : Stopped) → First (Err e) → Walked n (OnStack sp n lg s2) (all x.value cs) x.size at to sp lg s cs s2 cs2 (Err e)
    left_stop e walk =
        l.whole s2 cs2 (Err e)
        (first_cases sig ws
        (λ es k. Walked left (OnStack top left w.log s2) (all es cs1) k w.next w.to top w.log s1 cs1 s2 cs2 (Err e)) d left w.next l.rest some
        (λ f fs. rw (rowed.more f.value fs.value cs1)
        (stop (f.size + fs.size) w.next (one f.value cs1) (λ p. ◌>>=◌ (all fs.value p.next) (λ q. ok (both p q))) (walk f) (omega arith))))

    pub left_next : (a : Walk) → First (Ok a) → (s3 : List ℕ) → s3 ≡ set s2 top a.term → Left x (left - 1) (top + 1) s3 cs2 a
    left_next a walk s3 put =
        first_cases sig ws
        (λ es k. ((s' cs' : List ℕ) (r : Result Walk Stopped) → Walked left (OnStack top left w.log s') (all es cs1) k w.next w.to top w.log s1 cs1 s' cs' r
        → Walked n (OnStack sp n lg s') (all x.value cs) x.size at to sp lg s cs s' cs' r) → Left x (left - 1) (top + 1) s3 cs2 a)
        d left w.next l.rest some (λ f fs wh. next f fs wh) l.whole
      where
        next : (f : ExprAt sig ws d w.next) (fs : ExprsAt sig ws d (left - 1) (w.next + f.size))
            → ((s' cs' : List ℕ) (r : Result Walk Stopped)
            → Walked left (OnStack top left w.log s') (all (f.value then fs.value) cs1) (f.size + fs.size) w.next w.to top w.log s1 cs1 s' cs' r
            → Walked n (OnStack sp n lg s') (all x.value cs) x.size at to sp lg s cs s' cs' r) → Left x (left - 1) (top + 1) s3 cs2 a
        next f fs wh =
            let g = went (one f.value cs1) (walk f) in
            let pos = expr_some sig ws d w.next f in
            let most = exprs_many sig ws d (left - 1) (w.next + f.size) fs in
            let i = fs.inside in
            let r1 : w.to + 4 * (f.size + fs.size) ≤ top = omega (arith, room.words) in
            let r2 : top + (f.size + fs.size) ≤ w.log = omega (arith, room.stack) in
            let r3 : w.log + (f.size + fs.size) ≤ length s1 = omega (arith, room.log) in
            let first = pushed (one f.value cs1) (walk f) put pos (omega arith) (omega arith) (omega arith) in
            record {
              rest = moved (read_many (read_expr sig ws d) (left - 1)) ws (w.next + f.size) a.next (sym g.next) fs;
              whole =
                  λ s' cs' r z. wh s' cs' r
                  (rw (rowed.more f.value fs.value cs1)
                  (walk_then f.size fs.size w.next w.to top (top + 1) w.log s1 cs1 s3 cs2 s' cs' a r2 (omega arith) (omega arith)
                  left (OnStack top left w.log s')
                  (one f.value cs1) (all fs.value) (omega arith) first z
                  (λ b p q u v. stacked b p q left (omega arith) (omega (arith, g.up_to)) refl z.kept u v)));
            }

    pub left_going : (a : Walk) → First (Ok a) → (s3 : List ℕ) → Room (length ws) at (tops to sp lg) (length s) → Going at to sp lg s cs top s1 cs1 w
        → s3 ≡ set s2 top a.term
        → Going at to sp lg s cs (top + 1) s3 cs2 a
    left_going a walk s3 start g put =
        first_cases sig ws (λ es k. Going at to sp lg s cs (top + 1) s3 cs2 a) d left w.next l.rest some (λ f fs. next f)
      where
        next : ExprAt sig ws d w.next → Going at to sp lg s cs (top + 1) s3 cs2 a
        next f =
            let pos = expr_some sig ws d w.next f in
            let i = f.inside in
            let first = pushed (one f.value cs1) (walk f) put pos (omega (arith, room.words)) (omega (arith, room.stack)) (omega (arith, room.log)) in
            going_next (length ws) f.size 1 start g i (went (one f.value cs1) first) first.kept pos
