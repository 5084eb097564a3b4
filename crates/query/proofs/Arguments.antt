-- The row of a call's arguments, as the loop over it walks it: what is so between two turns, and what each turn leaves. Assumes nothing.
use mathlib.Core.Path.{◌≡◌, subst}
use mathlib.Core.List.{List}
use Prim.Native.Nat.{ℕ, ◌+◌, ◌-◌, ◌≤◌, ◌<◌}
use native.Mathlib.Omega.{arith}
use lib.ListN.{length, set}
use Rattle.std.specs.Prelude.{Ok, Err}
use Rattle.rules.specs.Signature.{Sig}
use Rattle.walks.specs.Steps.{reached_at, Counted, ExprsAt}
use Rattle.walks.specs.declared.Walk.{Walk}
use Rattle.walks.specs.declared.Stopped.{Stopped}
use Rattle.walks.proofs.Asks.{counted_kept}
use Rattle.walks.proofs.Read.{exprs_many}
use Rattle.walks.proofs.Rows.{Going, going_start, Left, left_all, left_none, left_stop, left_next, left_going}
use Rattle.walks.proofs.Turns.{Turn, turn}
use Rattle.query.specs.Flattened.{flattened, flattened_all}
use Rattle.query.proofs.Pieces.{flattened_row}
use Rattle.query.proofs.Spots.{Spot, onward, ExprAsked, ExprsAsked, ExprAnswers, ExprsAnswers}

-- a walk on its way, by its places: its term is that of the last argument
abbrev pub here : Walk → Walk
here w = reached_at w.next w.to w.log 0

-- of the n arguments x `left` are left, and walking them makes the whole
abbrev LeftOf : (p : Spot) (d n : ℕ) (sig : Sig) → ExprsAt sig p.ws d n p.at → ℕ → ℕ → List ℕ → List ℕ → Walk → Type 0
LeftOf p d n sig x left top s1 cs1 w =
    Left flattened flattened_all flattened_row sig p.ws d n p.at p.tops.to p.tops.sp p.tops.log p.s p.cs x left top s1 cs1 w

-- between two turns: what the row was given at its start, and how far the walk w is. The stack has come to top, and goes up to the n-th term
pub record Row (p : Spot) (d n top : ℕ) (s1 cs1 : List ℕ) (w : Walk) : Type 0 where
  pub asks : ExprsAsked p d n
  pub going : Going p.at p.tops.to p.tops.sp p.tops.log p.s p.cs top s1 cs1 (here w)
  pub rest : (sig : Sig) (x : ExprsAt sig p.ws d n p.at) → Counted sig p.cs → LeftOf p d n sig x (p.tops.sp + n - top) top s1 cs1 (here w)

-- at the start all are left
pub row_start : {p : Spot} {d n : ℕ} → ExprsAsked p d n → Row p d n p.tops.sp p.s p.cs (reached_at p.at p.tops.to p.tops.log 0)
row_start {p} {d} {n} asks =
    let t = p.tops in
    let all : n ≡ t.sp + n - t.sp = omega arith in
    record {
      asks = asks;
      going = going_start p.at t.to t.sp t.log 0 p.s p.cs;
      rest =
          λ sig x c. subst (λ (j : ℕ). LeftOf p d n sig x j t.sp p.s p.cs (reached_at p.at t.to t.log 0)) all
          (left_all flattened flattened_all flattened_row sig p.ws d n p.at t.to t.sp t.log p.s p.cs x 0);
    }

module _ {p : Spot} {d n top : ℕ} {s1 cs1 : List ℕ} {w : Walk} (row : Row p d n top s1 cs1 w) where
  abbrev left : ℕ
  left = p.tops.sp + n - top

  -- where none are left, the row is walked
  pub row_done : p.tops.sp + n ≤ top → ExprsAnswers p d n s1 cs1 (Ok (here w))
  row_done all sig x c =
      left_none flattened flattened_all flattened_row sig p.ws d n p.at p.tops.to p.tops.sp p.tops.log p.s p.cs x
      left top s1 cs1 (here w) (row.rest sig x c) (omega arith)

  -- while any are left, there is another turn
  module _ (some : top < p.tops.sp + n) where
    pub row_turn : Turn p.ws d p.at left top p.s p.cs s1 cs1 (here w)
    row_turn =
        let q = row.asks.under in
        turn left (row.rest q.sig q.known.0 q.known.1).rest (omega arith) row.going row.asks.room q.known.1 row.going.kept.heads row.going.kept.size

    pub row_asked : ExprAsked (onward p s1 cs1 top w) d
    row_asked = let m = row_turn in record { under = record { sig = m.sig; known = (m.expr, m.counted) }; room = m.room }

    -- an argument that is refused refuses the row
    pub row_stop : {s2 cs2 : List ℕ} {e : Stopped} → ExprAnswers (onward p s1 cs1 top w) d s2 cs2 (Err e) → ExprsAnswers p d n s2 cs2 (Err e)
    row_stop {s2} {cs2} {e} walk sig x c =
        let m = row_turn in
        left_stop flattened flattened_all flattened_row sig p.ws d n p.at p.tops.to p.tops.sp p.tops.log p.s p.cs x
        left top s1 cs1 (here w) (row.rest sig x c) m.some m.room s2 cs2 e (λ f. walk sig f (counted_kept c m.counters))

    -- and behind any other, whose term is pushed, one less is left
    pub row_next : {s2 cs2 : List ℕ} {a : Walk} (s3 : List ℕ) → ExprAnswers (onward p s1 cs1 top w) d s2 cs2 (Ok a) → s3 ≡ set s2 top a.term
        → Row p d n (top + 1) s3 cs2 a
    row_next {s2} {cs2} {a} s3 walk put =
        let q = row.asks.under in
        let m = row_turn in
        let g =
        left_going flattened flattened_all flattened_row q.sig p.ws d n p.at p.tops.to p.tops.sp p.tops.log p.s p.cs q.known.0 left top s1 cs1 (here w)
        (row.rest q.sig q.known.0 q.known.1) m.some m.room s2 cs2 a (λ f. walk q.sig f (counted_kept q.known.1 m.counters)) s3 row.asks.room row.going put in
        record {
          asks = row.asks;
          going = record { done = g.done; next = g.next; words = g.words; words_to = g.words_to; stack = g.stack; stack_to = g.stack_to; kept = g.kept };
          rest = λ sig x c. one_less sig x c;
        }
      where
        less : left - 1 ≡ p.tops.sp + n - (top + 1)
        less = omega arith

        one_less : (sig : Sig) (x : ExprsAt sig p.ws d n p.at) → Counted sig p.cs → LeftOf p d n sig x (p.tops.sp + n - (top + 1)) (top + 1) s3 cs2 (here a)
        one_less sig x c =
            let m = row_turn in
            let l =
            left_next flattened flattened_all flattened_row sig p.ws d n p.at p.tops.to p.tops.sp p.tops.log p.s p.cs x
            left top s1 cs1 (here w) (row.rest sig x c) m.some m.room s2 cs2 a (λ f. walk sig f (counted_kept c m.counters)) s3 put in
            subst (λ (j : ℕ). LeftOf p d n sig x j (top + 1) s3 cs2 (here a)) less (record { rest = l.rest; whole = l.whole })

-- the stack's end behind the row
pub row_fits : {p : Spot} (d n : ℕ) → ExprsAsked p d n → p.tops.sp + n ≤ length p.s
row_fits {p} d n asks =
    let q = asks.under in
    let x = q.known.0 in
    omega (arith, exprs_many q.sig p.ws d n p.at x, x.inside, asks.room.stack, asks.room.log)
