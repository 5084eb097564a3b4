-- The facts of a body, as the loop over them walks them: what is so between two turns, and what each turn leaves. Assumes nothing.
use mathlib.Core.Path.{◌≡◌, refl, sym, subst}
use mathlib.Core.List.{List, ◌∷◌, ◌++◌}
use Prim.Native.Nat.{ℕ, ◌+◌, ◌-◌, ◌≤◌, ◌<◌}
use native.Mathlib.Omega.{arith}
use lib.ListN.{length, get_or}
use Rattle.std.specs.Prelude.{Result, Ok, Err}
use Rattle.rules.specs.Words.{literal_base}
use Rattle.rules.specs.Refusals.{ok, ◌>>=◌}
use Rattle.rules.specs.Signature.{Sig}
use Rattle.rules.specs.Written.{Fact, read_fact, read_row}
use Rattle.walks.specs.Steps.{reached_at, both, NoTerms, Room, Counted}
use Rattle.walks.specs.declared.Walk.{Walk}
use Rattle.walks.specs.declared.Stopped.{Stopped}
use Rattle.walks.proofs.Steps.{went, stop, none_walked, none_told, walk_then}
use Rattle.walks.proofs.Read.{moved, row_cases, no_row_cases}
use Rattle.walks.proofs.Rows.{Going, going_start, going_room, going_next}
use Rattle.walks.proofs.Asks.{counted_kept}
use Rattle.query.specs.Flattened.{flattened_fact, query, FactAt, FactsAt}
use Rattle.query.proofs.Pieces.{query_none, query_more}
use Rattle.query.proofs.Facts.{Begun, begun, fact_on, fact_begins, leaf_fact}
use Rattle.query.proofs.Spots.{Spot, onward, FactAsked, FactsAsked, FactWalked, FactAnswers, FactsAnswers}

-- the walk of `size` words as the facts fs from the spot p on
abbrev WalkedFrom : Spot → List Fact → ℕ → List ℕ → List ℕ → Result Walk Stopped → Type 0
WalkedFrom p fs size s' cs' r = FactWalked p (query fs p.cs) size s' cs' r

-- of the n facts x `left` are left where the walk w has come to, and walking them makes the whole
pub record Left (p : Spot) (n : ℕ) (sig : Sig) (x : FactsAt sig p.ws n p.at) (left : ℕ) (s1 cs1 : List ℕ) (w : Walk) : Type 0 where
  pub rest : FactsAt sig p.ws left w.next
  pub whole : (s' cs' : List ℕ) (r : Result Walk Stopped) → WalkedFrom (onward p s1 cs1 p.tops.sp w) rest.value rest.size s' cs' r
      → WalkedFrom p x.value x.size s' cs' r

-- a law of some facts, from one of the first and the others
module _ (sig : Sig) (ws : List ℕ) where
  by_first_lem : (P : List Fact → ℕ → Type 0) (n at : ℕ) (x : FactsAt sig ws n at) → 0 < n
      → ((f : FactAt sig ws at) (fs : FactsAt sig ws (n - 1) (at + f.size)) → P (f.value ∷ fs.value) (f.size + fs.size)) → P x.value x.size
  by_first_lem = row_cases (read_fact sig ws) ws (fact_on sig ws)

-- between two turns, `done` of n behind it: what the walk was given at its start, and how far it is
pub record Row (p : Spot) (n done : ℕ) (s1 cs1 : List ℕ) (w : Walk) : Type 0 where
  pub asks : FactsAsked p n
  pub going : Going p.at p.tops.to p.tops.sp p.tops.log p.s p.cs p.tops.sp s1 cs1 w
  pub silent : w.term ≡ 0
  pub rest : (sig : Sig) (x : FactsAt sig p.ws n p.at) → Counted sig p.cs → Left p n sig x (n - done) s1 cs1 w

-- at the start all are left
pub row_start : {p : Spot} {n : ℕ} → FactsAsked p n → Row p n 0 p.s p.cs (reached_at p.at p.tops.to p.tops.log 0)
row_start {p} {n} asks =
    let all : n ≡ n - 0 = omega arith in
    record {
      asks = asks;
      going = going_start p.at p.tops.to p.tops.sp p.tops.log 0 p.s p.cs;
      silent = refl;
      rest =
          λ sig x c. subst (λ (j : ℕ). Left p n sig x j p.s p.cs (reached_at p.at p.tops.to p.tops.log 0)) all
          (record { rest = x; whole = λ s' cs' r z. z });
    }

module _ {p : Spot} {n done : ℕ} {s1 cs1 : List ℕ} {w : Walk} (row : Row p n done s1 cs1 w) where
  abbrev left : ℕ
  left = n - done

  -- where none are left, all are walked
  pub row_done : n ≤ done → FactsAnswers p n s1 cs1 (Ok w)
  row_done all sig x c =
      let l = row.rest sig x c in
      l.whole s1 cs1 (Ok w)
      (no_row_cases (read_fact sig p.ws) p.ws (fact_on sig p.ws) (λ fs k. WalkedFrom (onward p s1 cs1 p.tops.sp w) fs k s1 cs1 (Ok w))
      left w.next l.rest (omega arith)
      (rw (query_none cs1) (none_walked p.tops.sp s1 cs1 w (refl, row.silent))))

  next_room : let q = onward p s1 cs1 p.tops.sp w in Room (length p.ws) q.at q.tops (length s1)
  next_room = going_room (length p.ws) (length s1) row.asks.room row.going.kept.size row.going

  -- while any are left, the first of them stands where the walk has come to
  module _ (some : done < n) where
    pub row_asked : FactAsked (onward p s1 cs1 p.tops.sp w)
    row_asked =
        let q = row.asks.under in
        let f = by_first_lem q.sig p.ws (λ fs k. FactAt q.sig p.ws w.next) left w.next
        (row.rest q.sig q.known.0 q.known.1).rest (omega arith) (λ f fs. f) in
        record { under = record { sig = q.sig; known = (f, counted_kept q.known.1 row.going.kept.heads) }; room = next_room }

    pub row_inside : w.next < length p.ws
    row_inside = fact_begins row_asked

    pub row_begun : {u : ℕ} → u ≡ get_or p.ws w.next 0 → Begun (onward p s1 cs1 p.tops.sp w) u
    row_begun is = begun row_asked is

    -- a fact that is refused refuses the whole
    pub row_stop : {s2 cs2 : List ℕ} {e : Stopped} → FactAnswers (onward p s1 cs1 p.tops.sp w) s2 cs2 (Err e) → FactsAnswers p n s2 cs2 (Err e)
    row_stop {s2} {cs2} {e} walk sig x c =
        let l = row.rest sig x c in
        let c1 = counted_kept c row.going.kept.heads in
        l.whole s2 cs2 (Err e)
        (by_first_lem sig p.ws (λ fs k. WalkedFrom (onward p s1 cs1 p.tops.sp w) fs k s2 cs2 (Err e)) left w.next l.rest (omega arith)
        (λ f fs. rw (query_more f.value fs.value cs1)
        (stop (f.size + fs.size) w.next (flattened_fact f.value cs1) (λ q. ◌>>=◌ (query fs.value q.next) (λ u. ok (both q u)))
        (walk sig f c1) (omega arith))))

    -- and behind any other, one less is left
    pub row_next : {s2 cs2 : List ℕ} {a : Walk} → FactAnswers (onward p s1 cs1 p.tops.sp w) s2 cs2 (Ok a) → Row p n (done + 1) s2 cs2 a
    row_next {s2} {cs2} {a} walk =
        record {
          asks = row.asks;
          going = further;
          silent = quiet;
          rest = λ sig x c. subst (λ (j : ℕ). Left p n sig x j s2 cs2 a) less (one_less sig x c);
        }
      where
        less : left - 1 ≡ n - (done + 1)
        less = omega arith

        quiet : a.term ≡ 0
        quiet = let q = row_asked.under in none_told (flattened_fact q.known.0.value cs1) (walk q.sig q.known.0 q.known.1) (λ p t. t.1)

        further : Going p.at p.tops.to p.tops.sp p.tops.log p.s p.cs p.tops.sp s2 cs2 a
        further =
            let q = row_asked.under in
            let f = q.known.0 in
            let z = walk q.sig f q.known.1 in
            let same : p.tops.sp + 0 ≡ p.tops.sp = omega arith in
            subst (λ (t : ℕ). Going p.at p.tops.to p.tops.sp p.tops.log p.s p.cs t s2 cs2 a) same
            (going_next (length p.ws) f.size 0 row.asks.room row.going f.inside (went (flattened_fact f.value cs1) z) z.kept (omega arith))

        one_less : (sig : Sig) (x : FactsAt sig p.ws n p.at) → Counted sig p.cs → Left p n sig x (left - 1) s2 cs2 a
        one_less sig x c =
            let l = row.rest sig x c in
            by_first_lem sig p.ws
            (λ fs k. ((s' cs' : List ℕ) (r : Result Walk Stopped) → WalkedFrom (onward p s1 cs1 p.tops.sp w) fs k s' cs' r
            → WalkedFrom p x.value x.size s' cs' r)
            → Left p n sig x (left - 1) s2 cs2 a) left w.next l.rest (omega arith) (λ f fs wh. from_here f fs wh) l.whole
          where
            from_here : (f : FactAt sig p.ws w.next) (fs : FactsAt sig p.ws (left - 1) (w.next + f.size))
                → ((s' cs' : List ℕ) (r : Result Walk Stopped) → WalkedFrom (onward p s1 cs1 p.tops.sp w) (f.value ∷ fs.value) (f.size + fs.size) s' cs' r
                → WalkedFrom p x.value x.size s' cs' r) → Left p n sig x (left - 1) s2 cs2 a
            from_here f fs wh =
                let z = walk sig f (counted_kept c row.going.kept.heads) in
                let g = went (flattened_fact f.value cs1) z in
                let i = fs.inside in
                let stack : p.tops.sp + (f.size + fs.size) ≤ w.log = omega (arith, next_room.stack) in
                record {
                  rest = moved (read_row (read_fact sig p.ws) (left - 1)) p.ws (w.next + f.size) a.next (sym g.next) fs;
                  whole =
                      λ s' cs' r more. wh s' cs' r
                      (rw (query_more f.value fs.value cs1)
                      (walk_then f.size fs.size w.next w.to p.tops.sp p.tops.sp w.log s1 cs1 s2 cs2 s' cs' a stack (omega arith) (omega arith) 0 NoTerms
                      (flattened_fact f.value cs1) (query fs.value) (omega arith) z more (λ b q u t v. (λ i. t.0 i ++ v.0 i, v.1))));
                }

    -- a name or a literal alone leaves one less, and nothing is written
    pub row_leaf : {u : ℕ} → u ≡ get_or p.ws w.next 0 → literal_base ≤ u → Row p n (done + 1) s1 cs1 (reached_at (w.next + 1) w.to w.log w.term)
    row_leaf is high =
        subst (λ (t : ℕ). Row p n (done + 1) s1 cs1 (reached_at (w.next + 1) w.to w.log t)) (sym row.silent) (row_next (leaf_fact row_asked is high))
