-- A fact on its way through flattening: what its first word tells, and what is known at each step of `flatten_fact`, as records over the spot p where
-- it starts, its first word w, and the words that each step leaves. Assumes nothing.
use mathlib.Core.Path.{◌≡◌, refl, sym, ap, ◌∙◌, subst}
use mathlib.Core.Bool.{Bool, true, false, cond, ◌&&◌}
use mathlib.Core.List.{List, [], ◌∷◌, ◌++◌}
use Prim.Native.Nat.{ℕ, suc, ◌+◌, ◌≤◌, ◌<◌}
use native.Mathlib.Numerals.{add-one}
use native.Mathlib.Omega.{arith}
use lib.Dec.{ltb, eqb}
use lib.ListN.{length, get_or}
use borrow.Author.Tests.{lt-ltb, eqb-true, eq-eqb}
use Rattle.std.specs.Prelude.{Result, Ok, Err}
use Rattle.octets.specs.Regions.{splice}
use Rattle.rules.specs.Words.{max_depth, equality_word, literal_base}
use Rattle.rules.specs.Refusals.{Res, ok, ◌>>=◌}
use Rattle.rules.specs.Signature.{Sig}
use Rattle.rules.specs.Written.{Expr, Fact, holds, equal, Read, read_expr, read_equal, read_holds, read_fact}
use Rattle.meaning.proofs.Results.{bind_ok, ok_inj}
use Rattle.meaning.proofs.Lists.{and_right}
use Rattle.meaning.proofs.Reading.{expr_reads}
use Rattle.walks.specs.Steps.{Piece, reached_at, tops_at, untold, both, and_then, Walked, NoTerms, Counted, ExprAt}
use Rattle.walks.specs.declared.Walk.{Walk}
use Rattle.walks.specs.declared.Stopped.{Stopped}
use Rattle.walks.specs.declared.Tops.{Tops}
use Rattle.walks.proofs.Steps.{went, stop, with_terms, placed, walk_then, Own, written}
use Rattle.walks.proofs.Read.{moved, expr_at}
use Rattle.walks.proofs.Asks.{counted_kept, expr_inside, There, right_there}
use Rattle.query.specs.Flattened.{flattened, flattened_fact, FactAt, AsksFact, FlattensExpr}
use Rattle.query.proofs.Pieces.{silent, equated, flattened_holds, flattened_equal}
use Rattle.query.proofs.Exprs.{leaf_answer}
use Rattle.query.proofs.Spots.{Spot, spot_of, onward, FactAsked, ExprAsked, ExprAnswers, FactWalked, FactAnswers}

-- ---- what the first word of a fact tells

module _ (sig : Sig) (ws : List ℕ) where
  forward : (p : ℕ) (q : Read Fact) → read_fact sig ws p ≡ ok q → p < q.at
  forward p q = go (ltb p (length ws) && eqb (get_or ws p 0) equality_word)
    where
      go : (b : Bool) → cond b (read_equal sig ws p) (read_holds sig ws p) ≡ ok q → p < q.at
      go true e =
          let a = bind_ok (read_expr sig ws max_depth (suc p)) _ q e in
          let b = bind_ok (read_expr sig ws max_depth a.0.at) _ q a.2 in
          let i = (expr_reads sig ws max_depth (suc p) a.0 a.1).on in
          let j = (expr_reads sig ws max_depth a.0.at b.0 b.1).on in
          subst (λ (x : Read Fact). p < x.at) (ok_inj _ _ b.2) (omega arith)
      go false e =
          let a = bind_ok (read_expr sig ws max_depth p) _ q e in
          let i = (expr_reads sig ws max_depth p a.0 a.1).on in
          subst (λ (x : Read Fact). p < x.at) (ok_inj _ _ a.2) i

  pub fact_on : (p : ℕ) (q : Read Fact) → read_fact sig ws p ≡ ok q → p ≤ q.at
  fact_on p q e = omega (arith, forward p q e)

  pub fact_ends : (p : ℕ) (q : Read Fact) → read_fact sig ws p ≡ ok q → q.at ≤ length ws
  fact_ends p q = go (ltb p (length ws) && eqb (get_or ws p 0) equality_word)
    where
      go : (b : Bool) → cond b (read_equal sig ws p) (read_holds sig ws p) ≡ ok q → q.at ≤ length ws
      go true e =
          let a = bind_ok (read_expr sig ws max_depth (suc p)) _ q e in
          let b = bind_ok (read_expr sig ws max_depth a.0.at) _ q a.2 in
          subst (λ (x : Read Fact). x.at ≤ length ws) (ok_inj _ _ b.2) (expr_reads sig ws max_depth a.0.at b.0 b.1).inside
      go false e =
          let a = bind_ok (read_expr sig ws max_depth p) _ q e in
          subst (λ (x : Read Fact). x.at ≤ length ws) (ok_inj _ _ a.2) (expr_reads sig ws max_depth p a.0 a.1).inside

  fact_some : (at : ℕ) (x : FactAt sig ws at) → 0 < x.size
  fact_some at x = omega (arith, forward at _ x.reads)

  pub equal_cases : (P : Fact → ℕ → Type 0) (at w : ℕ) (x : FactAt sig ws at) → w ≡ get_or ws at 0 → w ≡ equality_word
      → ((a : ExprAt sig ws max_depth (at + 1)) (b : ExprAt sig ws max_depth (at + 1 + a.size)) → P (equal at a.value b.value) (1 + (a.size + b.size))) → P x.value x.size
  equal_cases P at w x is eq k = go (ltb at (length ws) && eqb (get_or ws at 0) equality_word) test x.reads
    where
      test : (ltb at (length ws) && eqb (get_or ws at 0) equality_word) ≡ true
      test =
          let i = fact_some at x in
          rw (lt-ltb at (length ws) (omega (arith, x.inside)), eq-eqb (get_or ws at 0) equality_word (sym is ∙ eq))

      go : (b : Bool) → b ≡ true → cond b (read_equal sig ws at) (read_holds sig ws at) ≡ ok (record { value = x.value; at = at + x.size }) → P x.value x.size
      go false t e = absurd (let z : ◌≡◌ {A = ℕ} 0 1 = cc in omega arith)
      go true t e =
          let y = bind_ok (read_expr sig ws max_depth (suc at)) _ _ e in
          let z = bind_ok (read_expr sig ws max_depth y.0.at) _ _ y.2 in
          let fin = ok_inj _ _ z.2 in
          let a = expr_at sig ws max_depth (at + 1) y.0 (ap (read_expr sig ws max_depth) (add-one at) ∙ y.1) in
          let on = (expr_reads sig ws max_depth (suc at) y.0 y.1).on in
          let on2 = (expr_reads sig ws max_depth y.0.at z.0 z.1).on in
          let here : at + 1 + a.size ≡ y.0.at = omega arith in
          let b = expr_at sig ws max_depth (at + 1 + a.size) z.0 (ap (read_expr sig ws max_depth) here ∙ z.1) in
          let ends : z.0.at ≡ at + x.size = ap (λ (r : Read Fact). r.at) fin in
          let size : 1 + (a.size + b.size) ≡ x.size = omega arith in
          subst (P x.value) size (subst (λ (t : Fact). P t (1 + (a.size + b.size))) (ap (λ (r : Read Fact). r.value) fin) (k a b))

  pub holds_cases : (P : Fact → ℕ → Type 0) (at w : ℕ) (x : FactAt sig ws at) → w ≡ get_or ws at 0 → (w ≡ equality_word → ⊥)
      → ((e : ExprAt sig ws max_depth at) → P (holds e.value) e.size) → P x.value x.size
  holds_cases P at w x is ne k = go (ltb at (length ws) && eqb (get_or ws at 0) equality_word) refl x.reads
    where
      go : (b : Bool) → (ltb at (length ws) && eqb (get_or ws at 0) equality_word) ≡ b
          → cond b (read_equal sig ws at) (read_holds sig ws at) ≡ ok (record { value = x.value; at = at + x.size }) → P x.value x.size
      go true t e = absurd (ne (is ∙ eqb-true (get_or ws at 0) equality_word (and_right (ltb at (length ws)) (eqb (get_or ws at 0) equality_word) t)))
      go false t e =
          let y = bind_ok (read_expr sig ws max_depth at) _ _ e in
          let fin = ok_inj _ _ y.2 in
          let a = expr_at sig ws max_depth at y.0 y.1 in
          let on = (expr_reads sig ws max_depth at y.0 y.1).on in
          let ends : y.0.at ≡ at + x.size = ap (λ (r : Read Fact). r.at) fin in
          let size : a.size ≡ x.size = omega arith in
          subst (P x.value) size (subst (λ (t : Fact). P t a.size) (ap (λ (r : Read Fact). r.value) fin) (k a))

-- ---- its first word is read

pub record Begun (p : Spot) (w : ℕ) : Type 0 where
  pub asks : FactAsked p
  pub is : w ≡ get_or p.ws p.at 0
  pub inside : p.at < length p.ws

pub begun : {ws s cs : List ℕ} {at w : ℕ} {t : Tops} → AsksFact ws at t s cs → w ≡ get_or ws at 0 → Begun (spot_of ws s cs at t) w
begun {ws} {at = at} q is =
    let u = q.under in
    let some = fact_some u.sig ws at u.known.0 in
    record { asks = q; is = is; inside = omega (arith, u.known.0.inside) }

-- where the left side of an equality starts
abbrev behind : Spot → Spot
behind p = spot_of p.ws p.s p.cs (p.at + 1) p.tops

-- what flattening the equality of two sides gives
abbrev equality : Expr → Expr → List ℕ → Res Piece
equality a b cs = ◌>>=◌ (and_then (flattened a cs) (flattened b)) (λ q. ok (equated q))

module _ {p : Spot} {w : ℕ} (g : Begun p w) where
  -- it is no equality's: the fact is an expression, whose term goes nowhere
  module _ (ne : w ≡ equality_word → ⊥) where
    -- a law of the fact, from the expression
    by_expr : (P : Fact → ℕ → Type 0) (sig : Sig) (x : FactAt sig p.ws p.at) → ((e : ExprAt sig p.ws max_depth p.at) → P (holds e.value) e.size)
        → P x.value x.size
    by_expr P sig x = holds_cases sig p.ws P p.at w x g.is ne

    pub holds_asked : ExprAsked p max_depth
    holds_asked =
        let q = g.asks.under in
        let e = by_expr (λ f k. ExprAt q.sig p.ws max_depth p.at) q.sig q.known.0 (λ e. e) in
        record { under = record { sig = q.sig; known = (e, q.known.1) }; room = g.asks.room }

    module _ {s1 cs1 : List ℕ} where
      pub holds_refused : {e : Stopped} → ExprAnswers p max_depth s1 cs1 (Err e) → FactAnswers p s1 cs1 (Err e)
      holds_refused {e} walk sig x c =
          by_expr (λ f k. FactWalked p (flattened_fact f p.cs) k s1 cs1 (Err e)) sig x
          (λ a. rw (flattened_holds a.value p.cs) (stop a.size p.at (flattened a.value p.cs) (λ q. ok (silent q)) (walk sig a c) (omega arith)))

      pub holds_answer : {e : Walk} → ExprAnswers p max_depth s1 cs1 (Ok e) → FactAnswers p s1 cs1 (Ok (untold e))
      holds_answer {e} walk sig x c =
          by_expr (λ f k. FactWalked p (flattened_fact f p.cs) k s1 cs1 (Ok (untold e))) sig x (λ a. done a)
        where
          done : (a : ExprAt sig p.ws max_depth p.at) → FactWalked p (flattened_fact (holds a.value) p.cs) a.size s1 cs1 (Ok (untold e))
          done a =
              let v = flattened a.value p.cs in
              let told : Walked 1 (λ _ _. Unit) v a.size p.at p.tops.to p.tops.sp p.tops.log p.s p.cs s1 cs1 (Ok (untold e)) =
              placed p.at (untold e) v (walk sig a c) (went v (walk sig a c)).next refl refl (λ q t. tt) in
              rw (flattened_holds a.value p.cs) (with_terms v silent told (omega arith) (λ q. (refl, refl)) (λ q t. (refl, refl)))

  -- it is an equality's: the left side stands behind it
  module _ (eq : w ≡ equality_word) where
    -- the two sides that a signature reads
    abbrev Left : Sig → Type 0
    Left sig = ExprAt sig p.ws max_depth (p.at + 1)

    abbrev Right : (sig : Sig) → Left sig → Type 0
    Right sig a = ExprAt sig p.ws max_depth (p.at + 1 + a.size)

    -- a law of the fact, from its sides
    by_sides : (P : Fact → ℕ → Type 0) (sig : Sig) (x : FactAt sig p.ws p.at)
        → ((a : Left sig) (b : Right sig a) → P (equal p.at a.value b.value) (1 + (a.size + b.size))) → P x.value x.size
    by_sides P sig x = equal_cases sig p.ws P p.at w x g.is eq

    -- a walk of the sides is one of the fact
    answer : (s' cs' : List ℕ) (r : Result Walk Stopped)
        → ((sig : Sig) (a : Left sig) (b : Right sig a) → Counted sig p.cs
        → FactWalked p (equality a.value b.value p.cs) (1 + (a.size + b.size)) s' cs' r)
        → FactAnswers p s' cs' r
    answer s' cs' r walk sig x c =
        by_sides (λ f k. FactWalked p (flattened_fact f p.cs) k s' cs' r) sig x
        (λ a b. rw (flattened_equal p.at a.value b.value p.cs) (walk sig a b c))

    pub left_asked : ExprAsked (behind p) max_depth
    left_asked =
        let q = g.asks.under in
        let r = g.asks.room in
        let e = by_sides (λ f k. Left q.sig) q.sig q.known.0 (λ a b. a) in
        record {
          under = record { sig = q.sig; known = (e, q.known.1) };
          room = record { words = omega (arith, r.words); stack = omega (arith, r.stack); log = omega (arith, r.log) };
        }

    pub left_refused : {s1 cs1 : List ℕ} {e : Stopped} → ExprAnswers (behind p) max_depth s1 cs1 (Err e) → FactAnswers p s1 cs1 (Err e)
    left_refused {s1} {cs1} {e} walk = answer s1 cs1 (Err e) (λ sig a b c. halt sig a b c)
      where
        halt : (sig : Sig) (a : Left sig) (b : Right sig a) → Counted sig p.cs
            → FactWalked p (equality a.value b.value p.cs) (1 + (a.size + b.size)) s1 cs1 (Err e)
        halt sig a b c =
            let size = 1 + (a.size + b.size) in
            let one : FactWalked p (and_then (flattened a.value p.cs) (flattened b.value)) size s1 cs1 (Err e) =
            stop size p.at (flattened a.value p.cs) (λ q. ◌>>=◌ (flattened b.value q.next) (λ u. ok (both q u))) (walk sig a c) (omega arith) in
            stop size p.at (and_then (flattened a.value p.cs) (flattened b.value)) (λ q. ok (equated q)) one (omega arith)

-- ---- it is a name or a literal alone

pub fact_begins : {p : Spot} → FactAsked p → p.at < length p.ws
fact_begins {p} q = (begun q refl).inside

-- such a fact has no atom
pub leaf_fact : {p : Spot} {w : ℕ} → FactAsked p → w ≡ get_or p.ws p.at 0 → literal_base ≤ w
    → FactAnswers p p.s p.cs (Ok (reached_at (p.at + 1) p.tops.to p.tops.log 0))
leaf_fact {p} {w} q is high =
    let ne : w ≡ equality_word → ⊥ = λ e. omega (arith, e, high) in
    holds_answer (begun q is) ne (leaf_answer p max_depth w is high)

-- ---- the left side of an equality is flattened: l, with s1 and cs1 left behind

pub record Lefted (p : Spot) (w : ℕ) (s1 cs1 : List ℕ) (l : Walk) : Type 0 where
  pub start : Begun p w
  pub eq : w ≡ equality_word
  pub walk : ExprAnswers (behind p) max_depth s1 cs1 (Ok l)
  pub counters : length cs1 ≡ length p.cs
  pub scratch : length s1 ≡ length p.s

pub lefted : {ws s cs s1 cs1 : List ℕ} {at w : ℕ} {t : Tops} {l : Walk} → AsksFact ws at t s cs → w ≡ get_or ws at 0 → w ≡ equality_word
    → FlattensExpr ws max_depth (at + 1) t s cs s1 cs1 (Ok l) → length cs1 ≡ length cs → length s1 ≡ length s → Lefted (spot_of ws s cs at t) w s1 cs1 l
lefted asks is eq walk counters scratch = record { start = begun asks is; eq = eq; walk = walk; counters = counters; scratch = scratch }

module _ {p : Spot} {w : ℕ} {s1 cs1 : List ℕ} {l : Walk} (m : Lefted p w s1 cs1 l) where
  -- the right side stands behind it
  pub right_asked : ExprAsked (onward p s1 cs1 p.tops.sp l) max_depth
  right_asked =
      let q = m.start.asks.under in
      let there =
      by_sides m.start m.eq (λ f k. There q.sig p.ws max_depth p.tops.sp (length s1) l) q.sig q.known.0
      (λ a b. right_there q.sig p.ws max_depth (length s1) a.size m.start.asks.room m.scratch (went (flattened a.value p.cs) (m.walk q.sig a q.known.1)) b) in
      record { under = record { sig = q.sig; known = (there.expr, counted_kept q.known.1 m.counters) }; room = there.room }

  -- it is flattened, with s2 and cs2 left behind
  module _ {s2 cs2 : List ℕ} {r : Result Walk Stopped} (walk : ExprAnswers (onward p s1 cs1 p.tops.sp l) max_depth s2 cs2 r) where
    abbrev Both : Walk → Piece → Type 0
    Both a q = q.terms ≡ l.term ∷ a.term ∷ []

    sides : (sig : Sig) (a : Left m.start m.eq sig) (b : Right m.start m.eq sig a) → Counted sig p.cs
        → Walked 2 Both (and_then (flattened a.value p.cs) (flattened b.value)) (a.size + b.size) (p.at + 1) p.tops.to p.tops.sp p.tops.log p.s p.cs s2 cs2 r
    sides sig a b c =
        let g1 = went (flattened a.value p.cs) (m.walk sig a c) in
        let b2 = moved (read_expr sig p.ws max_depth) p.ws (p.at + 1 + a.size) l.next (sym g1.next) b in
        let i = b.inside in
        walk_then a.size b.size (p.at + 1) p.tops.to p.tops.sp p.tops.sp p.tops.log p.s p.cs s1 cs1 s2 cs2 l
        (omega (arith, m.start.asks.room.stack)) (omega arith) (omega arith) 2 Both
        (flattened a.value p.cs) (flattened b.value) (omega arith) (m.walk sig a c) (walk sig b2 (counted_kept c m.counters))
        (λ d q u t v. λ i. t.term i ++ v.term i)

  pub right_refused : {s2 cs2 : List ℕ} {e : Stopped} → ExprAnswers (onward p s1 cs1 p.tops.sp l) max_depth s2 cs2 (Err e) → FactAnswers p s2 cs2 (Err e)
  right_refused {s2} {cs2} {e} walk =
      answer m.start m.eq s2 cs2 (Err e)
      (λ sig a b c. stop (1 + (a.size + b.size)) p.at (and_then (flattened a.value p.cs) (flattened b.value)) (λ q. ok (equated q))
      (sides walk sig a b c) (omega arith))

-- ---- both are: r, with s2 and cs2 left behind

pub record Righted (p : Spot) (w : ℕ) (s1 cs1 : List ℕ) (l : Walk) (s2 cs2 : List ℕ) (r : Walk) : Type 0 where
  pub left : Lefted p w s1 cs1 l
  pub walk : ExprAnswers (onward p s1 cs1 p.tops.sp l) max_depth s2 cs2 (Ok r)
  pub scratch : length s2 ≡ length p.s

pub righted : {p : Spot} {w : ℕ} {s1 cs1 s2 cs2 : List ℕ} {l r : Walk} → Lefted p w s1 cs1 l
    → FlattensExpr p.ws max_depth l.next (tops_at l p.tops.sp) s1 cs1 s2 cs2 (Ok r)
    → length s2 ≡ length p.s → Righted p w s1 cs1 l s2 cs2 r
righted left walk scratch = record { left = left; walk = walk; scratch = scratch }

module _ {p : Spot} {w : ℕ} {s1 cs1 : List ℕ} {l : Walk} {s2 cs2 : List ℕ} {r : Walk} (o : Righted p w s1 cs1 l s2 cs2 r) where
  -- the equality has room
  pub three_room : r.to + 3 ≤ length s2
  three_room = by_sides o.left.start o.left.eq (λ f k. r.to + 3 ≤ length s2) o.left.start.asks.under.sig o.left.start.asks.under.known.0 (λ a b. fits a b)
    where
      fits : (a : Left o.left.start o.left.eq o.left.start.asks.under.sig) (b : Right o.left.start o.left.eq o.left.start.asks.under.sig a)
          → r.to + 3 ≤ length s2
      fits a b =
          let u =
          went (and_then (flattened a.value p.cs) (flattened b.value))
          (sides o.left o.walk o.left.start.asks.under.sig a b o.left.start.asks.under.known.1) in
          let i = b.inside in
          omega (arith, u.up_to, o.left.start.asks.room, o.scratch)

  -- and it is written, up to e, which leaves s3
  pub equal_answer : (s3 : List ℕ) (e : ℕ) → e ≡ r.to + 3 → s3 ≡ splice s2 r.to (equality_word ∷ l.term ∷ r.term ∷ [])
      → FactAnswers p s3 cs2 (Ok (reached_at r.next e r.log 0))
  equal_answer s3 e there put = answer o.left.start o.left.eq s3 cs2 (Ok (reached_at r.next e r.log 0)) (λ sig a b c. done sig a b c)
    where
      ys : List ℕ
      ys = equality_word ∷ l.term ∷ r.term ∷ []

      own : (q : Piece) → Both o.left o.walk r q → Own (NoTerms (reached_at r.next e r.log 0)) q ys q.next (equated q)
      own q t = record { words = λ i. q.words ++ equality_word ∷ t i; counters = refl; terms = (refl, refl) }

      done : (sig : Sig) (a : Left o.left.start o.left.eq sig) (b : Right o.left.start o.left.eq sig a) → Counted sig p.cs
          → FactWalked p (equality a.value b.value p.cs) (1 + (a.size + b.size)) s3 cs2 (Ok (reached_at r.next e r.log 0))
      done sig a b c =
          let i = b.inside in
          let room = o.left.start.asks.room in
          written 0 NoTerms (a.size + b.size) (1 + (a.size + b.size)) (p.at + 1) p.at p.tops.to p.tops.sp p.tops.log p.s p.cs s2 cs2 s3 ys r e 0
          (and_then (flattened a.value p.cs) (flattened b.value)) equated
          (omega (arith, room.words)) (omega (arith, room.stack)) (omega (arith, room.log)) (omega arith) (omega arith) (omega arith)
          (sides o.left o.walk sig a b c) put (omega arith) own

-- an equality has a left side
pub left_inside : {ws s cs : List ℕ} {at : ℕ} {t : Tops} → AsksFact ws at t s cs → get_or ws at 0 ≡ equality_word → at + 1 < length ws
left_inside asks eq = let q = (left_asked (begun asks refl) eq).under in expr_inside q.sig _ max_depth _ q.known.0

-- ---- both sides are names or literals

module _ {ws s cs : List ℕ} {at a : ℕ} {t : Tops} (asks : AsksFact ws at t s cs) (eq : get_or ws at 0 ≡ equality_word)
    (is : a ≡ get_or ws (at + 1) 0) (high : literal_base ≤ a) where
  -- the left one is its own term
  leaf_left : Lefted (spot_of ws s cs at t) (get_or ws at 0) s cs (reached_at (at + 1 + 1) t.to t.log a)
  leaf_left = lefted asks refl eq (leaf_answer (behind (spot_of ws s cs at t)) max_depth a is high) refl refl

  pub leaf_behind : at + 1 + 1 < length ws
  leaf_behind = let q = (right_asked leaf_left).under in expr_inside q.sig _ max_depth _ q.known.0

  -- and so is the right one
  pub leaves_met : {b : ℕ} → b ≡ get_or ws (at + 1 + 1) 0 → literal_base ≤ b
      → Righted (spot_of ws s cs at t) (get_or ws at 0) s cs (reached_at (at + 1 + 1) t.to t.log a) s cs (reached_at (at + 1 + 1 + 1) t.to t.log b)
  leaves_met {b} is' high' =
      righted leaf_left
      (leaf_answer (onward (spot_of ws s cs at t) s cs t.sp (reached_at (at + 1 + 1) t.to t.log a)) max_depth b is' high') refl
