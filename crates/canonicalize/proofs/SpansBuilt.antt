-- A table of spans is built: as one bucket whose span is the whole body, or as many buckets that widen word by word. Assumes nothing.
use mathlib.Core.Bool.{Bool, false, true}
use mathlib.Core.List.{List, [], ◌∷◌}
use mathlib.Core.Path.{◌∙◌, ◌≡◌, ap, refl, subst, sym}
use Prim.Native.Nat.{ℕ, ◌*◌, ◌+◌, ◌^◌, ◌<◌, ◌≤◌, min}
use native.Mathlib.Nat.{min-le_left, min-le_right}
use native.Mathlib.Omega.{arith}
use lib.Dec.{ltb}
use lib.ListN.{get_or, get_or-replicate, length, length-replicate, replicate, set}
use borrow.Author.Tests.{ltb-false, ltb-true}
use Rattle.octets.proofs.Places.{get_or_only_before, only_splice, only_then, only_wide}
use Rattle.octets.proofs.Splice.{get_or_splice_inside, length_part}
use Rattle.octets.specs.Regions.{Only, part, splice}
use Rattle.bodies.specs.Buckets.{bucket_of}
use Rattle.bodies.proofs.BucketLaws.{bucket_in_lem}
use Rattle.canonicalize.specs.Spans.{Built, InSpan, SpanAsks, Spanned, WidenAsks, widened}
use Rattle.canonicalize.proofs.SpanLaws.{OneSpan, high_here, in_span, low_here, only_spliced, wide, wide_end, wide_high, wide_low, wide_only}

-- ---- a table that is built is all that changed

pub built_only : {l m : List ℕ} {at n table count : ℕ} → Built l m at n table count → table + 2 * count ≤ length l → Only l m table (table + 2 * count)
built_only {l} {m} {at} {n} {table} {count} b h =
    subst (λ (x : List ℕ). Only l x table (table + 2 * count)) (sym b.words) (only_splice l table b.spans (table + 2 * count) (omega (arith, b.size)) h)

-- ---- one bucket

pub whole_built : {l m : List ℕ} {at n table : ℕ} → SpanAsks l at n table → m ≡ splice l table (at ∷ (at + n) ∷ []) → Built l m at n table 1
whole_built {l} {m} {at} {n} {table} c e =
    record {
      spans = at ∷ (at + n) ∷ [];
      words = e;
      size = refl;
      few = c.some;
      spanned = subst (λ (x : List ℕ). Spanned x at n table 1) (sym e)
          (record {
            some = omega arith;
            few = omega arith;
            beyond = c.beyond;
            room = omega (arith, c.room, c.some, o.size);
            covers = λ i x y. inside i x y;
            ends = λ b x. end b x;
          });
    }
  where
    k : List ℕ
    k = splice l table (at ∷ (at + n) ∷ [])

    o : Only l k table (table + 2)
    o = only_splice l table (at ∷ (at + n) ∷ []) (table + 2) refl (omega (arith, c.room, c.some))

    low : get_or k (table + 0) 0 ≡ at
    low = get_or_splice_inside l table (at ∷ (at + n) ∷ []) 0 (omega (arith, c.room)) (omega arith)

    high : get_or k (table + 1) 0 ≡ at + n
    high = get_or_splice_inside l table (at ∷ (at + n) ∷ []) 1 (omega (arith, c.room)) (omega arith)

    inside : (i : ℕ) → at ≤ i → i < at + n → InSpan k table 1 i
    inside i x y =
        let b : bucket_of 1 (get_or k i 0) ≡ 0 = omega (arith, bucket_in_lem 1 (get_or k i 0) (omega arith)) in
        let e₁ : table + bucket_of 1 (get_or k i 0) ≡ table + 0 = omega arith in
        let e₂ : table + 1 + bucket_of 1 (get_or k i 0) ≡ table + 1 = omega arith in
        in_span (get_or k i 0) refl
        (subst (λ (j : ℕ). get_or k j 0 ≤ i) (sym e₁) (omega (arith, low))) (subst (λ (j : ℕ). i < get_or k j 0) (sym e₂) (omega (arith, high)))

    end : (b : ℕ) → b < 1 → get_or k (table + 1 + b) 0 ≤ at + n
    end b x =
        let e₂ : table + 1 + b ≡ table + 1 = omega arith in
        subst (λ (j : ℕ). get_or k j 0 ≤ at + n) (sym e₂) (omega (arith, high))

-- ---- the span of one word is widened

-- the word at p falls into bucket b
pub record Fallen (l : List ℕ) (p table count b : ℕ) : Type 0 where
  pub is : b ≡ bucket_of count (get_or l p 0)
  pub span : OneSpan l table count b
  pub fits : length l < 2 ^ 64

pub fallen : {l : List ℕ} {p table count w b : ℕ} → WidenAsks l p table count → length l < 2 ^ 64
    → w ≡ get_or l p 0 → (b ≡ bucket_of count w) × (b < count) → Fallen l p table count b
fallen {count = count} c fits ew eb = record { is = eb.0 ∙ ap (bucket_of count) ew; span = record { inside = eb.1; room = c.room }; fits = fits }

pub widen_is : {l m₁ m₂ : List ℕ} {p table count b first v : ℕ} → Fallen l p table count b → first ≡ get_or l (table + b) 0 → v ≡ min first p
    → m₁ ≡ set l (table + b) v → m₂ ≡ set m₁ (table + b + count) (p + 1) → m₂ ≡ widened l p table count
unfolding widened
widen_is {l} {m₁} {m₂} {p} {table} {count} {b} {first} {v} f ef ev e₁ e₂ =
    let is : v ≡ min (get_or l (table + b) 0) p = ev ∙ ap (λ (w : ℕ). min w p) ef in
    e₂ ∙ ap (λ (z : List ℕ). set z (table + b + count) (p + 1)) (e₁ ∙ ap (set l (table + b)) is)
    ∙ ap (λ (k : ℕ). set (set l (table + k) (min (get_or l (table + k) 0) p)) (table + k + count) (p + 1)) f.is

-- ---- many buckets: the words before p are met

pub record Narrowing (l m : List ℕ) (at n table p : ℕ) : Type 0 where
  pub only : Only l m table (table + 2 * n)
  pub from : at ≤ p
  pub most : p ≤ at + n
  pub covers : (i : ℕ) → at ≤ i → i < p → InSpan m table n i
  pub ends : (b : ℕ) → b < n → get_or m (table + n + b) 0 ≤ p

module _ {l : List ℕ} {at n table : ℕ} (c : SpanAsks l at n table) where
  -- none is met yet: both halves of the table are filled
  pub narrow_start : (w : ℕ) {m₁ m₂ : List ℕ} → m₁ ≡ splice l table (replicate n w) → m₂ ≡ splice m₁ (table + n) (replicate n 0) → Narrowing l m₂ at n table at
  narrow_start w {m₁} {m₂} e₁ e₂ =
      let o₁ : Only l (splice l table (replicate n w)) table (table + n) =
      only_splice l table (replicate n w) (table + n) (omega (arith, length-replicate n w)) (omega (arith, c.room)) in
      let f₁ : Only l m₁ table (table + n) = subst (λ (x : List ℕ). Only l x table (table + n)) (sym e₁) o₁ in
      let o₂ : Only m₁ (splice m₁ (table + n) (replicate n 0)) (table + n) (table + 2 * n) =
      only_splice m₁ (table + n) (replicate n 0) (table + 2 * n) (omega (arith, length-replicate {A = ℕ} n 0)) (omega (arith, c.room, f₁.size)) in
      let f₂ : Only m₁ m₂ (table + n) (table + 2 * n) = subst (λ (x : List ℕ). Only m₁ x (table + n) (table + 2 * n)) (sym e₂) o₂ in
      let r : table + n ≤ length m₁ = omega (arith, c.room, f₁.size) in
      record {
        only = only_then (only_wide table (table + 2 * n) f₁ (omega arith) (omega arith)) (only_wide table (table + 2 * n) f₂ (omega arith) (omega arith));
        from = omega arith;
        most = omega arith;
        covers = λ i h k. none i h k;
        ends = λ b h. end r b h;
      }
    where
      none : (i : ℕ) → at ≤ i → i < at → InSpan m₂ table n i
      none i h k = absurd (omega arith)

      end : table + n ≤ length m₁ → (b : ℕ) → b < n → get_or m₂ (table + n + b) 0 ≤ at
      end r b h =
          let zs : List ℕ = replicate n 0 in
          let k : b < length zs = omega (arith, length-replicate {A = ℕ} n 0) in
          let e : get_or m₂ (table + n + b) 0 ≡ 0 =
          ap (λ (x : List ℕ). get_or x (table + n + b) 0) e₂ ∙ get_or_splice_inside m₁ (table + n) zs b r k ∙ get_or-replicate n b 0 0 h in
          omega arith

  module _ {m : List ℕ} {p : ℕ} (w : Narrowing l m at n table p) (h : p < at + n) where
    pub widen_asks : WidenAsks m p table n
    widen_asks =
        record {
          some = omega (arith, c.some);
          few = omega (arith, c.small);
          small = omega (arith, c.small);
          beyond = omega (arith, c.beyond);
          room = omega (arith, c.room, w.only.size);
        }

    abbrev b₀ : ℕ
    b₀ = bucket_of n (get_or m p 0)

    abbrev u : ℕ
    u = min (get_or m (table + b₀) 0) p

    span : OneSpan m table n b₀
    span = record { inside = bucket_in_lem n (get_or m p 0) widen_asks.some; room = widen_asks.room }

    pub narrow_next : {m₂ : List ℕ} → m₂ ≡ widened m p table n → Narrowing l m₂ at n table (p + 1)
    unfolding widened
    narrow_next {m₂} e =
        subst (λ (x : List ℕ). Narrowing l x at n table (p + 1)) (sym e)
        (record {
          only = only_then w.only only_one;
          from = omega (arith, w.from);
          most = omega arith;
          covers = λ i x y. inside i x y;
          ends = λ b x. end b x;
        })
      where
        k : List ℕ
        k = wide span u (p + 1)

        only_one : Only m k table (table + 2 * n)
        only_one = wide_only span u (p + 1)

        same : (i : ℕ) → i < table → get_or k i 0 ≡ get_or m i 0
        same i x = get_or_only_before i only_one x

        end : (b : ℕ) → b < n → get_or k (table + n + b) 0 ≤ p + 1
        end b x =
            let z : get_or m (table + n + b) 0 ≤ p + 1 = omega (arith, w.ends b x) in
            wide_end span u (p + 1) (p + 1) (omega arith) b x z

        old : (i : ℕ) → at ≤ i → i < p → InSpan k table n i
        old i x y =
            let b : ℕ = bucket_of n (get_or m i 0) in
            let bn : b < n = bucket_in_lem n (get_or m i 0) widen_asks.some in
            let lower = wide_low span u (p + 1) (min-le_left (get_or m (table + b₀) 0) p) b bn in
            let up : get_or m (table + n + b₀) 0 ≤ p + 1 = omega (arith, w.ends b₀ span.inside) in
            let higher = wide_high span u (p + 1) up b bn in
            in_span (get_or m i 0) (same i (omega (arith, c.beyond))) (omega (arith, lower, (w.covers i x y).low)) (omega (arith, higher, (w.covers i x y).high))

        new : InSpan k table n p
        new =
            in_span (get_or m p 0) (same p widen_asks.beyond)
            (omega (arith, low_here span u (p + 1), min-le_right (get_or m (table + b₀) 0) p)) (omega (arith, high_here span u (p + 1)))

        inside : (i : ℕ) → at ≤ i → i < p + 1 → InSpan k table n i
        inside i x y = go (ltb i p) refl
          where
            go : (t : Bool) → ltb i p ≡ t → InSpan k table n i
            go true f = old i x (ltb-true i p f)
            go false f =
                let g : p ≤ i = ltb-false i p f in
                let z : p ≡ i = omega arith in
                subst (λ (j : ℕ). InSpan k table n j) z new

  pub narrow_end : {m : List ℕ} {p : ℕ} → Narrowing l m at n table p → at + n ≤ p → Built l m at n table n
  narrow_end {m} {p} w h =
      record {
        spans = part m table (2 * n);
        words = only_spliced (2 * n) w.only c.room;
        size = length_part m table (2 * n) (omega (arith, c.room, w.only.size));
        few = omega arith;
        spanned = record {
          some = omega (arith, c.some);
          few = omega (arith, c.small);
          beyond = c.beyond;
          room = omega (arith, c.room, w.only.size);
          covers = λ i x y. inside i x y;
          ends = λ b x. end b x;
        };
      }
    where
      inside : (i : ℕ) → at ≤ i → i < at + n → InSpan m table n i
      inside i x y = w.covers i x (omega arith)

      end : (b : ℕ) → b < n → get_or m (table + n + b) 0 ≤ at + n
      end b x = omega (arith, w.ends b x, w.most)
