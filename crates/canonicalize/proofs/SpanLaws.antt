-- Laws of a table of spans, whoever built it: it stays good for the end of a body, after steps behind it, and when one of its spans widens.
-- Assumes nothing.
use mathlib.Core.Bool.{Bool, false, true}
use mathlib.Core.List.{List, ◌++◌}
use mathlib.Core.Path.{◌∙◌, ◌≡◌, ap, refl, subst, sym}
use Prim.Native.Nat.{ℕ, ◌*◌, ◌+◌, ◌<◌, ◌≤◌}
use native.Mathlib.Omega.{arith}
use lib.Dec.{eqb}
use lib.ListN.{drop, get_or, length, length-set, set, take, take-append-drop}
use lib.Seq.{drop-set-lt, get_or-set_other, get_or-set_same, take-add, take-set-le}
use borrow.Author.Tests.{eqb-false, eqb-true}
use Rattle.octets.proofs.Places.{get_or_only_before, only_then}
use Rattle.octets.proofs.Splice.{length_part, splice_is}
use Rattle.octets.specs.Regions.{Only, part, splice}
use Rattle.bodies.specs.Buckets.{bucket_of}
use Rattle.bodies.proofs.BucketLaws.{bucket_in_lem}
use Rattle.canonicalize.specs.Spans.{InSpan, Spanned}

-- ---- regions

only_set : (l : List ℕ) (p w a e : ℕ) → a ≤ p → p < e → Only l (set l p w) a e
only_set l p w a e h k = record { size = length-set l p w; before = take-set-le a l p w h; after = drop-set-lt e l p w k }

-- what changed is written
pub only_spliced : {l m : List ℕ} {a : ℕ} (n : ℕ) → Only l m a (a + n) → a + n ≤ length l → m ≡ splice l a (part m a n)
only_spliced {l} {m} {a} n o h =
    let xs : List ℕ = part m a n in
    let k : length xs ≡ n = length_part m a n (omega (arith, o.size)) in
    sym (take-append-drop (a + n) m)
    ∙ ap (λ (z : List ℕ). z ++ drop (a + n) m) (take-add a n m ∙ ap (λ (z : List ℕ). z ++ xs) o.before)
    ∙ ap (λ (z : List ℕ). (take a l ++ xs) ++ z) (o.after ∙ ap (λ (j : ℕ). drop (a + j) l) (sym k))
    ∙ sym (splice_is l a xs)

-- ---- words in their spans

-- the word at place i is w, and stands in the span of w's bucket
pub in_span : {l : List ℕ} {table count i : ℕ} (w : ℕ) → get_or l i 0 ≡ w
    → get_or l (table + bucket_of count w) 0 ≤ i → i < get_or l (table + count + bucket_of count w) 0 → InSpan l table count i
in_span {l} {table} {count} {i} w e low high =
    record {
      low = subst (λ (v : ℕ). get_or l (table + bucket_of count v) 0 ≤ i) (sym e) low;
      high = subst (λ (v : ℕ). i < get_or l (table + count + bucket_of count v) 0) (sym e) high;
    }

-- the words from a later one on
pub spanned_tail : {l : List ℕ} {at n table count : ℕ} (p k : ℕ) → Spanned l at n table count → at ≤ p → p + k ≡ at + n → Spanned l p k table count
spanned_tail {l} {at} {n} {table} {count} p k s h e =
    record {
      some = s.some;
      few = s.few;
      beyond = omega (arith, s.beyond);
      room = s.room;
      covers = λ i a b. inside i a b;
      ends = λ b c. end b c;
    }
  where
    inside : (i : ℕ) → p ≤ i → i < p + k → InSpan l table count i
    inside i a b = s.covers i (omega arith) (omega arith)

    end : (b : ℕ) → b < count → get_or l (table + count + b) 0 ≤ p + k
    end b c = omega (arith, s.ends b c)

-- after a step behind the table
pub spanned_before : {l m : List ℕ} {at n table count a e : ℕ} → Only l m a e → Spanned l at n table count → table + 2 * count ≤ a → Spanned m at n table count
spanned_before {l} {m} {at} {n} {table} {count} {a} {e} o s h =
    record {
      some = s.some;
      few = s.few;
      beyond = s.beyond;
      room = omega (arith, s.room, o.size);
      covers = λ i x y. inside i x y;
      ends = λ b x. end b x;
    }
  where
    same : (j : ℕ) → j < table + 2 * count → get_or m j 0 ≡ get_or l j 0
    same j x = get_or_only_before j o (omega arith)

    inside : (i : ℕ) → at ≤ i → i < at + n → InSpan m table count i
    inside i x y =
        let b : ℕ = bucket_of count (get_or l i 0) in
        let k : b < count = bucket_in_lem count (get_or l i 0) s.some in
        in_span (get_or l i 0) (same i (omega (arith, s.beyond)))
        (omega (arith, same (table + b) (omega arith), (s.covers i x y).low)) (omega (arith, same (table + count + b) (omega arith), (s.covers i x y).high))

    end : (b : ℕ) → b < count → get_or m (table + count + b) 0 ≤ at + n
    end b x = omega (arith, same (table + count + b) (omega arith), s.ends b x)

-- ---- one span widened: its lower place becomes u, its upper one v

-- the span of bucket b, of so many, in a table that is inside
pub record OneSpan (l : List ℕ) (table count b : ℕ) : Type 0 where
  pub inside : b < count
  pub room : table + 2 * count ≤ length l

module _ {l : List ℕ} {table count b₀ : ℕ} (o : OneSpan l table count b₀) (u v : ℕ) where
  abbrev pub wide : List ℕ
  wide = set (set l (table + b₀) u) (table + b₀ + count) v

  pub wide_only : Only l wide table (table + 2 * count)
  wide_only =
      only_then (only_set l (table + b₀) u table (table + 2 * count) (omega arith) (omega (arith, o.inside)))
      (only_set (set l (table + b₀) u) (table + b₀ + count) v table (table + 2 * count) (omega arith) (omega (arith, o.inside)))

  pub low_here : get_or wide (table + b₀) 0 ≡ u
  low_here =
      get_or-set_other (set l (table + b₀) u) (table + b₀ + count) (table + b₀) v 0 (λ e. apart e)
      ∙ get_or-set_same l (table + b₀) u 0 (omega (arith, o))
    where
      apart : table + b₀ ≡ table + b₀ + count → ⊥
      apart e = omega (arith, o.inside)

  pub high_here : get_or wide (table + count + b₀) 0 ≡ v
  high_here =
      let e : table + count + b₀ ≡ table + b₀ + count = omega arith in
      ap (λ (i : ℕ). get_or wide i 0) e ∙ get_or-set_same (set l (table + b₀) u) (table + b₀ + count) v 0 (omega (arith, o, length-set l (table + b₀) u))

  low_other : (b : ℕ) → b < count → (b ≡ b₀ → ⊥) → get_or wide (table + b) 0 ≡ get_or l (table + b) 0
  low_other b h k =
      get_or-set_other (set l (table + b₀) u) (table + b₀ + count) (table + b) v 0 (λ e. apart e) ∙ get_or-set_other l (table + b₀) (table + b) u 0 (λ e. k (same e))
    where
      apart : table + b ≡ table + b₀ + count → ⊥
      apart e = omega arith

      same : table + b ≡ table + b₀ → b ≡ b₀
      same e = omega arith

  high_other : (b : ℕ) → b < count → (b ≡ b₀ → ⊥) → get_or wide (table + count + b) 0 ≡ get_or l (table + count + b) 0
  high_other b h k =
      get_or-set_other (set l (table + b₀) u) (table + b₀ + count) (table + count + b) v 0 (λ e. k (same e))
      ∙ get_or-set_other l (table + b₀) (table + count + b) u 0 (λ e. apart e)
    where
      apart : table + count + b ≡ table + b₀ → ⊥
      apart e = omega (arith, o.inside)

      same : table + count + b ≡ table + b₀ + count → b ≡ b₀
      same e = omega arith

  -- no span is less wide than before
  pub wide_low : u ≤ get_or l (table + b₀) 0 → (b : ℕ) → b < count → get_or wide (table + b) 0 ≤ get_or l (table + b) 0
  wide_low h b k = go (eqb b b₀) refl
    where
      go : (t : Bool) → eqb b b₀ ≡ t → get_or wide (table + b) 0 ≤ get_or l (table + b) 0
      go false e = omega (arith, low_other b k (eqb-false b b₀ e))
      go true e = subst (λ (x : ℕ). get_or wide (table + x) 0 ≤ get_or l (table + x) 0) (sym (eqb-true b b₀ e)) (omega (arith, low_here))

  pub wide_high : get_or l (table + count + b₀) 0 ≤ v → (b : ℕ) → b < count → get_or l (table + count + b) 0 ≤ get_or wide (table + count + b) 0
  wide_high h b k = go (eqb b b₀) refl
    where
      go : (t : Bool) → eqb b b₀ ≡ t → get_or l (table + count + b) 0 ≤ get_or wide (table + count + b) 0
      go false e = omega (arith, high_other b k (eqb-false b b₀ e))
      go true e = subst (λ (x : ℕ). get_or l (table + count + x) 0 ≤ get_or wide (table + count + x) 0) (sym (eqb-true b b₀ e)) (omega (arith, high_here))

  pub wide_end : (t : ℕ) → v ≤ t → (b : ℕ) → b < count → get_or l (table + count + b) 0 ≤ t → get_or wide (table + count + b) 0 ≤ t
  wide_end t h b k z = go (eqb b b₀) refl
    where
      go : (x : Bool) → eqb b b₀ ≡ x → get_or wide (table + count + b) 0 ≤ t
      go false e = omega (arith, high_other b k (eqb-false b b₀ e))
      go true e = subst (λ (x : ℕ). get_or wide (table + count + x) 0 ≤ t) (sym (eqb-true b b₀ e)) (omega (arith, high_here))
