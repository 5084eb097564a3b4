-- A replacement that runs over the span of its old word is made everywhere, and the table stays good once the span of the new word takes in that of the
-- old one. Assumes nothing.
use mathlib.Core.Bool.{Bool, cond, false, true}
use mathlib.Core.List.{List, [], ◌∷◌, map}
use mathlib.Core.Logic.{◌⊎◌, inl, inr}
use mathlib.Core.Path.{◌∙◌, ◌≡◌, ap, refl, subst, sym}
use Prim.Native.Nat.{ℕ, suc, zero, ◌*◌, ◌+◌, ◌-◌, ◌^◌, ◌<◌, ◌≤◌, max, min}
use native.Mathlib.Nat.{le-max_left, le-max_right, max-le, min-le_left, min-le_right}
use native.Mathlib.Omega.{arith}
use lib.Dec.{eqb, ltb}
use lib.ListN.{get_or, length, length-map, set}
use lib.Seq.{ext_get_or}
use borrow.Author.Tests.{eq-eqb, eqb-false, eqb-true, ltb-false, ltb-true, ne_eqb}
use Rattle.octets.proofs.Places.{get_or_only_before, only_same, only_splice}
use Rattle.octets.proofs.Splice.{get_d_part, get_or_splice_after, get_or_splice_before, get_or_splice_inside, length_part, splice_nil}
use Rattle.octets.specs.Regions.{Only, part, splice, swap}
use Rattle.bodies.specs.Buckets.{bucket_of}
use Rattle.bodies.proofs.BucketLaws.{bucket_in_lem}
use Rattle.canonicalize.specs.Spans.{InSpan, Replacing, Spanned}
use Rattle.canonicalize.proofs.SpanLaws.{OneSpan, in_span, only_spliced}
use Rattle.canonicalize.proofs.SpanLaws.{high_here, low_here, wide_end, wide_high, wide_low, wide_only}

-- ---- words of which each becomes another

swap_same : (x y w : ℕ) → w ≡ x → swap x y w ≡ y
unfolding swap
swap_same x y w e = ap (λ (t : Bool). cond t y w) (eq-eqb w x e)

swap_other : (x y w : ℕ) → (w ≡ x → ⊥) → swap x y w ≡ w
unfolding swap
swap_other x y w k = ap (λ (t : Bool). cond t y w) (ne_eqb w x k)

get_d_map : (f : ℕ → ℕ) (l : List ℕ) (i : ℕ) → i < length l → get_or (map f l) i 0 ≡ f (get_or l i 0)
get_d_map f [] i h = absurd (omega arith)
get_d_map f (w ∷ l) zero h = refl
get_d_map f (w ∷ l) (suc i) h = get_d_map f l i (omega arith)

record Within (l : List ℕ) (p n : ℕ) : Type 0 where
  pub end : p + n ≤ length l

module _ (f : ℕ → ℕ) {l : List ℕ} {p n : ℕ} (h : Within l p n) where
  abbrev mapped : List ℕ
  mapped = splice l p (map f (part l p n))

  mapped_count : length (map f (part l p n)) ≡ n
  mapped_count = length-map (part l p n) f ∙ length_part l p n h.end

  mapped_only : Only l mapped p (p + n)
  mapped_only = only_splice l p (map f (part l p n)) (p + n) (omega (arith, mapped_count)) h.end

  mapped_before : (i : ℕ) → i < p → get_or mapped i 0 ≡ get_or l i 0
  mapped_before i k = get_or_splice_before l p (map f (part l p n)) i (omega (arith, h)) k

  mapped_after : (i : ℕ) → p + n ≤ i → get_or mapped i 0 ≡ get_or l i 0
  mapped_after i k = get_or_splice_after l p (map f (part l p n)) i (omega (arith, h)) (omega (arith, mapped_count))

  mapped_inside : (i : ℕ) → p ≤ i → i < p + n → get_or mapped i 0 ≡ f (get_or l i 0)
  mapped_inside i a b =
      let e : p + (i - p) ≡ i = omega arith in
      let j : i - p < n = omega arith in
      ap (λ (k : ℕ). get_or mapped k 0) (sym e)
      ∙ get_or_splice_inside l p (map f (part l p n)) (i - p) (omega (arith, h)) (omega (arith, mapped_count))
      ∙ get_d_map f (part l p n) (i - p) (omega (arith, length_part l p n h.end))
      ∙ ap f (get_d_part l p n (i - p) j ∙ ap (λ (k : ℕ). get_or l k 0) e)

-- nothing lies between
pub nothing_between : (l : List ℕ) (start end x y : ℕ) → end ≤ start → l ≡ splice l start (map (swap x y) (part l start (end - start)))
nothing_between l start end x y h =
    let z : end - start ≡ 0 = omega arith in
    sym (ap (λ (k : ℕ). splice l start (map (swap x y) (part l start k))) z ∙ splice_nil l start)

-- ---- x becomes y

module _ {l : List ℕ} {at n table count : ℕ} (c : Spanned l at n table count) (x y : ℕ) where
  abbrev old_in : ℕ
  old_in = bucket_of count x

  abbrev new_in : ℕ
  new_in = bucket_of count y

  abbrev lowest : ℕ
  lowest = get_or l (table + old_in) 0

  abbrev highest : ℕ
  highest = get_or l (table + count + old_in) 0

  abbrev start : ℕ
  start = max at lowest

  in_all : Within l at n
  in_all = record { end = omega (arith, c.beyond, c.room) }

  highest_end : highest ≤ at + n
  highest_end = c.ends old_in (bucket_in_lem count x c.some)

  -- no x stands outside of its span
  outside : (i : ℕ) → at ≤ i → i < at + n → (i < start) ⊎ (highest ≤ i) → get_or l i 0 ≡ x → ⊥
  outside i a b (inl h) e =
      let k : lowest ≤ i = subst (λ (w : ℕ). get_or l (table + bucket_of count w) 0 ≤ i) e (c.covers i a b).low in
      omega arith
  outside i a b (inr h) e = omega (arith, subst (λ (w : ℕ). i < get_or l (table + count + bucket_of count w) 0) e (c.covers i a b).high)

  abbrev everywhere : List ℕ
  everywhere = splice l at (map (swap x y) (part l at n))

  everywhere_only : Only l everywhere at (at + n)
  everywhere_only = mapped_only (swap x y) in_all

  in_room : table + 2 * count ≤ length everywhere
  in_room = omega (arith, c.room, everywhere_only.size)

  -- the table stays as it was
  table_word : (j : ℕ) → table ≤ j → get_or everywhere j 0 ≡ get_or l j 0
  table_word j h = mapped_after (swap x y) in_all j (omega (arith, c.beyond))

  table_end : (b : ℕ) → b < count → get_or everywhere (table + count + b) 0 ≤ at + n
  table_end b h = omega (arith, table_word (table + count + b) (omega arith), c.ends b h)

  -- one bucket has every word in its span, whichever it is
  pub replaced_whole : {m : List ℕ} → count ≡ 1 → m ≡ splice l at (map (swap x y) (part l at n)) → Replacing l m at n x y table count
  replaced_whole {m} one e =
      subst (λ (z : List ℕ). Replacing l z at n x y table count) (sym e)
      (record {
        spans = part everywhere table (2 * count);
        words = only_spliced (2 * count) (only_same everywhere table (table + 2 * count)) in_room;
        size = length_part everywhere table (2 * count) in_room;
        spanned = record {
          some = c.some;
          few = c.few;
          beyond = c.beyond;
          room = in_room;
          covers = λ i a b. inside i a b;
          ends = table_end;
        };
      })
    where
      only_one : (v w : ℕ) → bucket_of count v ≡ bucket_of count w
      only_one v w = omega (arith, bucket_in_lem count v c.some, bucket_in_lem count w c.some)

      inside : (i : ℕ) → at ≤ i → i < at + n → InSpan everywhere table count i
      inside i a b =
          let k : ℕ = bucket_of count (get_or l i 0) in
          let is : k ≡ bucket_of count (get_or everywhere i 0) = only_one (get_or l i 0) (get_or everywhere i 0) in
          let low : get_or everywhere (table + k) 0 ≤ i = omega (arith, table_word (table + k) (omega arith), (c.covers i a b).low) in
          let high : i < get_or everywhere (table + count + k) 0 = omega (arith, table_word (table + count + k) (omega arith), (c.covers i a b).high) in
          record {
            low = subst (λ (j : ℕ). get_or everywhere (table + j) 0 ≤ i) is low;
            high = subst (λ (j : ℕ). i < get_or everywhere (table + count + j) 0) is high;
          }

  other_words : (i : ℕ) → (i < start) ⊎ (highest ≤ i) → get_or everywhere i 0 ≡ get_or l i 0
  other_words i k = go (ltb i at) refl (ltb i (at + n)) refl
    where
      go : (s : Bool) → ltb i at ≡ s → (t : Bool) → ltb i (at + n) ≡ t → get_or everywhere i 0 ≡ get_or l i 0
      go true e t f = mapped_before (swap x y) in_all i (ltb-true i at e)
      go false e false f = mapped_after (swap x y) in_all i (ltb-false i (at + n) f)
      go false e true f =
          let a = ltb-false i at e in
          let b = ltb-true i (at + n) f in
          mapped_inside (swap x y) in_all i a b ∙ swap_other x y (get_or l i 0) (outside i a b k)

  -- what is made from one place to another
  abbrev along : ℕ → ℕ → List ℕ
  along from to = splice l from (map (swap x y) (part l from (to - from)))

  -- what is made over the span is made everywhere
  over_span : along start highest ≡ everywhere
  over_span = go (ltb start highest) refl
    where
      go : (t : Bool) → ltb start highest ≡ t → along start highest ≡ everywhere
      go false e =
          let h : highest ≤ start = ltb-false start highest e in
          sym (nothing_between l start highest x y h)
          ∙ sym (ext_get_or 0 everywhere l everywhere_only.size (λ i k. other_words i (side h i)))
        where
          side : highest ≤ start → (i : ℕ) → (i < start) ⊎ (highest ≤ i)
          side h i = at_side (ltb i start) refl
            where
              at_side : (s : Bool) → ltb i start ≡ s → (i < start) ⊎ (highest ≤ i)
              at_side true f = inl (ltb-true i start f)
              at_side false f = let g = ltb-false i start f in inr (omega arith)
      go true e =
          let h : start < highest = ltb-true start highest e in
          let r : Within l start (highest - start) = record { end = omega (arith, highest_end, in_all) } in
          ext_get_or 0 (along start highest) everywhere ((mapped_only (swap x y) r).size ∙ sym everywhere_only.size) (λ i k. word h r i)
        where
          word : start < highest → Within l start (highest - start) → (i : ℕ) → get_or (along start highest) i 0 ≡ get_or everywhere i 0
          word h r i = at_side (ltb i start) refl (ltb i highest) refl
            where
              at_side : (s : Bool) → ltb i start ≡ s → (t : Bool) → ltb i highest ≡ t → get_or (along start highest) i 0 ≡ get_or everywhere i 0
              at_side true f t g =
                  let k = ltb-true i start f in
                  mapped_before (swap x y) r i k ∙ sym (other_words i (inl k))
              at_side false f false g =
                  let k = ltb-false i highest g in
                  mapped_after (swap x y) r i (omega arith) ∙ sym (other_words i (inr k))
              at_side false f true g =
                  let a = ltb-false i start f in
                  let b = ltb-true i highest g in
                  mapped_inside (swap x y) r i a (omega arith)
                  ∙ sym (mapped_inside (swap x y) in_all i (omega arith) (omega (arith, highest_end)))

  -- the span of bucket b takes in the places low and high
  abbrev taken : List ℕ → (b low high : ℕ) → List ℕ
  taken m b low high = set (set m (table + b) (min (get_or m (table + b) 0) low)) (table + b + count) (max (get_or m (table + b + count) 0) high)

  -- the span of y takes in that of x
  taken_good : Replacing l (taken everywhere new_in lowest highest) at n x y table count
  taken_good =
      record {
        spans = part wider table (2 * count);
        words = only_spliced (2 * count) only_one in_room;
        size = length_part wider table (2 * count) (omega (arith, only_one.size, in_room));
        spanned = record {
          some = c.some;
          few = c.few;
          beyond = c.beyond;
          room = omega (arith, only_one.size, in_room);
          covers = λ i a b. inside i a b;
          ends = λ b h. wide_end span u v (at + n) top b h (table_end b h);
        };
      }
    where
      u : ℕ
      u = min (get_or everywhere (table + new_in) 0) lowest

      v : ℕ
      v = max (get_or everywhere (table + new_in + count) 0) highest

      wider : List ℕ
      wider = taken everywhere new_in lowest highest

      span : OneSpan everywhere table count new_in
      span = record { inside = bucket_in_lem count y c.some; room = in_room }

      only_one : Only everywhere wider table (table + 2 * count)
      only_one = wide_only span u v

      turned : table + new_in + count ≡ table + count + new_in
      turned = omega arith

      up : get_or everywhere (table + count + new_in) 0 ≤ v
      up = subst (λ (j : ℕ). get_or everywhere j 0 ≤ v) turned (le-max_left (get_or everywhere (table + new_in + count) 0) highest)

      top : v ≤ at + n
      top =
          max-le
          (subst (λ (j : ℕ). get_or everywhere j 0 ≤ at + n) (sym turned) (table_end new_in span.inside)) highest_end

      inside : (i : ℕ) → at ≤ i → i < at + n → InSpan wider table count i
      inside i a b = go (eqb (get_or l i 0) x) refl
        where
          now : get_or wider i 0 ≡ swap x y (get_or l i 0)
          now = get_or_only_before i only_one (omega (arith, c.beyond)) ∙ mapped_inside (swap x y) in_all i a b

          go : (t : Bool) → eqb (get_or l i 0) x ≡ t → InSpan wider table count i
          go true e =
              let w : get_or l i 0 ≡ x = eqb-true (get_or l i 0) x e in
              let z₁ : lowest ≤ i = subst (λ (k : ℕ). get_or l (table + bucket_of count k) 0 ≤ i) w (c.covers i a b).low in
              let z₂ : i < highest = subst (λ (k : ℕ). i < get_or l (table + count + bucket_of count k) 0) w (c.covers i a b).high in
              in_span y (now ∙ swap_same x y (get_or l i 0) w)
              (omega (arith, low_here span u v, min-le_right (get_or everywhere (table + new_in) 0) lowest))
              (omega (arith, high_here span u v, le-max_right (get_or everywhere (table + new_in + count) 0) highest))
          go false e =
              let k : ℕ = bucket_of count (get_or l i 0) in
              let k-in : k < count = bucket_in_lem count (get_or l i 0) c.some in
              let lower = wide_low span u v (min-le_left (get_or everywhere (table + new_in) 0) lowest) k k-in in
              let higher = wide_high span u v up k k-in in
              let e₃ = table_word (table + k) (omega arith) in
              let e₄ = table_word (table + count + k) (omega arith) in
              in_span (get_or l i 0) (now ∙ swap_other x y (get_or l i 0) (eqb-false (get_or l i 0) x e))
              (omega (arith, lower, e₃, (c.covers i a b).low)) (omega (arith, higher, e₄, (c.covers i a b).high))

-- ---- the same, as the code finds it

-- the buckets of x and y
pub record Found {l : List ℕ} {at n table count : ℕ} (c : Spanned l at n table count) (x y b₁ b₂ : ℕ) : Type 0 where
  pub old : b₁ ≡ bucket_of count x
  pub new : b₂ ≡ bucket_of count y
  pub new_inside : b₂ < count
  pub room : table + 2 * count ≤ length l
  pub fits : length l < 2 ^ 64

pub buckets_found : {l : List ℕ} {at n table count : ℕ} (c : Spanned l at n table count) {x y b₁ b₂ : ℕ} → b₁ ≡ bucket_of count x
    → (b₂ ≡ bucket_of count y) × (b₂ < count) → length l < 2 ^ 64 → Found c x y b₁ b₂
buckets_found c x y fits = record { old = x; new = y.0; new_inside = y.1; room = c.room; fits = fits }

-- the span of x, from `low` to `high`
pub record Seen {l : List ℕ} {at n table count : ℕ} {c : Spanned l at n table count} {x y b₁ b₂ : ℕ} (f : Found c x y b₁ b₂) (low high : ℕ) : Type 0 where
  pub low_is : low ≡ lowest c x y
  pub high_is : high ≡ highest c x y
  pub inside : high ≤ length l

pub seen : {l : List ℕ} {at n table count : ℕ} {c : Spanned l at n table count} {x y b₁ b₂ : ℕ} (f : Found c x y b₁ b₂) {low high : ℕ}
    → low ≡ get_or l (table + b₁) 0 → high ≡ get_or l (table + b₁ + count) 0 → Seen f low high
seen {l} {at} {n} {table} {count} {c} {x} {y} {b₁} f {low} {high} el eh =
    let turned : table + old_in c x y + count ≡ table + count + old_in c x y = omega arith in
    let is : high ≡ highest c x y = eh ∙ ap (λ (b : ℕ). get_or l (table + b + count) 0) f.old ∙ ap (λ (j : ℕ). get_or l j 0) turned in
    record {
      low_is = el ∙ ap (λ (b : ℕ). get_or l (table + b) 0) f.old;
      high_is = is;
      inside = omega (arith, is, highest_end c x y, in_all c x y);
    }

-- the replacement is made over it, which leaves m
pub record Passed {l : List ℕ} {at n table count : ℕ} {c : Spanned l at n table count} {x y b₁ b₂ : ℕ} {f : Found c x y b₁ b₂} {low high : ℕ}
    (g : Seen f low high) (m : List ℕ) : Type 0 where
  pub all : m ≡ everywhere c x y
  pub inside : table + b₂ + count < length m
  pub fits : length m < 2 ^ 64

pub passed : {l : List ℕ} {at n table count : ℕ} {c : Spanned l at n table count} {x y b₁ b₂ : ℕ} {f : Found c x y b₁ b₂} {low high : ℕ}
    (g : Seen f low high) {from : ℕ} {m : List ℕ} → from ≡ max at low → m ≡ splice l from (map (swap x y) (part l from (high - from))) → Passed g m
passed {l} {at} {c = c} {x = x} {y = y} {f = f} {high = high} g {m = m} ef em =
    let is : m ≡ everywhere c x y =
    em ∙ ap (λ (j : ℕ). along c x y j high) ef ∙ (λ i. along c x y (max at (g.low_is i)) (g.high_is i)) ∙ over_span c x y in
    let size : length m ≡ length l = ap length is ∙ (everywhere_only c x y).size in
    record { all = is; inside = omega (arith, f); fits = omega (arith, f.fits) }

module _ {l : List ℕ} {at n table count : ℕ} {c : Spanned l at n table count} {x y b₁ b₂ : ℕ} {f : Found c x y b₁ b₂} {low high : ℕ}
    {g : Seen f low high} {m : List ℕ} (k : Passed g m) where
  -- the words at both ends of y's span are put anew
  pub replaced : {m₂ m₃ : List ℕ} {first last u v : ℕ} → first ≡ get_or m (table + b₂) 0 → last ≡ get_or m (table + b₂ + count) 0
      → u ≡ min first low → v ≡ max last high → m₂ ≡ set m (table + b₂) u → m₃ ≡ set m₂ (table + b₂ + count) v → Replacing l m₃ at n x y table count
  replaced {m₂} {m₃} {first} {last} {u} {v} ef el eu ev em₂ em₃ =
      subst (λ (z : List ℕ). Replacing l z at n x y table count) (sym is) (taken_good c x y)
    where
      low_value : u ≡ min (get_or m (table + b₂) 0) low
      low_value = eu ∙ ap (λ (w : ℕ). min w low) ef

      high_value : v ≡ max (get_or m (table + b₂ + count) 0) high
      high_value = ev ∙ ap (λ (w : ℕ). max w high) el

      is : m₃ ≡ taken c x y (everywhere c x y) (new_in c x y) (lowest c x y) (highest c x y)
      is =
          em₃ ∙ ap (λ (z : List ℕ). set z (table + b₂ + count) v) em₂
          ∙ (λ i. set (set m (table + b₂) (low_value i)) (table + b₂ + count) (high_value i))
          ∙ (λ i. taken c x y (k.all i) (f.new i) (g.low_is i) (g.high_is i))
