-- Laws of what stands where (`At`) and of what a step leaves as it was (`Only`). Code above the leaves reasons by these alone: its regions
-- are then sums, and omega answers for them. Assumes nothing.
use mathlib.Core.Path.{◌≡◌, refl, sym, ap, ap₂, ◌∙◌}
use mathlib.Core.List.{List, [], ◌∷◌, ◌++◌}
use Prim.Native.Nat.{ℕ, ◌+◌, ◌-◌, ◌≤◌, ◌<◌}
use native.Mathlib.Omega.{arith}
use lib.ListN.{length, get_or, take, drop, length-append, length-drop}
use lib.Seq.{take-take, drop-drop, take_at, drop_at, length-take-le, take-add, get_or-take, get_or-drop}
use Rattle.octets.specs.Regions.{splice, part, At, Only}
use Rattle.octets.proofs.Splice.{length_splice, take_splice, drop_splice, part_splice, get_d_part, length_part}

-- ---- what a step leaves

pub only_same : (l : List ℕ) (a e : ℕ) → Only l l a e
only_same l a e = record { size = refl; before = refl; after = refl }

pub only_then : {l m n : List ℕ} {a e : ℕ} → Only l m a e → Only m n a e → Only l n a e
only_then p q = record { size = q.size ∙ p.size; before = q.before ∙ p.before; after = q.after ∙ p.after }

pub only_wide : {l m : List ℕ} {a e : ℕ} (b f : ℕ) → Only l m a e → b ≤ a → e ≤ f → Only l m b f
only_wide {l} {m} {a} {e} b f o h k =
    record {
      size = o.size;
      before = sym (take-take b a m h) ∙ ap (take b) o.before ∙ take-take b a l h;
      after = cut m ∙ ap (drop (f - e)) o.after ∙ sym (cut l);
    }
  where
    cut : (x : List ℕ) → drop f x ≡ drop (f - e) (drop e x)
    cut x = ap (λ (i : ℕ). drop i x) (whole e f k) ∙ sym (drop-drop (f - e) e x)
      where
        whole : (e f : ℕ) → e ≤ f → f ≡ e + (f - e)
        whole e f k = omega arith

pub only_splice : (l : List ℕ) (p : ℕ) (xs : List ℕ) (q : ℕ) → q ≡ p + length xs → q ≤ length l → Only l (splice l p xs) p q
only_splice l p xs q e h =
    record {
      size = length_splice l p xs (omega arith);
      before = take_splice l p xs (omega arith);
      after = drop_splice l p xs q (omega arith) e;
    }

-- a word outside of what the step may have changed
pub get_or_only_before : {l m : List ℕ} {a e : ℕ} (i : ℕ) → Only l m a e → i < a → get_or m i 0 ≡ get_or l i 0
get_or_only_before {l} {m} {a} i o h = sym (get_or-take a m i 0 h) ∙ ap (λ (x : List ℕ). get_or x i 0) o.before ∙ get_or-take a l i 0 h

pub get_or_only_after : {l m : List ℕ} {a e : ℕ} (i : ℕ) → Only l m a e → e ≤ i → get_or m i 0 ≡ get_or l i 0
get_or_only_after {l} {m} {a} {e} i o h = sym (there m) ∙ ap (λ (x : List ℕ). get_or x (i - e) 0) o.after ∙ there l
  where
    there : (x : List ℕ) → get_or (drop e x) (i - e) 0 ≡ get_or x i 0
    there x = get_or-drop e x (i - e) 0 ∙ ap (λ (j : ℕ). get_or x j 0) (whole e i h)
      where
        whole : (e i : ℕ) → e ≤ i → e + (i - e) ≡ i
        whole e i h = omega arith

-- ---- what stands

part_take : (l : List ℕ) (p n : ℕ) → p ≤ length l → drop p (take (p + n) l) ≡ part l p n
part_take l p n h = ap (drop p) (take-add p n l) ∙ drop_at (take p l) (part l p n) p (length-take-le p l h)

-- still there after a step: before what it changed, and after it
pub at_before : {ws l m : List ℕ} {p a e : ℕ} → Only l m a e → At ws l p → p + length ws ≤ a → At ws m p
at_before {ws} {l} {m} {p} {a} {e} o s h =
    record {
      within = omega (arith, o.size, s.within);
      words = sym (part_take m p (length ws) (omega (arith, o.size, s.within)))
          ∙ ap (drop p) (sym (take-take (p + length ws) a m h) ∙ ap (take (p + length ws)) o.before ∙ take-take (p + length ws) a l h)
          ∙ part_take l p (length ws) (omega (arith, s.within)) ∙ s.words;
    }

pub at_after : {ws l m : List ℕ} {p a e : ℕ} → Only l m a e → At ws l p → e ≤ p → At ws m p
at_after {ws} {l} {m} {p} {a} {e} o s h =
    record { within = omega (arith, o.size, s.within); words = ap (take (length ws)) (only_wide a p o (omega arith) h).after ∙ s.words }

-- there once written
pub at_splice : (l : List ℕ) (p : ℕ) (xs : List ℕ) → p + length xs ≤ length l → At xs (splice l p xs) p
at_splice l p xs h = record { within = omega (arith, length_splice l p xs h); words = part_splice l p xs (omega arith) }

pub at_nil : (l : List ℕ) (p : ℕ) → p ≤ length l → At [] l p
at_nil l p h = record { within = omega arith; words = refl }

-- a row and the row behind it, together and apart
pub at_join : {xs ys l : List ℕ} {p q : ℕ} → At xs l p → At ys l q → q ≡ p + length xs → At (xs ++ ys) l p
at_join {xs} {ys} {l} {p} {q} s t e =
    let n = length-append xs ys in
    record {
      within = omega (arith, t.within);
      words = ap (λ (k : ℕ). take k (drop p l)) n ∙ take-add (length xs) (length ys) (drop p l)
          ∙ ap₂ ◌++◌ s.words (ap (take (length ys)) (drop-drop (length xs) p l ∙ ap (λ (k : ℕ). drop k l) (sym e)) ∙ t.words);
    }

pub at_left : {xs l : List ℕ} {p : ℕ} (ys : List ℕ) → At (xs ++ ys) l p → At xs l p
at_left {xs} {l} {p} ys s =
    let n = length-append xs ys in
    let h : length xs ≤ length (xs ++ ys) = omega arith in
    record {
      within = omega (arith, s.within);
      words = sym (take-take (length xs) (length (xs ++ ys)) (drop p l) h) ∙ ap (take (length xs)) s.words ∙ take_at xs ys (length xs) refl;
    }

pub at_right : {ys l : List ℕ} {p : ℕ} (xs : List ℕ) (q : ℕ) → At (xs ++ ys) l p → q ≡ p + length xs → At ys l q
at_right {ys} {l} {p} xs q s e =
    let n = length-append xs ys in
    let h : length xs ≤ length (drop p l) = omega (arith, length-drop p l, s.within) in
    record {
      within = omega (arith, s.within);
      words = ap (λ (k : ℕ). part l k (length ys)) e ∙ ap (take (length ys)) (sym (drop-drop (length xs) p l)) ∙ sym (part_take (drop p l) (length xs) (length ys) h)
          ∙ ap (λ (k : ℕ). drop (length xs) (take k (drop p l))) (sym n) ∙ ap (drop (length xs)) s.words ∙ drop_at xs ys (length xs) refl;
    }

-- a word of what stands
pub at_word : {ws l : List ℕ} {p : ℕ} (i : ℕ) → At ws l p → i < length ws → get_or l (p + i) 0 ≡ get_or ws i 0
at_word {ws} {l} {p} i s h = sym (get_d_part l p (length ws) i h) ∙ ap (λ (x : List ℕ). get_or x i 0) s.words

pub at_first : {w : ℕ} {ws l : List ℕ} {p : ℕ} → At (w ∷ ws) l p → get_or l p 0 ≡ w
at_first {w} {ws} {l} {p} s = ap (λ (k : ℕ). get_or l k 0) (plus p) ∙ at_word 0 s (omega arith)
  where
    plus : (p : ℕ) → p ≡ p + 0
    plus p = omega arith

-- a part of a part, and what stands in it

pub part_part : (l : List ℕ) (p n q k : ℕ) → q + k ≤ n → p + n ≤ length l → part (part l p n) q k ≡ part l (p + q) k
part_part l p n q k h r =
    let m : ℕ = n - q in
    let all : n ≡ q + m = omega arith in
    ap (λ (i : ℕ). part (take i (drop p l)) q k) all ∙ ap (take k) (part_take (drop p l) q m (omega (arith, length-drop p l)))
    ∙ take-take k m (drop q (drop p l)) (omega arith) ∙ ap (take k) (drop-drop q p l)

pub at_part : {us ws l : List ℕ} (p n q : ℕ) → ws ≡ part l p n → p + n ≤ length l → At us ws q → At us l (p + q)
at_part {us} {ws} {l} p n q e h s =
    let size : length ws ≡ n = ap length e ∙ length_part l p n h in
    record {
      within = omega (arith, s.within, size);
      words = sym (part_part l p n q (length us) (omega (arith, s.within, size)) h) ∙ ap (λ (x : List ℕ). part x q (length us)) (sym e) ∙ s.words;
    }
