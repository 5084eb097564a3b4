-- A loop that fills a region from its first word on: copying, carrying inside one slice, replacing. What differs is the row that it writes,
-- here `row i` after i turns; how it starts, goes on and ends is said once. Assumes nothing.
use mathlib.Core.Path.{◌≡◌, refl, sym, ap, ◌∙◌}
use mathlib.Core.List.{List, [], ◌∷◌, ◌++◌, map}
use Prim.Native.Nat.{ℕ, ◌+◌, ◌≤◌, ◌<◌}
use native.Mathlib.Omega.{arith}
use lib.ListN.{length, get_or, set, length-append}
use Rattle.octets.specs.Words.{words}
use Rattle.octets.specs.Regions.{splice, part, Clear, below, beyond}
use Rattle.octets.proofs.Words.{length_words_kept}
use Rattle.octets.proofs.Splice.{splice_nil, splice_snoc, get_or_splice_before, get_or_splice_after, part_more}

-- after i turns of n the bytes l have become m
pub record Filled (row : ℕ → List ℕ) (l m : List ℕ) (p n i : ℕ) : Type 0 where
  pub most : i ≤ n
  pub size : length m ≡ length l
  pub count : length (row i) ≡ i
  pub made : words m ≡ splice (words l) p (row i)

pub filled_start : (row : ℕ → List ℕ) (l : List ℕ) (p n : ℕ) → row 0 ≡ [] → Filled row l l p n 0
filled_start row l p n e = record { most = omega arith; size = refl; count = ap length e; made = sym (ap (splice (words l) p) e ∙ splice_nil (words l) p) }

-- one turn: a store of w, which is v, the row's next word
pub filled_next : {row : ℕ → List ℕ} {l m k : List ℕ} {p n i w v : ℕ} → Filled row l m p n i → i < n → p + n ≤ length (words l)
    → length k ≡ length m → words k ≡ set (words m) (p + i) w → w ≡ v → row (i + 1) ≡ row i ++ (v ∷ []) → Filled row l k p n (i + 1)
filled_next {row} {l} {m} {k} {p} {n} {i} {w} {v} f h r s e is more =
    let one : length (row (i + 1)) ≡ length (row i) + 1 = ap length more ∙ length-append (row i) (v ∷ []) in
    let here : p + i ≡ p + length (row i) = omega (arith, f.count) in
    record {
      most = omega arith;
      size = s ∙ f.size;
      count = omega (arith, f.count);
      made = e ∙ (λ j. set (f.made j) (p + i) (is j)) ∙ splice_snoc (words l) p (row i) (p + i) v here (omega arith) ∙ ap (splice (words l) p) (sym more);
    }

pub filled_end : {row : ℕ → List ℕ} {l m : List ℕ} {p n i : ℕ} → Filled row l m p n i → n ≤ i → words m ≡ splice (words l) p (row n)
filled_end {row} {l} {m} {p} {n} {i} f h = f.made ∙ ap (λ (k : ℕ). splice (words l) p (row k)) (last i n h f.most)
  where
    last : (i n : ℕ) → n ≤ i → i ≤ n → i ≡ n
    last i n h k = omega arith

pub filled_count : {row : ℕ → List ℕ} {l m : List ℕ} {p n i : ℕ} → Filled row l m p n i → length (words m) ≡ length (words l)
filled_count {row} {l} {m} f = length_words_kept m l f.size

-- the word that the turn reads from the slice that it fills is the word that was there
pub filled_clear : {row : ℕ → List ℕ} {l m : List ℕ} {p n i : ℕ} (from : ℕ) → Filled row l m p n i → i < n → p + n ≤ length (words l) → Clear p from n
    → get_or (words m) (from + i) 0 ≡ get_or (words l) (from + i) 0
filled_clear {row} {l} {m} {p} {n} {i} from f h r c = ap (λ (x : List ℕ). get_or x (from + i) 0) f.made ∙ there c
  where
    there : Clear p from n → get_or (splice (words l) p (row i)) (from + i) 0 ≡ get_or (words l) (from + i) 0
    there (below k) = get_or_splice_after (words l) p (row i) (from + i) (omega arith) (omega (arith, f.count))
    there (beyond k) = get_or_splice_before (words l) p (row i) (from + i) (omega arith) (omega arith)

-- ---- a mapped part, one word longer

map_append : (f : ℕ → ℕ) (xs ys : List ℕ) → map f (xs ++ ys) ≡ map f xs ++ map f ys
map_append f [] ys = refl
map_append f (x ∷ xs) ys = ap (λ (l : List ℕ). f x ∷ l) (map_append f xs ys)

pub map_part_more : (f : ℕ → ℕ) (l : List ℕ) (p n : ℕ) → p + n < length l → map f (part l p (n + 1)) ≡ map f (part l p n) ++ (f (get_or l (p + n) 0) ∷ [])
map_part_more f l p n h = ap (map f) (part_more l p n h) ∙ map_append f (part l p n) (get_or l (p + n) 0 ∷ [])
