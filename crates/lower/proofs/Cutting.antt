-- What is lent to lowering, as words: the signature, the rule, and counters at zero. Assumes nothing.
use mathlib.Core.Path.{◌≡◌, sym, ap, ◌∙◌}
use mathlib.Core.List.{List}
use Prim.Native.Nat.{ℕ, ◌+◌, ◌-◌, ◌*◌, ◌≤◌, ◌<◌, min}
use native.Mathlib.Omega.{arith}
use lib.ListN.{length, get_or, take, drop, replicate, length-take, length-drop, length-replicate, get_or-replicate}
use lib.Seq.{length-take-le, get_or-take, get_or-drop, ext_get_or}
use borrow.Rule.Slice.PartMut.{mid_of}
use Rattle.octets.specs.Words.{word_of, words}
use Rattle.octets.specs.Regions.{part}
use Rattle.octets.proofs.Splice.{length_part, get_d_part}
use Rattle.octets.proofs.Words.{length_words, get_d_words, words_take, words_lent}
use Rattle.lower.specs.Room.{Zeros}

-- the first n words, cut at k
module _ (ws : List ℕ) (n k : ℕ) (all : n ≤ length ws) where
  size : length (part ws 0 n) ≡ n
  size = length_part ws 0 n (omega arith)

  pub take_cut : take k (part ws 0 n) ≡ part ws 0 (min k n)
  take_cut =
      let left : length (take k (part ws 0 n)) ≡ min k n = length-take k (part ws 0 n) ∙ ap (min k) size in
      let right : length (part ws 0 (min k n)) ≡ min k n = length_part ws 0 (min k n) (omega arith) in
      ext_get_or 0 (take k (part ws 0 n)) (part ws 0 (min k n)) (left ∙ sym right) (λ i h. go i h left)
    where
      go : (i : ℕ) → i < length (take k (part ws 0 n)) → length (take k (part ws 0 n)) ≡ min k n → get_or (take k (part ws 0 n)) i 0 ≡ get_or (part ws 0 (min k n)) i 0
      go i h e = get_or-take k (part ws 0 n) i 0 (omega arith) ∙ get_d_part ws 0 n i (omega arith) ∙ sym (get_d_part ws 0 (min k n) i (omega arith))

  pub drop_cut : drop k (part ws 0 n) ≡ part ws (min k n) (n - min k n)
  drop_cut =
      let left : length (drop k (part ws 0 n)) ≡ n - k = length-drop k (part ws 0 n) ∙ ap (λ (m : ℕ). m - k) size in
      let right : length (part ws (min k n) (n - min k n)) ≡ n - min k n = length_part ws (min k n) (n - min k n) (omega arith) in
      ext_get_or 0 (drop k (part ws 0 n)) (part ws (min k n) (n - min k n)) (omega arith) (λ i h. go i h left)
    where
      go : (i : ℕ) → i < length (drop k (part ws 0 n)) → length (drop k (part ws 0 n)) ≡ n - k → get_or (drop k (part ws 0 n)) i 0 ≡ get_or (part ws (min k n) (n - min k n)) i 0
      go i h e =
          let place : 0 + (k + i) ≡ min k n + i = omega arith in
          get_or-drop k (part ws 0 n) i 0 ∙ get_d_part ws 0 n (k + i) (omega arith) ∙ ap (λ (j : ℕ). get_or ws j 0) place ∙ sym (get_d_part ws (min k n) (n - min k n) i (omega arith))

-- the first n words of l, cut at k or at their end
module _ (l : List ℕ) (n k : ℕ) (all : n ≤ length (words l)) where
  pub signature_cut : words (take (4 * min k n) l) ≡ take k (part (words l) 0 n)
  signature_cut = words_take (min k n) l ∙ sym (take_cut (words l) n k all)

  pub rule_cut : words (mid_of (4 * min k n) (4 * n - 4 * min k n) l) ≡ drop k (part (words l) 0 n)
  rule_cut = words_lent l (min k n) n (omega arith) all ∙ sym (drop_cut (words l) n k all)

-- k of n words that are zero
module _ (l : List ℕ) (n k : ℕ) (z : Zeros (4 * n) l) (h : k ≤ n) where
  many : length (words l) ≡ n
  many = omega (arith, length_words l, z.size)

  zero_word : (i : ℕ) → i < n → get_or (words l) i 0 ≡ 0
  zero_word i j =
      let a = z.zeros (4 * i) (omega arith) in
      let b = z.zeros (4 * i + 1) (omega arith) in
      let c = z.zeros (4 * i + 2) (omega arith) in
      let d = z.zeros (4 * i + 3) (omega arith) in
      get_d_words l i (omega (arith, z.size)) ∙ (λ t. word_of (a t) (b t) (c t) (d t))

  pub zeros_words : words (take (4 * k) l) ≡ replicate k 0
  zeros_words =
      let size : length (take k (words l)) ≡ k = length-take-le k (words l) (omega (arith, many)) in
      words_take k l ∙ ext_get_or 0 (take k (words l)) (replicate k 0) (size ∙ sym (length-replicate k 0)) (λ i j. go i j size)
    where
      go : (i : ℕ) → i < length (take k (words l)) → length (take k (words l)) ≡ k → get_or (take k (words l)) i 0 ≡ get_or (replicate k 0) i 0
      go i j e =
          let small : i < k = omega arith in
          get_or-take k (words l) i 0 small ∙ zero_word i (omega arith) ∙ sym (get_or-replicate k i 0 0 small)
