-- Laws of buckets: keys word by word, a bucket is one of those there are, and atoms that are alike fall into one. Assumes nothing.
use mathlib.Core.Bool.{true, false≢true}
use mathlib.Core.List.{List, [], ◌++◌, ◌∷◌}
use mathlib.Core.Path.{◌∙◌, ◌≡◌, ap, ap₂, refl, sym}
use Prim.Native.Nat.{ℕ, suc, zero, ◌+◌, ◌-◌, ◌<◌, ◌≤◌}
use native.Mathlib.Omega.{arith}
use native.Mathlib.Nat.{mul-lt-mul_of_pos_right}
use native.Mathlib.Numerals.{add-one}
use lib.ListN.{drop, get_or, length, length-drop, replicate, take, take-append-drop}
use lib.Seq.{length-take-le, take-length}
use borrow.Author.Tests.{eqb-true}
use Rattle.octets.proofs.Splice.{take_more}
use Rattle.octets.specs.Regions.{part}
use Rattle.rules.specs.Flat.{Tab}
use Rattle.rules.specs.RemoveDupVars.{alike}
use Rattle.rules.specs.Words.{head_word}
use Rattle.rules.specs.Signature.{same_term, same_terms}
use Rattle.meaning.proofs.Lists.{and_left, and_right}
use Rattle.meaning.proofs.MergePass.{alike_count, alike_head, alike_ins}
use Rattle.bodies.specs.Buckets.{bucket_in, bucket_of, key_of, mix, mix_all}

-- ---- mixing, word by word

mix_append : (k : ℕ) (xs ys : List ℕ) → mix_all k (xs ++ ys) ≡ mix_all (mix_all k xs) ys
unfolding mix_all
mix_append k [] ys = refl
mix_append k (x ∷ xs) ys = mix_append (mix k x) xs ys

mix_one : (k w : ℕ) → mix_all k (w ∷ []) ≡ mix k w
unfolding mix_all
mix_one k w = refl

pub mix_more : (k : ℕ) (ws : List ℕ) (i : ℕ) → i < length ws → mix_all k (take (i + 1) ws) ≡ mix (mix_all k (take i ws)) (get_or ws i 0)
mix_more k ws i h = ap (mix_all k) (take_more ws i h) ∙ mix_append k (take i ws) (get_or ws i 0 ∷ []) ∙ mix_one (mix_all k (take i ws)) (get_or ws i 0)

pub mix_none : (k : ℕ) → mix_all k [] ≡ k
unfolding mix_all
mix_none k = refl

-- ---- keys, word by word

key_append : (xs ys : List ℕ) → 0 < length xs → key_of (xs ++ ys) ≡ mix_all (key_of xs) ys
unfolding key_of
key_append [] ys h = omega arith
key_append (x ∷ xs) ys h = mix_append x xs ys

key_word : (w : ℕ) → key_of (w ∷ []) ≡ w
unfolding key_of mix_all
key_word w = refl

-- k is the key of the first i of some words
pub record Keyed (ws : List ℕ) (i k : ℕ) : Type 0 where
  pub is : k ≡ key_of (take i ws)
  pub some : 0 < i
  pub within : i ≤ length ws

pub key_one : {ws : List ℕ} {w : ℕ} → 0 < length ws → w ≡ get_or ws 0 0 → Keyed ws 1 w
key_one {ws} {w} h e = record { is = e ∙ sym (ap key_of (take_more ws 0 h) ∙ key_word (get_or ws 0 0)); some = omega arith; within = omega arith }

module _ {ws : List ℕ} {i k : ℕ} (g : Keyed ws i k) where
  size : length (take i ws) ≡ i
  size = length-take-le i ws g.within

  -- with all that are left mixed into it
  pub key_all : {r : ℕ} → r ≡ mix_all k (part ws i (length ws - i)) → r ≡ key_of ws
  key_all e =
      let rest : part ws i (length ws - i) ≡ drop i ws = ap (λ (n : ℕ). take n (drop i ws)) (sym (length-drop i ws)) ∙ take-length (drop i ws) in
      e ∙ (λ j. mix_all (g.is j) (rest j)) ∙ sym (key_append (take i ws) (drop i ws) (omega (arith, size, g.some))) ∙ ap key_of (take-append-drop i ws)

  -- they are all there are
  pub key_done : length ws ≤ i → k ≡ key_of ws
  key_done h =
      let all : i ≡ length ws = omega (arith, g.within) in
      g.is ∙ ap (λ (j : ℕ). key_of (take j ws)) all ∙ ap key_of (take-length ws)

  -- with one word more
  pub key_more : {w r : ℕ} → i < length ws → w ≡ get_or ws i 0 → r ≡ mix k w → Keyed ws (i + 1) r
  key_more {w} h f e =
      record {
        is = e ∙ (λ j. mix (g.is j) (f j)) ∙ sym (mix_one (key_of (take i ws)) (get_or ws i 0))
            ∙ sym (ap key_of (take_more ws i h) ∙ key_append (take i ws) (get_or ws i 0 ∷ []) (omega (arith, size, g.some)));
        some = omega arith;
        within = omega arith;
      }

-- ---- filling

replicate_snoc : (k w : ℕ) → replicate (suc k) w ≡ replicate k w ++ w ∷ []
replicate_snoc zero w = refl
replicate_snoc (suc k) w = ap (λ (ws : List ℕ). w ∷ ws) (replicate_snoc k w)

pub replicate_more : (k w : ℕ) → replicate (k + 1) w ≡ replicate k w ++ w ∷ []
replicate_more k w = ap (λ (j : ℕ). replicate j w) (add-one k) ∙ replicate_snoc k w

-- ---- a bucket is one of those there are

pub mix_word : (k w : ℕ) → mix k w < 0x1_0000_0000
unfolding mix
mix_word k w = omega arith

pub bucket_in_lem : (count w : ℕ) → 0 < count → bucket_of count w < count
unfolding bucket_of
bucket_in_lem count w h = omega (arith, mul-lt-mul_of_pos_right (mix_word w 0) h)

-- ---- alike atoms have one bucket

-- equal terms are mixed into a key alike. A term is mixed in by its word, so here alone equal terms have to be equal words, which the laws of equal
-- terms don't say
mix_same : (k a b : ℕ) → same_term a b ≡ true → mix k a ≡ mix k b
mix_same k a b e = ap (mix k) (eqb-true a b e)

mix_terms : (k : ℕ) (xs ys : List ℕ) → same_terms xs ys ≡ true → mix_all k xs ≡ mix_all k ys
unfolding mix_all
mix_terms k [] [] e = refl
mix_terms k [] (y ∷ ys) e = absurd (false≢true e)
mix_terms k (x ∷ xs) [] e = absurd (false≢true e)
mix_terms k (x ∷ xs) (y ∷ ys) e =
    ap (λ (j : ℕ). mix_all j xs) (mix_same k x y (and_left (same_term x y) (same_terms xs ys) e))
    ∙ mix_terms (mix k y) xs ys (and_right (same_term x y) (same_terms xs ys) e)

pub alike_bucket : (count : ℕ) (a b : Tab) → alike a b ≡ true → bucket_in count a ≡ bucket_in count b
unfolding bucket_in key_of
alike_bucket count a b e =
    let first : head_word a.head (suc (length a.ins)) ≡ head_word b.head (suc (length b.ins)) =
    ap₂ (λ (h n : ℕ). head_word h (suc n)) (alike_head a b e) (alike_count a b e) in
    ap (bucket_of count) (ap (λ (w : ℕ). mix_all w a.ins) first ∙ mix_terms _ a.ins b.ins (alike_ins a b e))
