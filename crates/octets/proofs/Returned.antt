-- What writing a part of a slice of bytes makes of the slice's words, where the part begins and ends at words' boundaries. Assumes nothing.
use mathlib.Core.Path.{◌≡◌, sym, ap, ◌∙◌}
use mathlib.Core.List.{List, ◌++◌, append_assoc}
use Prim.Native.Nat.{ℕ, ◌+◌, ◌-◌, ◌*◌, ◌%◌, ◌≤◌}
use native.Mathlib.Omega.{arith}
use lib.ListN.{length, take, drop}
use lib.Seq.{length-take-le}
use borrow.Rule.Slice.PartMut.{put_mid, Post-is}
use Rattle.octets.specs.Words.{words}
use Rattle.octets.specs.Regions.{splice}
use Rattle.octets.proofs.Words.{length_words, words_take, words_drop, words_append}
use Rattle.octets.proofs.Splice.{splice_is}

-- `&mut s[4 * a..4 * e]` given back with the bytes ys in it
module _ (l ys : List ℕ) (a e : ℕ) (ordered : a ≤ e) (within : e ≤ length (words l)) (full : length ys ≡ 4 * (e - a)) where
  bytes : 4 * e ≤ length l
  bytes = omega (arith, length_words l)

  behind : take (4 * a) l ++ (ys ++ drop (4 * e) l) ≡ put_mid (4 * a) (4 * e - 4 * a) l ys
  behind = ap (λ (t : List ℕ). take (4 * a) l ++ (ys ++ t)) (sym (Post-is (4 * a) (4 * e) l (omega arith)))

  front : length (take (4 * a) l) % 4 ≡ 0
  front = rw (length-take-le (4 * a) l (omega (arith, bytes))) (omega arith)

  end : a + length (words ys) ≡ e
  end = omega (arith, length_words ys)

  pub words_given_back : words (put_mid (4 * a) (4 * e - 4 * a) l ys) ≡ splice (words l) a (words ys)
  words_given_back =
      sym (ap words behind) ∙ words_append (take (4 * a) l) (ys ++ drop (4 * e) l) front
      ∙ ap (λ (t : List ℕ). t ++ words (ys ++ drop (4 * e) l)) (words_take a l)
      ∙ ap (λ (t : List ℕ). take a (words l) ++ t) (words_append ys (drop (4 * e) l) (omega arith) ∙ ap (λ (t : List ℕ). words ys ++ t) (words_drop e l))
      ∙ ap (λ (i : ℕ). take a (words l) ++ (words ys ++ drop i (words l))) (sym end)
      ∙ sym (splice_is (words l) a (words ys) ∙ append_assoc (take a (words l)) (words ys) (drop (a + length (words ys)) (words l)))
