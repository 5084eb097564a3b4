-- Laws of what is printed: bytes written one behind the other, lines of words, and decimal numbers. Assumes nothing.
use mathlib.Core.Path.{◌≡◌, refl, sym, ap, ◌∙◌, subst}
use mathlib.Core.List.{List, [], ◌∷◌, ◌++◌, append_assoc, append-nil}
use mathlib.Core.Bool.{Bool, true, false, cond}
use Prim.Native.Nat.{ℕ, zero, suc, ◌+◌, ◌-◌, ◌*◌, ◌/◌, ◌%◌, ◌^◌, ◌≤◌, ◌<◌}
use native.Mathlib.Numerals.{add-one}
use native.Mathlib.Omega.{arith}
use lib.ListN.{length, get_or, set, take, drop, length-append, length-set}
use lib.Seq.{take-suc, take-set-le, drop-cons, drop-set-lt, get_or-set_same}
use lib.Dec.{ltb}
use borrow.Author.Tests.{lt-ltb, le-ltb}
use Rattle.octets.specs.Regions.{splice, part}
use Rattle.octets.proofs.Splice.{part_all, splice_is, splice_nil, splice_one, splice_then}
use Rattle.rules.specs.Refusals.{ok}
use Rattle.rules.specs.Flat.{words_of}
use Rattle.rules.specs.Calls.{Result}
use Rattle.rules.specs.Program.{line_feed, byte_of, hexadecimal, word_line, decimal_up_to, spaced, printed}
use Rattle.meaning.proofs.Lists.{words_append}
use Rattle.lines.specs.Printing.{Wrote, accepted}

-- ---- bytes one behind the other

pub wrote_nothing : (l : List ℕ) (at : ℕ) → Wrote l at [] l at
wrote_nothing l at = record { end = omega arith; bytes = sym (splice_nil l at) }

pub wrote_one : (l : List ℕ) (at b : ℕ) → at < length l → Wrote l at (b ∷ []) (set l at b) (at + 1)
wrote_one l at b h = record { end = refl; bytes = splice_one l at b h }

pub wrote_then : {l m n xs ys : List ℕ} {at q r : ℕ} → Wrote l at xs m q → Wrote m q ys n r → at ≤ length l → Wrote l at (xs ++ ys) n r
wrote_then {l} {m} {n} {xs} {ys} {at} {q} {r} f g h =
    record { end = omega (arith, length-append xs ys); bytes = splice_then l at xs q ys f.bytes g.bytes f.end h }

-- a byte stored behind what is written
pub wrote_snoc : {l m xs : List ℕ} {at q : ℕ} (b : ℕ) → Wrote l at xs m q → q < length m → at ≤ length l → Wrote l at (xs ++ (b ∷ [])) (set m q b) (q + 1)
wrote_snoc {l} {m} {xs} {at} {q} b f k h = wrote_then f (wrote_one m q b k) h

-- another name of what is written
pub wrote_same : {l m xs ys : List ℕ} {at r : ℕ} → xs ≡ ys → Wrote l at xs m r → Wrote l at ys m r
wrote_same {l} {m} {xs} {ys} {at} {r} e f = record { end = f.end ∙ ap (λ (zs : List ℕ). at + length zs) e; bytes = f.bytes ∙ ap (splice l at) e }

-- one more from the front
front_more : (l : List ℕ) (i : ℕ) → i < length l → part l 0 (i + 1) ≡ part l 0 i ++ (get_or l i 0 ∷ [])
front_more l i h = rw (add-one, take-suc l i 0)

-- the first i of the bytes xs are written
pub record BytesTo (l : List ℕ) (at : ℕ) (xs : List ℕ) (i : ℕ) (m : List ℕ) : Type 0 where
  pub size : length m ≡ length l
  pub wrote : Wrote l at (part xs 0 i) m (at + i)

pub bytes_start : (l : List ℕ) (at : ℕ) (xs : List ℕ) → BytesTo l at xs 0 l
bytes_start l at xs = record { size = refl; wrote = record { end = refl; bytes = sym (splice_nil l at) } }

pub bytes_next : {l m xs : List ℕ} {at i : ℕ} → BytesTo l at xs i m → i < length xs → at + length xs ≤ length l
    → BytesTo l at xs (i + 1) (set m (at + i) (get_or xs i 0))
bytes_next {l} {m} {xs} {at} {i} f h room =
    let next : at + i + 1 ≡ at + (i + 1) = omega arith in
    record {
      size = length-set m (at + i) (get_or xs i 0) ∙ f.size;
      wrote = rw next at (wrote_same (sym (front_more xs i h)) (wrote_snoc (get_or xs i 0) f.wrote (omega (arith, f.size)) (omega arith)));
    }

-- ---- a word's digits, from the last to the first

pub length_hexadecimal : (n w : ℕ) → length (hexadecimal n w) ≡ n
length_hexadecimal zero w = refl
length_hexadecimal (suc n) w = length-append (hexadecimal n (w / 16)) (byte_of (w % 16) ∷ []) ∙ omega (arith, length_hexadecimal n (w / 16))

drop_set : (l : List ℕ) (q b : ℕ) → q < length l → drop q (set l q b) ≡ b ∷ drop (suc q) l
drop_set l q b h =
    let k : q < length (set l q b) = omega (arith, length-set l q b) in
    drop-cons (set l q b) q 0 k ∙ (λ j. get_or-set_same l q b 0 h j ∷ drop-set-lt (suc q) l q b (omega arith) j)

-- the byte behind a row may be stored before the row
splice_behind : (l : List ℕ) (p : ℕ) (xs : List ℕ) (q b : ℕ) → q ≡ p + length xs → q < length l → splice (set l q b) p xs ≡ splice l p (xs ++ (b ∷ []))
splice_behind l p xs q b e h =
    let le : p ≤ q = omega arith in
    let n : p + length (xs ++ (b ∷ [])) ≡ suc q = omega (arith, length-append xs (b ∷ [])) in
    let after = ap (λ (j : ℕ). drop j (set l q b)) (sym e) ∙ drop_set l q b h in
    splice_is (set l q b) p xs ∙ (λ j. take-set-le p l q b le j ++ xs ++ after j)
    ∙ sym (splice_is l p (xs ++ (b ∷ [])) ∙ ap (λ (j : ℕ). take p l ++ (xs ++ (b ∷ [])) ++ drop j l) n ∙ simp append_assoc)

-- i digits of `rest` are left to write: with them the bytes m are what they are to be
pub record LeftOf (l m : List ℕ) (at w i rest : ℕ) : Type 0 where
  pub most : i ≤ 8
  pub size : length m ≡ length l
  pub done : splice m at (hexadecimal i rest) ≡ splice l at (hexadecimal 8 w)

pub left_next : {l m : List ℕ} {at w i rest : ℕ} → LeftOf l m at w i rest → 0 < i → at + 8 ≤ length l → (b : ℕ) → b ≡ byte_of (rest % 16)
    → LeftOf l (set m (at + (i - 1)) b) at w (i - 1) (rest / 16)
left_next {l} {m} {at} {w} {i} {rest} f h room b e =
    let n : i ≡ suc (i - 1) = omega arith in
    let here : at + (i - 1) ≡ at + length (hexadecimal (i - 1) (rest / 16)) = omega (arith, length_hexadecimal (i - 1) (rest / 16)) in
    record {
      most = omega arith;
      size = length-set m (at + (i - 1)) b ∙ f.size;
      done =
          splice_behind m at (hexadecimal (i - 1) (rest / 16)) (at + (i - 1)) b here (omega arith)
          ∙ ap (λ (x : ℕ). splice m at (hexadecimal (i - 1) (rest / 16) ++ (x ∷ []))) e
          ∙ ap (λ (j : ℕ). splice m at (hexadecimal j rest)) (sym n) ∙ f.done;
    }

pub left_end : {l m : List ℕ} {at w i rest : ℕ} → LeftOf l m at w i rest → i ≤ 0 → m ≡ splice l at (hexadecimal 8 w)
left_end {l} {m} {at} {w} {i} {rest} f h =
    let z : 0 ≡ i = omega arith in
    sym (splice_nil m at) ∙ ap (λ (j : ℕ). splice m at (hexadecimal j rest)) z ∙ f.done

-- ---- lines of words

-- one word more
lines_more : (ws : List ℕ) (i : ℕ) → i < length ws → words_of word_line (part ws 0 (i + 1)) ≡ words_of word_line (part ws 0 i) ++ word_line (get_or ws i 0)
lines_more ws i h =
    ap (words_of word_line) (front_more ws i h) ∙ words_append word_line (part ws 0 i) (get_or ws i 0 ∷ [])
    ∙ ap (λ (l : List ℕ). words_of word_line (part ws 0 i) ++ l) (append-nil (word_line (get_or ws i 0)))

-- i words are written, a line each
pub record LinesTo (l : List ℕ) (at : ℕ) (ws : List ℕ) (i : ℕ) (m : List ℕ) : Type 0 where
  pub most : i ≤ length ws
  pub size : length m ≡ length l
  pub wrote : Wrote l at (words_of word_line (part ws 0 i)) m (at + 9 * i)

pub lines_start : (l : List ℕ) (at : ℕ) (ws : List ℕ) → LinesTo l at ws 0 l
lines_start l at ws =
    record { most = omega arith; size = refl; wrote = subst (Wrote l at [] l) (let e : at ≡ at + 9 * 0 = omega arith in e) (wrote_nothing l at) }

pub lines_next : {l m k : List ℕ} {at i w : ℕ} {ws : List ℕ} → LinesTo l at ws i m → i < length ws → at + length ws * 9 ≤ length l
    → w ≡ get_or ws i 0 → length k ≡ length m → k ≡ splice m (at + 9 * i) (hexadecimal 8 w) → LinesTo l at ws (i + 1) (set k (at + 9 * i + 8) line_feed)
lines_next {l} {m} {k} {at} {i} {w} {ws} f h room e size hex =
    let eight : length (hexadecimal 8 w) ≡ 8 = length_hexadecimal 8 w in
    let end : ℕ = at + 9 * i in
    let digits : Wrote m end (hexadecimal 8 w) k (end + 8) = record { end = omega arith; bytes = hex } in
    let line : Wrote m end (word_line w) (set k (end + 8) line_feed) (end + 8 + 1) = wrote_snoc line_feed digits (omega (arith, f.size)) (omega arith) in
    let more = lines_more ws i (omega arith) in
    let nine : end + 8 + 1 ≡ at + 9 * (i + 1) = omega arith in
    record {
      most = omega arith;
      size = length-set k (end + 8) line_feed ∙ size ∙ f.size;
      wrote = rw nine at (wrote_same (ap (λ (x : ℕ). words_of word_line (part ws 0 i) ++ word_line x) e ∙ sym more) (wrote_then f.wrote line (omega (arith, f.size))));
    }

pub lines_end : {l m : List ℕ} {at i : ℕ} {ws : List ℕ} → LinesTo l at ws i m → length ws ≤ i → {n : ℕ} → n ≡ length ws
    → Wrote l at (words_of word_line ws) m (at + 9 * n)
lines_end {l} {m} {at} {i} {ws} f h {n} all =
    let e : i ≡ length ws = omega (arith, f.most) in
    subst (λ (k : ℕ). Wrote l at (words_of word_line ws) m (at + 9 * k)) (e ∙ sym all)
    (wrote_same (ap (λ (j : ℕ). words_of word_line (part ws 0 j)) e ∙ ap (words_of word_line) (part_all ws)) f.wrote)

-- ---- decimal numbers

pub decimal_one : (k : ℕ) → k < 10 → decimal_up_to 20 k [] ≡ byte_of k ∷ []
decimal_one k h = rw (lt-ltb k 10 h)

decimal_front : (n k : ℕ) (rest : List ℕ) → decimal_up_to n k rest ≡ decimal_up_to n k [] ++ rest
decimal_front zero k rest = refl
decimal_front (suc n) k rest = go (ltb k 10) (decimal_front n (k / 10) (byte_of (k % 10) ∷ rest)) (decimal_front n (k / 10) (byte_of (k % 10) ∷ []))
  where
    go : (b : Bool) → decimal_up_to n (k / 10) (byte_of (k % 10) ∷ rest) ≡ decimal_up_to n (k / 10) [] ++ (byte_of (k % 10) ∷ rest)
        → decimal_up_to n (k / 10) (byte_of (k % 10) ∷ []) ≡ decimal_up_to n (k / 10) [] ++ (byte_of (k % 10) ∷ [])
        → cond b (byte_of k ∷ rest) (decimal_up_to n (k / 10) (byte_of (k % 10) ∷ rest)) ≡ cond b (byte_of k ∷ []) (decimal_up_to n (k / 10) (byte_of (k % 10) ∷ [])) ++ rest
    go true e f = refl
    go false e f = e ∙ sym (ap (λ (l : List ℕ). l ++ rest) f ∙ append_assoc (decimal_up_to n (k / 10) []) (byte_of (k % 10) ∷ []) rest)

-- one place more than the number has changes nothing
decimal_enough : (n k : ℕ) (rest : List ℕ) → k < 10 ^ suc n → decimal_up_to (suc (suc n)) k rest ≡ decimal_up_to (suc n) k rest
decimal_enough zero k rest h =
    let l : k < 10 = omega arith in
    rw (lt-ltb k 10 l)
decimal_enough (suc n) k rest h =
    let l : k / 10 < 10 ^ suc n = omega arith in
    ap (λ (more : List ℕ). cond (ltb k 10) (byte_of k ∷ rest) more) (decimal_enough n (k / 10) (byte_of (k % 10) ∷ rest) l)

length_decimal : (n k : ℕ) (rest : List ℕ) → length (decimal_up_to n k rest) ≤ n + length rest
length_decimal zero k rest = omega arith
length_decimal (suc n) k rest = go (ltb k 10) (length_decimal n (k / 10) (byte_of (k % 10) ∷ rest))
  where
    go : (b : Bool) → length (decimal_up_to n (k / 10) (byte_of (k % 10) ∷ rest)) ≤ n + suc (length rest)
        → length (cond b (byte_of k ∷ rest) (decimal_up_to n (k / 10) (byte_of (k % 10) ∷ rest))) ≤ suc n + length rest
    go true h = omega arith
    go false h = omega arith

-- the last digit behind those of the tenth
pub decimal_more : (k : ℕ) → 10 ≤ k → k < 10 ^ 20 → decimal_up_to 20 k [] ≡ decimal_up_to 20 (k / 10) [] ++ (byte_of (k % 10) ∷ [])
decimal_more k h l =
    let small : k / 10 < 10 ^ 19 = omega arith in
    ap (λ (b : Bool). cond b (byte_of k ∷ []) (decimal_up_to 19 (k / 10) (byte_of (k % 10) ∷ []))) (le-ltb k 10 h)
    ∙ decimal_front 19 (k / 10) (byte_of (k % 10) ∷ []) ∙ ap (λ (xs : List ℕ). xs ++ (byte_of (k % 10) ∷ [])) (sym (decimal_enough 18 (k / 10) [] small))

pub length_tenth : (k : ℕ) → k < 10 ^ 20 → length (decimal_up_to 20 (k / 10) []) ≤ 19
length_tenth k l =
    let small : k / 10 < 10 ^ 19 = omega arith in
    omega (arith, ap length (decimal_enough 18 (k / 10) [] small), length_decimal 19 (k / 10) [])

-- ---- an answer

-- the first number of a result counts its words
pub printed_ok : (ws : List ℕ) (n replacements passes : ℕ) → length ws ≡ n
    → (111 ∷ 107 ∷ []) ++ spaced n ++ spaced replacements ++ spaced passes ++ (line_feed ∷ words_of word_line ws) ≡ printed (accepted ws replacements passes)
printed_ok ws n replacements passes e =
    ap (λ (k : ℕ). (111 ∷ 107 ∷ spaced k) ++ spaced replacements ++ spaced passes ++ (line_feed ∷ words_of word_line ws)) (sym e)

-- for a caller: a result's counters are not printed
pub printed_accepted : (r : Result) → printed (accepted r.words r.replacements r.passes) ≡ printed (ok r)
printed_accepted r = refl
