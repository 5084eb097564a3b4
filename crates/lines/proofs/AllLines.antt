-- Laws of the loop over lines: as long as every line is good, its words are those that `read_lines` has so far. Assumes nothing.
use mathlib.Core.Path.{◌≡◌, refl, sym, ap, ◌∙◌}
use mathlib.Core.List.{List, [], ◌∷◌, ◌++◌, append_assoc, append-nil}
use mathlib.Core.Bool.{Bool, true, false, ◌&&◌}
use Prim.Native.Nat.{ℕ, zero, suc, ◌+◌, ◌-◌, ◌*◌, ◌/◌, ◌≤◌, ◌<◌}
use native.Mathlib.Nat.{zero-add}
use native.Mathlib.Numerals.{add-one}
use native.Mathlib.Omega.{arith}
use lib.ListN.{length, get_or, set}
use lib.Dec.{ltb, leb, eqb}
use borrow.Author.Tests.{ltb-true, ltb-false, leb-true, eqb-true}
use Rattle.octets.specs.Words.{words}
use Rattle.octets.specs.Regions.{splice, part}
use Rattle.octets.proofs.Filling.{Filled, filled_start, filled_next}
use Rattle.rules.specs.Words.{max_lines}
use Rattle.rules.specs.Refusals.{Res, ok, refuse, ◌>>=◌, demand, bad_line}
use Rattle.rules.specs.Program.{are_digits, spelt, line_feed, line_at, lines_from, read_lines}
use Rattle.meaning.proofs.Lists.{and_left, and_right}
use Rattle.meaning.proofs.Results.{demand_ok}
use Rattle.std.specs.Prelude.{Ok, Err}
use Rattle.refusals.specs.Numbers.{number_of, told}
use Rattle.refusals.specs.declared.Reason.TheVariants.{BadLine}
use Rattle.refusals.specs.declared.Refusal.{Refusal}
use Rattle.lines.specs.Reading.{first_words, stored, LinesRead}

-- ---- one line

abbrev pub word_at : List ℕ → ℕ → ℕ
word_at input line = spelt 0 (part input (line * 9) 8)

abbrev pub is_good : List ℕ → ℕ → Bool
is_good input line = ltb line max_lines && leb (line * 9 + 9) (length input) && are_digits (part input (line * 9) 8) && eqb (get_or input (line * 9 + 8) 0) line_feed

-- a line is the word w, or is malformed
abbrev pub HasWord : List ℕ → ℕ → ℕ → Type 0
HasWord input line w = ok w ≡ line_at input (line * 9) line

abbrev pub HasNone : List ℕ → ℕ → Type 0
HasNone input line = refuse bad_line (suc line) ≡ line_at input (line * 9) line

-- what the tests of a good line tell
pub record Good (input : List ℕ) (line : ℕ) : Type 0 where
  pub early : line < max_lines
  pub whole : line * 9 + 9 ≤ length input
  pub digits : are_digits (part input (line * 9) 8) ≡ true
  pub ended : get_or input (line * 9 + 8) 0 ≡ line_feed

pub good_line : (input : List ℕ) (line : ℕ) → is_good input line ≡ true → Good input line
good_line input line e =
    let a = ltb line max_lines in
    let b = leb (line * 9 + 9) (length input) in
    let c = are_digits (part input (line * 9) 8) in
    let d = eqb (get_or input (line * 9 + 8) 0) line_feed in
    let three = and_left (a && b && c) d e in
    let two = and_left (a && b) c three in
    record {
      early = ltb-true line max_lines (and_left a b two);
      whole = leb-true (line * 9 + 9) (length input) (and_right a b two);
      digits = and_right (a && b) c three;
      ended = eqb-true (get_or input (line * 9 + 8) 0) line_feed (and_right (a && b && c) d e);
    }

malformed_demanded : (b : Bool) (p x : ℕ) → refuse bad_line p ≡ demand b bad_line p x → b ≡ false
malformed_demanded true p x e = absurd (let z : ◌≡◌ {A = ℕ} 0 1 = cc in omega arith)
malformed_demanded false p x e = refl

-- ---- the lines from the first on

-- what is read from line k on, behind the words ws
abbrev behind : List ℕ → Res (List ℕ) → Res (List ℕ)
behind ws (ok vs) = ok (ws ++ vs)
behind ws (refuse n p) = refuse n p

behind_nil : (r : Res (List ℕ)) → behind [] r ≡ r
behind_nil (ok vs) = refl
behind_nil (refuse n p) = refl

behind_one : (ws : List ℕ) (w : ℕ) (r : Res (List ℕ)) → behind ws (◌>>=◌ r (λ (vs : List ℕ). ok (w ∷ vs))) ≡ behind (ws ++ (w ∷ [])) r
behind_one ws w (ok vs) = ap ok (sym (append_assoc ws (w ∷ []) vs))
behind_one ws w (refuse n p) = refl

module _ (input : List ℕ) where
  -- the lines before this one are good
  abbrev pub GoodTo : ℕ → Type 0
  GoodTo k = (i : ℕ) → i < k → is_good input i ≡ true

  line_good : (n k : ℕ) → is_good input k ≡ true → lines_from input (suc n) k ≡ ◌>>=◌ (lines_from input n (suc k)) (λ (vs : List ℕ). ok (word_at input k ∷ vs))
  line_good n k e = rw e

  pub line_bad : (n k : ℕ) → is_good input k ≡ false → lines_from input (suc n) k ≡ refuse bad_line (suc k)
  line_bad n k e = rw e

  good_lines : (n k : ℕ) → GoodTo k → lines_from input (k + n) 0 ≡ behind (first_words input k) (lines_from input n k)
  good_lines n zero g = rw zero-add (sym (behind_nil (lines_from input n 0)))
  good_lines n (suc k) g =
      let e : suc k + n ≡ k + suc n = omega arith in
      ap (λ (m : ℕ). lines_from input m 0) e ∙ good_lines (suc n) k (λ i h. g i (omega arith))
      ∙ ap (behind (first_words input k)) (line_good n k (g k (omega arith))) ∙ behind_one (first_words input k) (word_at input k) (lines_from input n (suc k))

  lines_all : (k : ℕ) → GoodTo k → length input ≡ k * 9 → read_lines input ≡ ok (first_words input k)
  lines_all k g e =
      let n : (length input + 8) / 9 ≡ k + 0 = omega arith in
      ap (λ (m : ℕ). lines_from input m 0) n ∙ good_lines 0 k g ∙ ap ok (append-nil (first_words input k))

  lines_refused : (k : ℕ) → GoodTo k → k * 9 < length input → is_good input k ≡ false → read_lines input ≡ refuse bad_line (suc k)
  lines_refused k g h b =
      let n : (length input + 8) / 9 ≡ k + suc ((length input + 8) / 9 - suc k) = omega arith in
      ap (λ (m : ℕ). lines_from input m 0) n ∙ good_lines (suc ((length input + 8) / 9 - suc k)) k g
      ∙ ap (behind (first_words input k)) (line_bad ((length input + 8) / 9 - suc k) k b)

-- ---- the loop

-- the lines before this one are good, and their words are written: l has become m
pub record ReadTo (input l m : List ℕ) (line : ℕ) : Type 0 where
  pub good : GoodTo input line
  pub whole : line * 9 ≤ length input
  pub filled : Filled (first_words input) l m 0 max_lines line

pub read_start : (input l : List ℕ) → ReadTo input l l 0
read_start input l = record { good = λ i h. absurd (omega arith); whole = omega arith; filled = filled_start (first_words input) l 0 max_lines refl }

module _ {input l m : List ℕ} {line : ℕ} (s : ReadTo input l m line) where
  -- a line with a word is one of those that are read, and is whole
  pub read_good : (w : ℕ) → HasWord input line w → (line < max_lines) × (line * 9 + 9 ≤ length input) × (w ≡ word_at input line) × (is_good input line ≡ true)
  read_good w e =
      let told = demand_ok (is_good input line) bad_line (suc line) (word_at input line) w (sym e) in
      let good = good_line input line told.0 in
      (good.early, good.whole, sym told.1, told.0)

  pub read_next : (w : ℕ) (k : List ℕ) → max_lines ≤ length (words l) → HasWord input line w → length k ≡ length m → words k ≡ set (words m) line w
      → ReadTo input l k (line + 1)
  read_next w k room e size put =
      let got = read_good w e in
      let here : 0 + line ≡ line = omega arith in
      record {
        good = λ i h. go i h got.3;
        whole = omega arith;
        filled = filled_next s.filled got.0 room size (put ∙ ap (λ (j : ℕ). set (words m) j w) (sym here)) got.2 (ap (first_words input) (add-one line));
      }
    where
      go : (i : ℕ) → i < line + 1 → is_good input line ≡ true → is_good input i ≡ true
      go i h b = pick (ltb i line) refl
        where
          pick : (c : Bool) → ltb i line ≡ c → is_good input i ≡ true
          pick true e = s.good i (ltb-true i line e)
          pick false e =
              let same : i ≡ line = omega (arith, ltb-false i line e) in
              ap (is_good input) same ∙ b

  pub read_refused : line * 9 < length input → HasNone input line → (e : Refusal) → e.reason ≡ BadLine → e.place ≡ line + 1
      → LinesRead input (words l) (words m) (Err e)
  read_refused h none e reason place =
      let is : read_lines input ≡ refuse bad_line (suc line) =
      lines_refused input line s.good h (malformed_demanded (is_good input line) (suc line) (word_at input line) none) in
      let before : suc line - 1 ≡ line = omega arith in
      record {
        answers = (λ j. refuse (number_of (reason j)) (place j)) ∙ ap (refuse bad_line) (add-one line) ∙ sym (ap (told length) is);
        writes =
            s.filled.made ∙ ap (λ (k : ℕ). splice (words l) 0 (first_words input k)) (sym before)
            ∙ ap (λ (r : Res (List ℕ)). splice (words l) 0 (stored input r)) (sym is);
        known = reason;
        few = tt;
        near = omega (arith, s.filled.most);
      }

  pub read_end : length input ≡ line * 9 → (n : ℕ) → n ≡ line → LinesRead input (words l) (words m) (Ok n)
  read_end size n e =
      let is : read_lines input ≡ ok (first_words input line) = lines_all input line s.good size in
      record {
        answers = ap ok (e ∙ sym s.filled.count) ∙ sym (ap (told length) is);
        writes = s.filled.made ∙ ap (λ (r : Res (List ℕ)). splice (words l) 0 (stored input r)) (sym is);
        known = tt;
        few = omega (arith, s.filled.most);
        near = tt;
      }

first_two : (a b c d : Bool) → (a && b && c && d) ≡ true → (a ≡ true) × (b ≡ true)
first_two a b c d e =
    let two = and_left (a && b) c (and_left (a && b && c) d e) in
    (and_left a b two, and_right a b two)

-- a word is the line's own, and its tests held
word_demanded : (b : Bool) (p x w : ℕ) → ok w ≡ demand b bad_line p x → (b ≡ true) × (w ≡ x)
word_demanded true p x w e = (refl, cc)
word_demanded false p x w e = absurd (let z : ◌≡◌ {A = ℕ} 0 1 = cc in omega arith)
