-- A text is read as words exactly if it is these words printed: first for the digits of a word, then for a line, then for all lines. Assumes nothing.
use Prim.Native.Nat.{ℕ, zero, suc, ◌+◌, ◌*◌, ◌/◌, ◌%◌, ◌^◌, ◌≤◌, ◌<◌}
use native.Mathlib.Nat.{pow-suc, zero-add}
use native.Mathlib.Omega.{arith}
use mathlib.Core.Path.{◌≡◌, refl, sym, ap, ap₂, ◌∙◌, subst}
use mathlib.Core.Bool.{Bool, true}
use mathlib.Core.List.{List, [], ◌∷◌, ◌++◌, append_assoc, append-nil}
use lib.ListN.{length, get_or, take, drop, length-append, take-append-drop}
use lib.Dec.{ltb}
use lib.Seq.{take_at, drop_at, get_or_at}
use borrow.Author.Tests.{ltb-true, lt-ltb}
use Rattle.octets.specs.Regions.{part}
use Rattle.octets.proofs.Splice.{length_part, part_all, part_more, part_join}
use Rattle.rules.specs.Words.{max_lines}
use Rattle.rules.specs.Refusals.{ok, ◌>>=◌, demand, bad_line}
use Rattle.rules.specs.Flat.{words_of}
use Rattle.rules.specs.Program.{digit, are_digits, spelt, byte_of, hexadecimal, line_feed, word_line, line_at, lines_from, read_lines}
use Rattle.rules.proofs.Tests.{and_left, and_right}
use Rattle.rules.proofs.Digits.{byte_of_digit, digit_of_byte}
use Rattle.meaning.specs.Meaning.{All}
use Rattle.meaning.proofs.Lists.{all_left, all_right}
use Rattle.meaning.proofs.Results.{bind_ok, ok_inj, demand_ok}
use Rattle.lines.specs.Reading.{spelling}
use Rattle.lines.specs.RoundTrip.{TextOfWords}
use Rattle.lines.proofs.Spelling.{digits_append, spelt_snoc, line_spelt}
use Rattle.lines.proofs.AllLines.{word_at, is_good, Good, good_line}
use Rattle.lines.proofs.Texts.{length_hexadecimal}

abbrev Byte : ℕ → Type 0
Byte b = b < 256

abbrev Word : ℕ → Type 0
Word w = w < 2 ^ 32

-- ---- the digits of a word

-- what is printed of a number is digits, and they spell it
printed_spells : (n w : ℕ) → w < 16 ^ n → (are_digits (hexadecimal n w) ≡ true) × (spelt 0 (hexadecimal n w) ≡ w)
printed_spells zero w h = (refl, omega arith)
printed_spells (suc n) w h =
    let power : 16 ^ suc n ≡ 16 ^ n * 16 = pow-suc 16 n in
    let last : digit (byte_of (w % 16)) ≡ w % 16 = digit_of_byte (w % 16) (omega arith) in
    let low : digit (byte_of (w % 16)) < 16 = omega (arith, last) in
    let rest = printed_spells n (w / 16) (omega (arith, power)) in (
      digits_append (hexadecimal n (w / 16)) (byte_of (w % 16) ∷ []) ∙ rw (rest.0, lt-ltb (digit (byte_of (w % 16))) 16 low),
      spelt_snoc 0 (hexadecimal n (w / 16)) (byte_of (w % 16)) ∙ omega (arith, last, rest.1),
    )

-- digits behind a number of k digits: the number that they spell behind it prints as both
spelt_prints : (k n : ℕ) (bs : List ℕ) → All Byte bs → are_digits bs ≡ true → hexadecimal (length bs + k) (spelt n bs) ≡ hexadecimal k n ++ bs
spelt_prints k n [] f d = ap (λ (j : ℕ). hexadecimal j n) (zero-add k) ∙ sym (append-nil (hexadecimal k n))
spelt_prints k n (b ∷ bs) f d =
    let low : digit b < 16 = ltb-true (digit b) 16 (and_left (ltb (digit b) 16) (are_digits bs) d) in
    let high : (n * 16 + digit b) / 16 ≡ n = omega arith in
    let last : (n * 16 + digit b) % 16 ≡ digit b = omega arith in
    let one : hexadecimal (suc k) (n * 16 + digit b) ≡ hexadecimal k n ++ b ∷ [] =
    ap₂ (λ (x y : ℕ). hexadecimal k x ++ byte_of y ∷ []) high last ∙ ap (λ (c : ℕ). hexadecimal k n ++ c ∷ []) (byte_of_digit b f.0 low) in
    let more : suc (length bs) + k ≡ length bs + suc k = omega arith in
    ap (λ (j : ℕ). hexadecimal j (spelt (n * 16 + digit b) bs)) more
    ∙ spelt_prints (suc k) (n * 16 + digit b) bs f.1 (and_right (ltb (digit b) 16) (are_digits bs) d)
    ∙ ap (λ (l : List ℕ). l ++ bs) one ∙ append_assoc (hexadecimal k n) (b ∷ []) bs

-- and it has no more digits than both
spelt_fits : (k n : ℕ) (bs : List ℕ) → are_digits bs ≡ true → n < 16 ^ k → spelt n bs < 16 ^ (length bs + k)
spelt_fits k n [] d h = subst (λ (j : ℕ). n < 16 ^ j) (sym (zero-add k)) h
spelt_fits k n (b ∷ bs) d h =
    let low : digit b < 16 = ltb-true (digit b) 16 (and_left (ltb (digit b) 16) (are_digits bs) d) in
    let power : 16 ^ suc k ≡ 16 ^ k * 16 = pow-suc 16 k in
    let more : length bs + suc k ≡ suc (length bs) + k = omega arith in
    subst (λ (j : ℕ). spelt (n * 16 + digit b) bs < 16 ^ j) more
    (spelt_fits (suc k) (n * 16 + digit b) bs (and_right (ltb (digit b) 16) (are_digits bs) d) (omega (arith, power)))

-- ---- a line

all_part : (l : List ℕ) (p n : ℕ) → All Byte l → All Byte (part l p n)
all_part l p n f =
    let behind : All Byte (drop p l) = all_right Byte (take p l) (drop p l) (subst (All Byte) (sym (take-append-drop p l)) f) in
    all_left Byte (part l p n) (drop n (drop p l)) (subst (All Byte) (sym (take-append-drop n (drop p l))) behind)

-- a good line is the one that is printed for its word, which has 32 bits
module _ (input : List ℕ) (line : ℕ) (g : Good input line) where
  abbrev bytes : List ℕ
  bytes = part input (line * 9) 8

  eight_read : length bytes + 0 ≡ 8
  eight_read = omega (arith, length_part input (line * 9) 8 (omega (arith, g.whole)))

  read_line : All Byte input → part input (line * 9) 9 ≡ word_line (word_at input line)
  read_line f =
      let digits : hexadecimal 8 (spelt 0 bytes) ≡ bytes =
      ap (λ (n : ℕ). hexadecimal n (spelt 0 bytes)) (sym eight_read) ∙ spelt_prints 0 0 bytes (all_part input (line * 9) 8 f) g.digits in
      part_more input (line * 9) 8 (omega (arith, g.whole)) ∙ ap₂ (λ (l : List ℕ) (b : ℕ). l ++ b ∷ []) (sym digits) g.ended

  read_fits : Word (word_at input line)
  read_fits = subst (λ (n : ℕ). word_at input line < 16 ^ n) eight_read (spelt_fits 0 0 bytes g.digits (omega arith))

length_line : (w : ℕ) → length (word_line w) ≡ 9
length_line w = length-append (hexadecimal 8 w) (line_feed ∷ []) ∙ omega (arith, length_hexadecimal 8 w)

-- the line that is printed for a word has that word, wherever it stands
module _ (xs ys : List ℕ) (line w : ℕ) (behind : length xs ≡ line * 9) (early : line < max_lines) (fits : Word w) where
  abbrev text : List ℕ
  text = xs ++ (word_line w ++ ys)

  digits_first : text ≡ xs ++ (hexadecimal 8 w ++ (line_feed ∷ ys))
  digits_first = ap (λ (l : List ℕ). xs ++ l) (append_assoc (hexadecimal 8 w) (line_feed ∷ []) ys)

  eight : part text (line * 9) 8 ≡ hexadecimal 8 w
  eight =
      ap (λ (l : List ℕ). part l (line * 9) 8) digits_first
      ∙ ap (take 8) (drop_at xs (hexadecimal 8 w ++ (line_feed ∷ ys)) (line * 9) behind)
      ∙ take_at (hexadecimal 8 w) (line_feed ∷ ys) 8 (length_hexadecimal 8 w)

  ended : get_or text (line * 9 + 8) 0 ≡ line_feed
  ended =
      let before : length (xs ++ hexadecimal 8 w) ≡ line * 9 + 8 = length-append xs (hexadecimal 8 w) ∙ omega (arith, behind, length_hexadecimal 8 w) in
      ap (λ (l : List ℕ). get_or l (line * 9 + 8) 0) (digits_first ∙ sym (append_assoc xs (hexadecimal 8 w) (line_feed ∷ ys)))
      ∙ get_or_at (xs ++ hexadecimal 8 w) line_feed ys 0 (line * 9 + 8) before

  long : line * 9 + 9 ≤ length text
  long = omega (arith, length-append xs (word_line w ++ ys), length-append (word_line w) ys, behind, length_line w)

  print_line : line_at text (line * 9) line ≡ ok w
  print_line =
      let spells = printed_spells 8 w fits in
      sym (line_spelt text (line * 9) line early long ended) ∙ ap (λ (bs : List ℕ). spelling bs line) eight
      ∙ ap₂ (λ (t : Bool) (v : ℕ). demand t bad_line (suc line) v) spells.0 spells.1

-- ---- all lines

-- n lines from a place on are read as ws: they are there and are read, there is a word for each, and they are those printed for these words
record ReadAs (input : List ℕ) (n line : ℕ) (ws : List ℕ) : Type 0 where
  whole : (line + n) * 9 ≤ length input
  early : line + n ≤ max_lines
  each : length ws ≡ n
  fit : All Word ws
  printed : part input (line * 9) (n * 9) ≡ words_of word_line ws

read_lines_lem : (input : List ℕ) (n line : ℕ) (ws : List ℕ) → All Byte input → line * 9 ≤ length input → line ≤ max_lines → lines_from input n line ≡ ok ws
    → ReadAs input n line ws
read_lines_lem input zero line ws f h k e =
    subst (ReadAs input 0 line) (ok_inj [] ws e) (record { whole = omega arith; early = omega arith; each = refl; fit = tt; printed = refl })
read_lines_lem input (suc n) line ws f h k e =
    let one = bind_ok (line_at input (line * 9) line) (λ (w : ℕ). ◌>>=◌ (lines_from input n (suc line)) (λ (vs : List ℕ). ok (w ∷ vs))) ws e in
    let others = bind_ok (lines_from input n (suc line)) (λ (vs : List ℕ). ok (one.0 ∷ vs)) ws one.2 in
    let told = demand_ok (is_good input line) bad_line (suc line) (word_at input line) one.0 one.1 in
    let good = good_line input line told.0 in
    let rest = read_lines_lem input n (suc line) others.0 f (omega (arith, good.whole)) (omega (arith, good.early)) others.1 in
    let size : suc n * 9 ≡ 9 + n * 9 = omega arith in
    let next : line * 9 + 9 ≡ suc line * 9 = omega arith in
    subst (ReadAs input (suc n) line) (ok_inj (one.0 ∷ others.0) ws others.2)
    (record {
      whole = omega (arith, rest.whole);
      early = omega (arith, rest.early);
      each = ap suc rest.each;
      fit = (subst Word told.1 (read_fits input line good), rest.fit);
      printed =
          ap (part input (line * 9)) size ∙ part_join input (line * 9) 9 (n * 9)
          ∙ ap₂ ◌++◌ (read_line input line good f ∙ ap word_line told.1) (ap (λ (p : ℕ). part input p (n * 9)) next ∙ rest.printed);
    })

-- the lines printed for words, behind others, are read as these words
print_lines : (ws xs : List ℕ) (line : ℕ) → length xs ≡ line * 9 → line + length ws ≤ max_lines → All Word ws
    → lines_from (xs ++ words_of word_line ws) (length ws) line ≡ ok ws
print_lines [] xs line at h f = refl
print_lines (w ∷ ws) xs line at h f =
    let text = xs ++ (word_line w ++ words_of word_line ws) in
    let next : length (xs ++ word_line w) ≡ suc line * 9 = length-append xs (word_line w) ∙ omega (arith, at, length_line w) in
    let rest : lines_from text (length ws) (suc line) ≡ ok ws =
    ap (λ (l : List ℕ). lines_from l (length ws) (suc line)) (sym (append_assoc xs (word_line w) (words_of word_line ws)))
    ∙ print_lines ws (xs ++ word_line w) (suc line) next (omega arith) f.1 in
    rw (print_line xs (words_of word_line ws) line w at (omega arith) f.0, rest)

length_lines : (ws : List ℕ) → length (words_of word_line ws) ≡ length ws * 9
length_lines [] = refl
length_lines (w ∷ ws) = length-append (word_line w) (words_of word_line ws) ∙ omega (arith, length_line w, length_lines ws)

pub text_of_words : TextOfWords
text_of_words input ws given = (reads, prints)
  where
    reads : read_lines input ≡ ok ws → (length ws ≤ max_lines) × All Word ws × (input ≡ words_of word_line ws)
    reads e =
        let got = read_lines_lem input ((length input + 8) / 9) 0 ws given (omega arith) (omega arith) e in
        let all : (length input + 8) / 9 * 9 ≡ length input = omega (arith, got.whole) in
        (omega (arith, got.early, got.each), got.fit, sym (part_all input) ∙ ap (part input 0) (sym all) ∙ got.printed)

    prints : (length ws ≤ max_lines) × All Word ws × (input ≡ words_of word_line ws) → read_lines input ≡ ok ws
    prints h =
        let size : (length input + 8) / 9 ≡ length ws = omega (arith, ap length h.2, length_lines ws) in
        ap₂ (λ (l : List ℕ) (n : ℕ). lines_from l n 0) h.2 size ∙ print_lines ws [] 0 refl (omega (arith, h.0)) h.1
