-- The program prints a line that is refused, a rule that is refused, or a result, and each is what `program` prints of the bytes read. Assumes nothing.
use Prim.Native.Nat.{ℕ, ◌*◌, ◌≤◌}
use mathlib.Core.Path.{◌≡◌, sym, ap, ◌∙◌}
use mathlib.Core.List.{List}
use lib.Seq.{length-take-le}
use lib.ListN.{length, take, replicate, get_or, get_or-replicate}
use native.Mathlib.Omega.{arith}
use Rattle.octets.specs.Words.{words}
use Rattle.octets.proofs.Words.{length_words, words_take}
use Rattle.answers.specs.declared.Answer.{Answer}
use Rattle.lower.specs.Room.{Zeros}
use Rattle.lower.proofs.Whole.{wrote_line, Told, told, wrote_refusal, wrote_result, result_few, with_count}
use Rattle.lower.proofs.print_program.Goals as goal

pub read_lines-requires : goal.read_lines-requires
read_lines-requires c = omega (arith, c.filled-given.ensures.len, length_words c.filled-given.result)

pub returns-in-Err : goal.returns-in-Err
returns-in-Err c =
    let h = with_count (wrote_line c.in-Err.ensures c.number.ensures c.print_refused.ensures) c.print_refused.auto.text in
    record { wrote = h.0; prefix_len = h.1 }

-- ---- the lines are read

-- the counters begin at zero
zeros : (n : ℕ) (l : List ℕ) → n ≡ length l → l ≡ replicate n 0 → Zeros n l
zeros n l size is = record { size = omega arith; zeros = λ i h. ap (λ xs. get_or xs i 0) is ∙ get_or-replicate n i 0 0 h }

-- whole words, taken from the front
module _ (n : ℕ) (l : List ℕ) (h : 4 * n ≤ length l) where
  bytes : length (take (4 * n) l) ≡ 4 * n
  bytes = length-take-le (4 * n) l h

  count : length (words (take (4 * n) l)) ≡ n
  count = omega (arith, bytes, length_words (take (4 * n) l))

pub slice_bounds-lower_words-end : goal.slice_bounds-lower_words-end
slice_bounds-lower_words-end c =
    sym (bytes c.in-Ok.count c.read_lines.new.out (omega (arith, c.in-Ok.ensures.few, c.read_lines.auto.out, c.filled-given.ensures.len)))

pub lower_words-answer-requires : goal.lower_words-answer-requires
lower_words-answer-requires c =
    let n = c.in-Ok.count in
    let given = c.read_lines.new.out in
    let room : 4 * n ≤ length given = omega (arith, c.in-Ok.ensures.few, c.read_lines.auto.out, c.filled-given.ensures.len) in
    record {
      whole_words = (omega (arith, count n given room, c.in-Ok.ensures.few), omega (arith, bytes n given room, count n given room));
      zeros = zeros 18448 c.filled-counters.result c.filled-counters.ensures.len c.filled-counters.ensures.bytes;
      output_len = (omega (arith, c.filled-output.ensures.len), omega (arith, c.filled-scratch.ensures.len));
    }

pub returns-then-answer-ne0 : goal.returns-then-answer-ne0
returns-then-answer-ne0 c =
    let rule = told c.read_lines.new.out c.in-Ok.ensures c.lower_words-answer.ensures in
    let p = c.print_refused-then-answer-ne0 in
    let h = with_count (wrote_refusal rule c.if-answer-ne0.true p.ensures) p.auto.text in
    record { wrote = h.0; prefix_len = h.1 }

-- ---- it is accepted

-- its words lie in the output
room : {input : List ℕ} (output : List ℕ) {a : Answer} → Told input a (words output) → a.number ≡ 0 → 4 * a.words ≤ length output
room output rule good = omega (arith, result_few rule good, length_words output)

pub overflow_mul-output : goal.overflow_mul-output
overflow_mul-output c =
    let rule = told c.read_lines.new.out c.in-Ok.ensures c.lower_words-answer.ensures in
    omega (arith, room c.lower_words-answer.new.output rule c.if-answer-ne0.false, c.lower_words-answer.auto.output, c.filled-output.ensures.len)

pub slice_bounds-output-end : goal.slice_bounds-output-end
slice_bounds-output-end c = room c.lower_words-answer.new.output (told c.read_lines.new.out c.in-Ok.ensures c.lower_words-answer.ensures) c.if-answer-ne0.false

pub slice_bounds-print_ok-end : goal.slice_bounds-print_ok-end
slice_bounds-print_ok-end c =
    let rule = told c.read_lines.new.out c.in-Ok.ensures c.lower_words-answer.ensures in
    sym (bytes c.lower_words-answer.result.words c.lower_words-answer.new.output (room c.lower_words-answer.new.output rule c.if-answer-ne0.false))

pub print_ok-requires : goal.print_ok-requires
print_ok-requires c =
    let rule = told c.read_lines.new.out c.in-Ok.ensures c.lower_words-answer.ensures in
    let output = c.lower_words-answer.new.output in
    let fits = room c.lower_words-answer.new.output rule c.if-answer-ne0.false in
    omega (arith, c.requires, c.filled-output.ensures.len, c.lower_words-answer.auto.output, fits, count c.lower_words-answer.result.words output fits)

pub returns : goal.returns
returns c =
    let rule = told c.read_lines.new.out c.in-Ok.ensures c.lower_words-answer.ensures in
    let front = words_take c.lower_words-answer.result.words c.lower_words-answer.new.output in
    let h = with_count (wrote_result rule c.if-answer-ne0.false front c.print_ok.ensures) c.print_ok.auto.text in
    record { wrote = h.0; prefix_len = h.1 }
