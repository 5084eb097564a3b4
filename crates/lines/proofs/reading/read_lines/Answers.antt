-- Reading all lines: those passed are good and their words are written, so the first that is malformed is the one that `read_lines` refuses. Assumes nothing.
use Prim.Native.Nat.{ℕ, suc, ◌+◌, ◌*◌, ◌/◌, ◌<◌, min}
use mathlib.Core.Path.{◌≡◌, sym, ap, ◌∙◌, subst}
use mathlib.Core.List.{List, ◌++◌}
use native.Mathlib.Omega.{arith}
use lib.ListN.{length, set, drop, length-drop}
use Rattle.std.specs.Prelude.{Result, Err, Option, Some, None}
use Rattle.std.specs.Option.{ok_or}
use Rattle.std.proofs.lemmas.Result.{err_from_is_err_and}
use Rattle.octets.specs.Words.{words}
use Rattle.octets.proofs.Filling.{filled_count}
use Rattle.rules.specs.Program.{line_at}
use Rattle.rules.specs.Refusals.{ok, refuse, bad_line}
use Rattle.refusals.specs.declared.Refusal.{Refusal}
use Rattle.lines.specs.Reading.{line_says}
use Rattle.lines.proofs.AllLines.{ReadTo, HasWord, HasNone, read_start, read_good, read_next, read_refused, read_end}
use Rattle.lines.proofs.Chunks.{Chunk, chunk_there, chunk_next, chunk_line}
use Rattle.lines.proofs.reading.read_lines.Goals as goal

pub loop-line-init : goal.loop-line-init
loop-line-init c =
    let e = c.enumerate-line-items.ensures in
    let is = c.into_iter-line-iterator.ensures.into_iter_gives in
    let text = ap (λ x. x.iter) is ∙ e.source in
    let first : c.into_iter-line-iterator.result.count ≡ 0 = ap (λ x. x.count) is ∙ e.count in (
      subst (ReadTo c.args.input.now c.args.out.now c.args.out.now) (sym first) (read_start _ _),
      ap (λ x. x.rest.now) text ∙ c.chunks.ensures.rest ∙ sym (ap (λ (k : ℕ). drop (k * 9) c.args.input.now) first),
      ap (λ x. x.size) text ∙ c.chunks.ensures.size,
    )

-- ---- a line

-- the chunk of this turn
chunk : {input rest x rest' : List ℕ} {k size : ℕ} → rest ≡ drop (k * 9) input → size ≡ 9 → rest ≡ x ++ rest'
    → length x ≡ min size (length rest) → 0 < length rest
    → Chunk input k rest x rest'
chunk {rest = rest} begins nine cut len some = record { begins = begins; cut = cut; size = len ∙ ap (λ (n : ℕ). min n (length rest)) nine; some = some }

-- what the chunk's answer says of the line
word_there : {input rest x rest' : List ℕ} {k line w : ℕ} {o : Option ℕ} → Chunk input k rest x rest' → line ≡ k
    → line_says o line ≡ line_at x 0 line → o ≡ Some w → HasWord input k w
word_there {x = x} {line = line} {w = w} here place says is =
    subst (λ (j : ℕ). ok w ≡ line_at x 0 j) place (sym (ap (λ (y : Option ℕ). line_says y line) is) ∙ says) ∙ chunk_line here

none_there : {input rest x rest' : List ℕ} {k line : ℕ} {o : Option ℕ} → Chunk input k rest x rest' → line ≡ k
    → line_says o line ≡ line_at x 0 line → o ≡ None → HasNone input k
none_there {x = x} {line = line} here place says is =
    subst (λ (j : ℕ). refuse bad_line (suc j) ≡ line_at x 0 j) place (sym (ap (λ (y : Option ℕ). line_says y line) is) ∙ says) ∙ chunk_line here

-- and its refusal is the one that was set up
refusal_is : {o : Option ℕ} {e r : Refusal} → Err e ≡ ok_or o r → o ≡ None → e ≡ r
refusal_is {r = r} value is = let z : ◌≡◌ {A = Result ℕ Refusal} (Err _) (Err r) = value ∙ ap (λ (y : Option ℕ). ok_or y r) is in cc

pub returns-in_err-w : goal.returns-in_err-w
returns-in_err-w c =
    let s = c.loop-line.invariant in
    let turn = c.in-Some.ensures.steps in
    let here = chunk s.1 s.2 turn.0.1.0 turn.0.1.1 turn.0.1.2 in
    let none = c.in_err-w.ensures.ok_part in
    let p = err_from_is_err_and c.from_residual.result c.from_residual.ensures.1 in
    let e = p.2 ∙ refusal_is c.in_err-w.ensures.value none in
    rw (p.1) (read_refused s.0 (chunk_there here) (none_there here turn.1 c.line_at.ensures none) p.0
    (ap (λ (x : Refusal). x.reason) e ∙ c.at.ensures.0) (ap (λ (x : Refusal). x.place) e ∙ c.at.ensures.1 ∙ ap (λ (k : ℕ). k + 1) turn.1))

pub put-requires : goal.put-requires
put-requires c =
    let s = c.loop-line.invariant in
    let turn = c.in-Some.ensures.steps in
    let here = chunk s.1 s.2 turn.0.1.0 turn.0.1.1 turn.0.1.2 in
    let good = read_good s.0 c.in_ok-w.w (word_there here turn.1 c.line_at.ensures c.in_ok-w.ensures.ok_part) in
    omega (arith, good.0, turn.1, filled_count s.0.filled, c.requires)

pub loop-line-preserved : goal.loop-line-preserved
loop-line-preserved c =
    let s = c.loop-line.invariant in
    let turn = c.in-Some.ensures.steps in
    let here = chunk s.1 s.2 turn.0.1.0 turn.0.1.1 turn.0.1.2 in
    let word = word_there here turn.1 c.line_at.ensures c.in_ok-w.ensures.ok_part in
    let good = read_good s.0 c.in_ok-w.w word in
    let put = c.put.ensures ∙ ap (λ (k : ℕ). set (words c.loop-line.out) k c.in_ok-w.w) turn.1 in
    let read = read_next s.0 c.in_ok-w.w c.put.new.s c.requires word c.put.auto.s put in (
      subst (ReadTo c.args.input.now c.args.out.now c.put.new.s) (sym turn.2) read,
      chunk_next here good.1 ∙ sym (ap (λ (k : ℕ). drop (k * 9) c.args.input.now) turn.2),
      turn.0.0 ∙ s.2,
    )

-- ---- all are read

pub returns : goal.returns
returns c =
    let s = c.loop-line.invariant in
    let step = c.in-None.ensures.steps in
    let rest : length (drop (c.loop-line.line-iterator.count * 9) c.args.input.now) ≡ 0 = sym (ap length s.1) ∙ step.0.1.0 in
    let size : length c.args.input.now ≡ c.loop-line.line-iterator.count * 9 =
    omega (arith, s.0.whole, rest, length-drop (c.loop-line.line-iterator.count * 9) c.args.input.now) in
    read_end s.0 size (length c.args.input.now / 9) (omega arith)
