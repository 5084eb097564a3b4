-- The program's text, by how far it came: a line refused, a rule refused, a result. What is known once a rule is lowered is a record, `Told`. Assumes
-- nothing.
use mathlib.Core.Path.{◌≡◌, refl, sym, ap, ◌∙◌, subst}
use mathlib.Core.List.{List}
use Prim.Native.Nat.{ℕ, ◌*◌, ◌≤◌}
use native.Mathlib.Omega.{arith}
use lib.ListN.{length, take, length-take}
use Rattle.streams.specs.Counts.{IsPrefixLen}
use Rattle.octets.specs.Words.{words}
use Rattle.octets.proofs.Words.{words_take}
use Rattle.octets.proofs.Splice.{take_splice_all}
use Rattle.rules.specs.Refusals.{Res, ok, refuse, ◌>>=◌}
use Rattle.rules.specs.Calls.{Result}
use Rattle.rules.specs.Program.{read_lines, lower_all, printed, program}
use Rattle.std.specs.Prelude.{Ok, Err}
use Rattle.refusals.specs.Numbers.{number_of}
use Rattle.refusals.specs.declared.Refusal.{Refusal}
use Rattle.lines.specs.Reading.{LinesRead, input_bytes}
use Rattle.lines.specs.Printing.{Wrote, accepted}
use Rattle.lines.proofs.Answers.{words_read, line_refused}
use Rattle.lines.proofs.Enough.{program_enough}
use Rattle.lines.proofs.Texts.{wrote_same, printed_accepted}
use Rattle.answers.specs.declared.Answer.{Answer}
use Rattle.lower.specs.Answers.{Tells}

-- what is printed, once the lines are read: n bytes of it turned l into m
by_lines : {l m : List ℕ} {n : ℕ} (input : List ℕ) (x : Res (List ℕ)) → read_lines input ≡ x → Wrote l 0 (printed (◌>>=◌ x lower_all)) m n
    → Wrote l 0 (program input) m n
unfolding program
by_lines input x e w = wrote_same (sym (ap (λ (y : Res (List ℕ)). printed (◌>>=◌ y lower_all)) e)) w

pub wrote_line : {input before after : List ℕ} {e : Refusal} {k : ℕ} → LinesRead input before after (Err e) → k ≡ number_of e.reason → {l m : List ℕ} {n : ℕ}
    → Wrote l 0 (printed (refuse k e.place)) m n → Wrote l 0 (program input) m n
wrote_line {input} {e = e} {k} told is w =
    by_lines input (refuse (number_of e.reason) e.place) (line_refused told) (wrote_same (ap (λ (j : ℕ). printed (refuse j e.place)) is) w)

-- ---- the lines are read as words, and the rule in them is lowered: the answer is a, and the words of its output are `output`

pub record Told (input : List ℕ) (a : Answer) (output : List ℕ) : Type 0 where
  pub given : List ℕ
  pub read : read_lines input ≡ ok given
  pub tells : Tells (lower_all given) a output

-- the words read are the first n of the bytes given
pub told : {input before : List ℕ} (given : List ℕ) {n : ℕ} → LinesRead input before (words given) (Ok n) → {a : Answer} {output : List ℕ}
    → Tells (lower_all (words (take (4 * n) given))) a output → Told input a output
told given {n} lines {a} {output} tells =
    record { given = _; read = words_read lines; tells = subst (λ (ws : List ℕ). Tells (lower_all ws) a output) (words_take n given) tells }

module _ {input : List ℕ} {a : Answer} {output : List ℕ} (t : Told input a output) where
  by_lowering : {l m : List ℕ} {n : ℕ} (x : Res Result) → lower_all t.given ≡ x → Wrote l 0 (printed x) m n → Wrote l 0 (program input) m n
  by_lowering x e w = by_lines input (ok t.given) t.read (wrote_same (ap printed (sym e)) w)

  pub wrote_refusal : (a.number ≡ 0 → ⊥) → {l m : List ℕ} {n : ℕ} → Wrote l 0 (printed (refuse a.number a.place)) m n → Wrote l 0 (program input) m n
  wrote_refusal h {l} {m} {n} w = go (lower_all t.given) refl t.tells
    where
      go : (x : Res Result) → lower_all t.given ≡ x → Tells x a output → Wrote l 0 (program input) m n
      go (ok o) e z = absurd (h z.fine)
      go (refuse k p) e z = by_lowering (refuse k p) e (wrote_same (λ i. printed (refuse (z.number' i) (z.place' i))) w)

  pub wrote_result : a.number ≡ 0 → {ws l m : List ℕ} {n : ℕ} → ws ≡ take a.words output → Wrote l 0 (printed (accepted ws a.replacements a.passes)) m n
      → Wrote l 0 (program input) m n
  wrote_result good {ws} {l} {m} {n} is w = go (lower_all t.given) refl t.tells
    where
      go : (x : Res Result) → lower_all t.given ≡ x → Tells x a output → Wrote l 0 (program input) m n
      go (ok o) e z = by_lowering (ok o) e (wrote_same ((λ i. printed (accepted ((is ∙ z.words') i) (z.replacements' i) (z.passes' i))) ∙ printed_accepted o) w)
      go (refuse k p) e z = absurd (omega (arith, z.some, z.number'))

  -- an accepted answer's words are there
  pub result_few : a.number ≡ 0 → a.words ≤ length output
  result_few good = go (lower_all t.given) t.tells
    where
      go : (x : Res Result) → Tells x a output → a.words ≤ length output
      go (ok o) z = z.few
      go (refuse k p) z = absurd (omega (arith, z.some, z.number'))

-- what `main` reads is enough: its first bytes print what the whole input prints
pub wrote_enough : {l m : List ℕ} {n : ℕ} (input : List ℕ) → Wrote l 0 (program (take input_bytes input)) m n → Wrote l 0 (program input) m n
wrote_enough input w = wrote_same (program_enough input) w

-- what was written lies within the text
pub with_count : {l m xs : List ℕ} {r : ℕ} → Wrote l 0 xs m r → length m ≡ length l → Wrote l 0 xs m r × IsPrefixLen r m
with_count {l} {m} {xs} {r} w e =
    let front : take r m ≡ xs = ap (take r) w.bytes ∙ take_splice_all l 0 xs r (omega arith) w.end in
    let size : r ≡ length (take r m) = omega (arith, w.end, ap length front) in
    (w, (bound r m size, size))
  where
    bound : (r : ℕ) (m : List ℕ) → r ≡ length (take r m) → r ≤ length m
    bound r m e = omega (arith, length-take r m)
