-- Settling a flat rule, as a call: what is asked of the work, and what it gives. Assumes nothing.
use Prim.Native.Nat.{ℕ, ◌*◌, ◌/◌, ◌≤◌}
use native.Mathlib.Omega.{arith}
use mathlib.Core.Path.{◌≡◌, refl, sym, ◌∙◌, ap}
use mathlib.Core.Bool.{Bool, true}
use mathlib.Core.List.{List, [], ◌∷◌}
use lib.ListN.{length, take}
use Rattle.octets.specs.Words.{words}
use Rattle.octets.proofs.Words.{length_words}
use Rattle.rules.specs.Refusals.{Res, ok}
use Rattle.refusals.specs.Numbers.{told}
use Rattle.rules.specs.Signature.{Sig}
use Rattle.rules.specs.Flat.{FlatRule}
use Rattle.rules.specs.RemoveDupVars.{settle}
use Rattle.rules.specs.Calls.{Result, settled_result, whole_words, settled}
use Rattle.signature.specs.Signature.{sign_of}
use Rattle.signature.specs.declared.Signature.{Signature}
use Rattle.meaning.proofs.SignatureLaws.{signature_sound}
use Rattle.meaning.proofs.Encodable.{flat_encodable}
use Rattle.answers.specs.declared.Answer.{Answer}
use Rattle.answers.specs.declared.Counts.{Counts}
use Rattle.answers.specs.Answers.{scratch_flat, Gives}
use Rattle.answers.specs.Fronts.{flat_front}
use Rattle.settle_call.specs.Settle.{FlatUnder, SomeFlat, EndedWith}
use Rattle.answers.proofs.Slices.{every_whole}
use Rattle.answers.proofs.Tests.{flat, front}
use Rattle.answers.proofs.Lent.{Lent, lent_words}
use Rattle.answers.proofs.Calls.{Given, Call, Answers, Whole, Ready, Bytes, Done}

abbrev result : Sig → FlatRule → Result
result s f = settled_result (settle s f.atoms) f.actions []

abbrev pub settling : Given → Call FlatRule
settling k =
    record {
      tests = flat (words k.signature) (words k.rule) (length k.scratch / 4);
      make = λ s f. ok (result s f);
      lengths = length k.signature ∷ length k.rule ∷ length k.output ∷ length k.scratch ∷ [];
      output = k.output;
      counters = [];
    }

module _ (k : Given) where
  -- the call's answer is the definition's
  pub settle_gives : {r : Answer} {m d : List ℕ} → Answers (settling k) r m d → Gives (settled k.signature k.rule k.output (length k.scratch)) r m
  unfolding settled
  settle_gives g = record { answer = g.answer; writes = g.writes }

  -- the fourth slice is tested first
  pub settle_whole : {b : Bool} → b ≡ whole_words (settling k).lengths → b ≡ true → Whole (settling k)
  settle_whole test h = record { all = sym test ∙ h; output = every_whole (settling k).lengths (sym test ∙ h) 2; counters = refl }

  -- n words of scratch are counted
  pub settle_front : {n : ℕ} → n ≡ length (words k.scratch) → {x : Res Signature} → x ≡ told sign_of (flat_front (words k.signature) (words k.rule) n)
      → x ≡ told sign_of (front (settling k).tests)
  settle_front e is = is ∙ ap (λ (n : ℕ). told sign_of (flat_front (words k.signature) (words k.rule) n)) (e ∙ length_words k.scratch)

  module _ {g : Signature} (y : Ready (settling k) g) where
    pub under : FlatUnder (words k.rule) g y.sig y.passed.rule
    under =
        let p = y.passed in
        let sound = signature_sound (words k.signature) y.sig p.signature in
        record {
          same_heads = ap (λ (x : Signature). x.heads) y.told_of;
          same_globals = ap (λ (x : Signature). x.globals) y.told_of;
          same_equals = ap (λ (x : Signature). x.equals) y.told_of;
          few_heads = sound.few_heads;
          few_globals_lem = sound.few_globals_lem;
          known_equals = sound.value_eq_known;
          read = p.reads;
          fits = flat_encodable (words k.signature) (words k.rule) y.sig p.rule p.signature p.reads;
          short = p.short;
        }

    -- the scratch has a front of 16 words for each of the n words of the rule
    pub settle_lent : {n : ℕ} → n ≡ length (words k.rule) → Lent (scratch_flat k.rule) k.scratch (64 * n)
    settle_lent e =
        let p = y.passed in
        record { is = omega arith; inside = omega (arith, p.scratch, p.short); fits = omega (arith, p.short) }

    pub settle_asks : {cut : ℕ} → Lent (scratch_flat k.rule) k.scratch cut
        → SomeFlat (words k.rule) g × (16 * length (words k.rule) ≤ length (words (take cut k.scratch)))
    settle_asks l = (record { sig = y.sig; rule = y.passed.rule; under = under }, omega (arith, lent_words l))

    abbrev pub settle_done : {e : Counts} {m : List ℕ} → ((s : Sig) (f : FlatRule) → FlatUnder (words k.rule) g s f → EndedWith s f e k.output m)
        → length m ≡ length k.output → Bytes k.output → Bytes m
        → Done y e.words e.replacements e.passes m
    settle_done ends size before after =
        let z = ends y.sig y.passed.rule under in
        record {
          result = result y.sig y.passed.rule;
          is = refl;
          wrote = z.wrote;
          replaced = z.replacements;
          passed = z.passes;
          size = size;
          before = before;
          after = after;
        }
