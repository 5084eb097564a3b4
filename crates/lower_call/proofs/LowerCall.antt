-- Lowering a written rule, as a call: what is asked of the work, what it gives, and when the counters are used. Assumes nothing.
use Prim.Native.Nat.{ℕ, ◌*◌, ◌/◌, ◌≤◌}
use native.Mathlib.Omega.{arith}
use mathlib.Core.Path.{◌≡◌, refl, sym, ◌∙◌, ap}
use mathlib.Core.Bool.{Bool, true}
use mathlib.Core.List.{List, [], ◌∷◌}
use lib.ListN.{length, take}
use lib.Dec.{leb}
use borrow.Author.Tests.{leb-true}
use Rattle.octets.specs.Words.{words, bytes_of}
use Rattle.octets.proofs.Words.{bytes_words, words_injective, length_words, length_words_kept}
use Rattle.rules.specs.Refusals.{Res, ok, refuse, ◌>>=◌, demand, short_output}
use Rattle.rules.specs.Signature.{Sig, heads}
use Rattle.rules.specs.Written.{Rule}
use Rattle.rules.specs.ToCoreActions.{CoreRule, to_core_rule}
use Rattle.rules.specs.RemoveDupVars.{settle}
use Rattle.std.specs.Prelude.{Result as Outcome, Ok, Err}
use Rattle.refusals.specs.Numbers.{number_of}
use Rattle.refusals.specs.declared.Refusal.{Refusal}
use Rattle.rules.specs.Calls.{Result, settled_result, lower_rule, whole_words, lower}
use Rattle.refusals.specs.Numbers.{said, told}
use Rattle.signature.specs.Signature.{sign_of}
use Rattle.signature.specs.declared.Signature.{Signature}
use Rattle.answers.specs.declared.Answer.{Answer}
use Rattle.answers.specs.declared.Counts.{Counts}
use Rattle.answers.specs.Answers.{scratch_written, refused_with, answered, GivesBoth}
use Rattle.answers.specs.Fronts.{written_front}
use Rattle.lower_call.specs.Lower.{WrittenUnder, LowerAsks, LoweredTo, LowersTo, LowersRead}
use Rattle.answers.proofs.Slices.{every_whole}
use Rattle.answers.proofs.Tests.{written, front}
use Rattle.answers.proofs.Lent.{Lent, lent_words}
use Rattle.answers.proofs.Calls.{Given, Call, Answers, Whole, Ready, work_refuses, Done, Bytes, ends_within}

abbrev pub lowering : Given → Call Rule
lowering k =
    record {
      tests = written (words k.signature) (words k.rule) (length (words k.counters)) (length k.scratch / 4);
      make = λ s r. lower_rule s r (words k.counters);
      lengths = length k.signature ∷ length k.rule ∷ length k.counters ∷ length k.output ∷ length k.scratch ∷ [];
      output = k.output;
      counters = k.counters;
    }

module _ (k : Given) where
  -- the call's answer is the definition's
  pub lower_gives : {r : Answer} {m d : List ℕ} → Answers (lowering k) r m d
      → GivesBoth (lower k.signature k.rule k.counters k.output (length k.scratch)) r m d
  unfolding lower
  lower_gives g = g

  pub lower_whole : {b : Bool} → b ≡ whole_words (lowering k).lengths → b ≡ true → Whole (lowering k)
  lower_whole test h =
      let all = sym test ∙ h in
      record { all = all; output = every_whole (lowering k).lengths all 3; counters = every_whole (lowering k).lengths all 2 }

  -- m counters and n words of scratch are counted
  pub lower_front : {m n : ℕ} → m ≡ length (words k.counters) → n ≡ length (words k.scratch) → {x : Res Signature}
      → x ≡ told sign_of (written_front (words k.signature) (words k.rule) m n) → x ≡ told sign_of (front (lowering k).tests)
  lower_front {m} {n} em en is =
      is ∙ ap (λ (i : ℕ). told sign_of (written_front (words k.signature) (words k.rule) i n)) em
      ∙ ap (λ (i : ℕ). told sign_of (written_front (words k.signature) (words k.rule) (length (words k.counters)) i)) (en ∙ length_words k.scratch)

  module _ {g : Signature} (y : Ready (lowering k) g) where
    under : WrittenUnder (words k.signature) (words k.rule) g y.sig y.passed.rule
    under =
        record {
          signed = y.passed.signature;
          globals = ap (λ (x : Signature). x.globals) y.told_of;
          equals = ap (λ (x : Signature). x.equals) y.told_of;
          written = y.passed.reads;
          short = y.passed.short;
        }

    -- the scratch has a front of 32 words for each of the n words of the rule
    pub lower_lent : {n : ℕ} → n ≡ length (words k.rule) → Lent (scratch_written k.rule) k.scratch (128 * n)
    lower_lent e =
        let p = y.passed in
        record { is = omega arith; inside = omega (arith, p.scratch, p.short); fits = omega (arith, p.short) }

    pub lower_asks : {cut : ℕ} → Lent (scratch_written k.rule) k.scratch cut
        → LowerAsks (words k.signature) (words k.rule) g (words k.counters) (length (words (take cut k.scratch)))
    lower_asks l =
        record {
          sig = y.sig;
          rule = y.passed.rule;
          under = under;
          counters = leb-true (heads y.sig) (length (words k.counters)) y.passed.counters;
          scratch = omega (arith, lent_words l);
        }

    abbrev core : Res CoreRule
    core = to_core_rule y.sig y.passed.rule (words k.counters)

-- ---- the rule is lowered with the outcome w, which leaves the output m and the counters d

pub record Worked (k : Given) {g : Signature} (y : Ready (lowering k) g) (w : Outcome Counts Refusal) (m d : List ℕ) : Type 0 where
  pub lowers : LowersTo y.sig (core k y) (words k.counters) (words d) k.output m w
  pub output : length m ≡ length k.output
  pub counters : length d ≡ length k.counters
  pub output_before : Bytes k.output
  pub output_after : Bytes m
  pub counters_before : Bytes k.counters
  pub counters_after : Bytes d

module _ (k : Given) {g : Signature} (y : Ready (lowering k) g) where
  pub worked : {w : Outcome Counts Refusal} {m d : List ℕ}
      → LowersRead (words k.signature) (words k.rule) g (words k.counters) (words d) k.output m w
      → length m ≡ length k.output → length d ≡ length k.counters → Bytes k.output → Bytes m → Bytes k.counters → Bytes d → Worked k y w m d
  worked did em ed o m c d =
      record {
        lowers = did y.sig y.passed.rule (under k y);
        output = em;
        counters = ed;
        output_before = o;
        output_after = m;
        counters_before = c;
        counters_after = d;
      }

abbrev result_of : Sig → CoreRule → Result
result_of s c = settled_result (settle s c.body) c.head c.next

abbrev settles : Sig → Res CoreRule → Res Result
settles s x = ◌>>=◌ x (λ c. ok (result_of s c))

module _ {k : Given} {g : Signature} {y : Ready (lowering k) g} {m d : List ℕ} where
  -- counters with the same words are the same bytes
  unused : {w : Outcome Counts Refusal} → Worked k y w m d → words d ≡ words k.counters → d ≡ k.counters
  unused o e = words_injective d k.counters o.counters_after o.counters_before (omega (arith, o.counters, y.whole.counters)) y.whole.counters e

  pub rule_refused : {q : Refusal} → Worked k y (Err q) m d → {r : Answer} → r ≡ refused_with (number_of q.reason) q.place → Answers (lowering k) r m d
  rule_refused {q} o {r} a = go (core k y) refl o.lowers
    where
      go : (x : Res CoreRule) → core k y ≡ x → LowersTo y.sig x (words k.counters) (words d) k.output m (Err q) → Answers (lowering k) r m d
      go (ok c) e z = absurd z
      go (refuse n p) e z = work_refuses y (ap (settles y.sig) e) (a ∙ (λ i. refused_with (z.number' i) (z.place' i))) z.output (unused o z.counters)

  module _ {w : Counts} (o : Worked k y (Ok w) m d) where
    abbrev Accepted : Type 0
    Accepted = (c : CoreRule) × (core k y ≡ ok c) × LoweredTo y.sig c (words k.counters) (words d) k.output m w

    known : Accepted
    known = go (core k y) refl o.lowers
      where
        go : (x : Res CoreRule) → core k y ≡ x → LowersTo y.sig x (words k.counters) (words d) k.output m (Ok w) → Accepted
        go (ok c) e z = (c, e, z)
        go (refuse n p) e z = absurd z

    abbrev lower_done : Done y w.words w.replacements w.passes m
    lower_done =
        let z = known.2 in
        record {
          result = result_of y.sig known.0;
          is = ap (settles y.sig) known.1;
          wrote = z.wrote;
          replaced = z.replacements;
          passed = z.passes;
          size = o.output;
          before = o.output_before;
          after = o.output_after;
        }

    module _ {count : ℕ} (words_are : count ≡ length (words m)) where
      words_kept : count ≡ length (words k.output)
      words_kept = words_are ∙ length_words_kept _ _ o.output

      -- the last test's answer: the counters are used just if there is room for all of it
      pub lower_within : (r : Outcome Counts Refusal) → said r ≡ demand (leb w.words count) short_output w.words w → Answers (lowering k) (answered r) m d
      lower_within r is = ends_within lower_done words_are r is (λ l. unused o (known.2.uncounted (omega (arith, words_kept)))) used
        where
          used : w.words ≤ count → d ≡ bytes_of known.0.next
          used l = sym (bytes_words d o.counters_after (omega (arith, o.counters, y.whole.counters))) ∙ ap bytes_of (known.2.counted (omega (arith, words_kept)))
