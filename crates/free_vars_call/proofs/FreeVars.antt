-- The free variables of a flat rule's head, as a call: what is asked of the work, and what it gives. Assumes nothing.
use Prim.Native.Nat.{ℕ}
use mathlib.Core.Path.{◌≡◌, refl, sym, ◌∙◌, ap}
use mathlib.Core.Bool.{Bool, true}
use mathlib.Core.List.{List, [], ◌∷◌}
use lib.ListN.{length}
use Rattle.octets.specs.Words.{words}
use Rattle.rules.specs.Words.{scratch_words}
use Rattle.rules.specs.Refusals.{ok}
use Rattle.rules.specs.Signature.{Sig}
use Rattle.rules.specs.Flat.{FlatRule}
use Rattle.rules.specs.FreeVars.{get_free_vars}
use Rattle.rules.specs.Calls.{Result, whole_words, free_vars}
use Rattle.signature.specs.declared.Signature.{Signature}
use Rattle.free_vars.specs.Head.{Good, GoodUnder, WroteIfRoom}
use Rattle.meaning.proofs.SignatureLaws.{signature_sound}
use Rattle.answers.specs.declared.Answer.{Answer}
use Rattle.answers.specs.Answers.{Gives}
use Rattle.answers.proofs.Slices.{every_whole}
use Rattle.answers.proofs.Tests.{flat}
use Rattle.answers.proofs.Calls.{Given, Call, Answers, Whole, Ready, Bytes, Done}

abbrev result : Sig → FlatRule → Result
result s f = record { words = get_free_vars s f.actions; replacements = 0; passes = 0; counters = [] }

-- it asks for no scratch: as if there were enough
abbrev pub freeing : Given → Call FlatRule
freeing k =
    record {
      tests = flat (words k.signature) (words k.rule) scratch_words;
      make = λ s f. ok (result s f);
      lengths = length k.signature ∷ length k.rule ∷ length k.output ∷ [];
      output = k.output;
      counters = [];
    }

module _ (k : Given) where
  -- the call's answer is the definition's
  pub free_gives : {r : Answer} {m d : List ℕ} → Answers (freeing k) r m d → Gives (free_vars k.signature k.rule k.output) r m
  unfolding free_vars
  free_gives g = record { answer = g.answer; writes = g.writes }

  pub free_whole : {b : Bool} → b ≡ whole_words (freeing k).lengths → b ≡ true → Whole (freeing k)
  free_whole test h = record { all = sym test ∙ h; output = every_whole (freeing k).lengths (sym test ∙ h) 2; counters = refl }

  module _ {g : Signature} (y : Ready (freeing k) g) where
    pub good : Good y.sig (words k.rule) y.passed.rule
    good = record { few = (signature_sound (words k.signature) y.sig y.passed.signature).few_heads; read = y.passed.reads }

    pub globals : g.globals ≡ y.sig.globals
    globals = ap (λ (x : Signature). x.globals) y.told_of

    pub free_asks : GoodUnder (words k.rule) g.globals
    free_asks = record { some = record { sig = y.sig; rule = y.passed.rule; good = good }; globals = globals }

    abbrev pub free_done : {n : ℕ} {m : List ℕ}
        → ((s : Sig) (f : FlatRule) → g.globals ≡ s.globals → Good s (words k.rule) f → WroteIfRoom (get_free_vars s f.actions) n k.output m)
        → length m ≡ length k.output → Bytes k.output → Bytes m → Done y n 0 0 m
    free_done wrote size before after =
        record {
          result = result y.sig y.passed.rule;
          is = refl;
          wrote = wrote y.sig y.passed.rule globals good;
          replaced = refl;
          passed = refl;
          size = size;
          before = before;
          after = after;
        }
