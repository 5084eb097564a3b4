-- What is lent are the signature, the rule and as many counters as the signature has words, and so its answer tells of lowering these. Assumes nothing.
use Prim.Native.Nat.{ℕ, ◌-◌, ◌*◌, min}
use mathlib.Core.Path.{◌≡◌, sym, ap, ◌∙◌, refl, subst}
use mathlib.Core.List.{List}
use native.Mathlib.Omega.{arith}
use lib.ListN.{length, take, drop, length-drop}
use lib.Seq.{take_all}
use borrow.Rule.Slice.PartMut.{mid_of}
use Rattle.octets.specs.Words.{words}
use Rattle.octets.specs.Regions.{part}
use Rattle.octets.proofs.Splice.{part_all}
use Rattle.rules.specs.Program.{signature_length, lower_all}
use Rattle.lower.specs.Answers.{Tells}
use Rattle.lower.proofs.Cut.{cut_there}
use Rattle.lower.proofs.Telling.{tells_lent}
use Rattle.lower.proofs.lower_words.Goals as goal

pub returns : goal.returns
returns c =
    let given = c.args.given.now in
    let r = c.requires in
    let parts = c.split_at.result in
    let signature = c.signature_length-signature.result in
    let count = length (words given) in
    let all : part (words given) 0 count ≡ words given = part_all (words given) in
    let is : signature ≡ signature_length (part (words given) 0 count) = c.signature_length-signature.ensures ∙ ap signature_length (sym all) in
    -- the words are cut where the bytes are
    let here : min (length given) (4 * signature) ≡ 4 * min signature count = omega (arith, r.whole_words.1) in
    let cut = cut_there (r.whole_words.0, omega arith) is refl r.zeros r.output_len in
    let front : parts.0.now ≡ take (4 * min signature count) given =
    c.split_at.ensures.front ∙ ap (λ n. take n given) (c.min.ensures ∙ here) in
    let behind = drop (4 * min signature count) given in
    let left : length behind ≡ length given - 4 * min signature count = length-drop (4 * min signature count) given in
    let rule : parts.1.now ≡ mid_of (4 * min signature count) (4 * count - 4 * min signature count) given =
    c.split_at.ensures.back ∙ ap (λ n. drop n given) (c.min.ensures ∙ here)
    ∙ sym (take_all (4 * count - 4 * min signature count) behind (omega (arith, left, r.whole_words.1))) in
    let told = tells_lent cut front rule c.tulgarent_lower.ensures.gives_both in
    subst (λ (l : List ℕ). Tells (lower_all l) c.tulgarent_lower.result (words c.tulgarent_lower.new.output)) all told
