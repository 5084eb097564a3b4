-- From the contract of `tulgarent_lower`, on the bytes that the program lends, to what its answer tells of `lower_all`. What is known of the bytes lent is
-- a record, `Cut`. Assumes nothing.
use mathlib.Core.Path.{◌≡◌, sym, ap, ◌∙◌, subst}
use mathlib.Core.Bool.{Bool, true, false≢true}
use mathlib.Core.List.{List, [], ◌∷◌, ◌++◌}
use Prim.Native.Nat.{ℕ, zero, suc, ◌-◌, ◌*◌, ◌/◌, ◌%◌, ◌<◌, min}
use native.Mathlib.Omega.{arith}
use lib.ListN.{length, take, drop, replicate, length-take}
use lib.Seq.{length-take-le}
use borrow.Author.Tests.{eq-eqb}
use borrow.Rule.Slice.PartMut.{mid_of, mid_len}
use Rattle.octets.specs.Words.{words, bytes_of}
use Rattle.octets.specs.Regions.{part}
use Rattle.octets.proofs.Words.{words_take}
use Rattle.rules.specs.Words.{max_lines, scratch_words}
use Rattle.rules.specs.Refusals.{Res, ok, refuse, ◌>>=◌, demand, ragged}
use Rattle.rules.specs.Signature.{elem}
use Rattle.rules.specs.Calls.{Result, Outcome, lower_words, whole_words, slices_whole, lower_res, outcome_of, lower}
use Rattle.rules.specs.Program.{signature_length, lower_all}
use Rattle.meaning.specs.Numbers.{lower_numbers}
use Rattle.meaning.proofs.Numbers.{lower_numbers_lem}
use Rattle.meaning.proofs.Results.{bind_ok}
use Rattle.meaning.proofs.Demand3Bytes.{lowered_words}
use Rattle.answers.specs.declared.Answer.{Answer}
use Rattle.answers.specs.Answers.{answer_of, GivesBoth}
use Rattle.lower.specs.Answers.{Tells}
use Rattle.lower.proofs.Cut.{Given, Cut}
use Rattle.lower.proofs.Cutting.{signature_cut, rule_cut, zeros_words}

-- ---- any call

-- a refusal's number is not 0
some_number : (n : ℕ) → elem n lower_numbers ≡ true → 0 < n
some_number zero e = absurd (false≢true e)
some_number (suc n) e = omega arith

module _ (sb rb cb ob : List ℕ) (sc : ℕ) {r : Answer} {m d : List ℕ} (g : GivesBoth (lower sb rb cb ob sc) r m d) where
  abbrev Comes : Res Result → Type 0
  Comes x = lower_res sb rb cb ob sc ≡ x

  outcome : {x : Res Result} → Comes x → lower sb rb cb ob sc ≡ outcome_of ob cb x
  unfolding lower
  outcome e = ap (outcome_of ob cb) e

  answer : {x : Res Result} → Comes x → r ≡ answer_of (outcome_of ob cb x)
  answer e = g.answer ∙ ap answer_of (outcome e)

  -- the words of the result are the first of the output
  first_words_lem : (o : Result) → Comes (ok o) → take (length o.words) (words m) ≡ o.words
  first_words_lem o e =
      let w = bind_ok (slices_whole (length sb ∷ length rb ∷ length cb ∷ length ob ∷ sc ∷ [])) _ o e in
      let writes : m ≡ bytes_of o.words ++ drop (4 * length o.words) ob = g.writes ∙ ap (λ (x : Outcome). x.output) (outcome e) in
      sym (words_take (length o.words) m) ∙ ap (λ (l : List ℕ). words (take (4 * length o.words) l)) writes
      ∙ lowered_words (words sb) (words rb) (words cb) ob (length ob / 4) (sc / 4) o w.2

  pub tells : (x : Res Result) → Comes x → Tells x r (words m)
  tells (ok o) e =
      let a = answer e in
      let count : r.words ≡ length o.words = ap (λ (y : Answer). y.words) a in
      let front = first_words_lem o e in
      let size : min (length o.words) (length (words m)) ≡ length o.words = sym (length-take (length o.words) (words m)) ∙ ap length front in
      record {
        fine = ap (λ (y : Answer). y.number) a;
        few = omega arith;
        words' = ap (λ (n : ℕ). take n (words m)) count ∙ front;
        replacements' = ap (λ (y : Answer). y.replacements) a;
        passes' = ap (λ (y : Answer). y.passes) a;
      }
  tells (refuse n p) e =
      let a = answer e in
      record {
        some = some_number n (lower_numbers_lem sb rb cb ob sc n p e);
        number' = ap (λ (y : Answer). y.number) a;
        place' = ap (λ (y : Answer). y.place) a;
      }

-- ---- the program's call

module _ {k : Given} (h : Cut k) where
  abbrev ws : List ℕ
  ws = part (words k.given) 0 k.count

  abbrev sb : List ℕ
  sb = take (4 * k.cut) k.given

  abbrev rb : List ℕ
  rb = mid_of (4 * k.cut) (4 * k.count - 4 * k.cut) k.given

  abbrev cb : List ℕ
  cb = take (4 * k.signature) k.counters

  abbrev lengths : List ℕ
  lengths = length sb ∷ length rb ∷ length cb ∷ length k.output ∷ length k.scratch ∷ []

  pub signature_lent : length sb ≡ 4 * k.cut
  signature_lent = length-take-le (4 * k.cut) k.given (omega (arith, h.inside, h.bytes))

  pub counters_lent : length cb ≡ 4 * k.signature
  counters_lent = length-take-le (4 * k.signature) k.counters h.counted

  whole : whole_words lengths ≡ true
  whole =
      let a = signature_lent in
      let b : length rb ≡ 4 * k.count - 4 * k.cut = mid_len (4 * k.cut) (4 * k.count) k.given (omega (arith, h.bytes)) in
      let c = counters_lent in
      let o = h.room in
      let s = h.work in
      rw (
        eq-eqb (length sb % 4) 0 (omega arith),
        eq-eqb (length rb % 4) 0 (omega arith),
        eq-eqb (length cb % 4) 0 (omega arith),
        eq-eqb (length k.output % 4) 0 (omega arith),
        eq-eqb (length k.scratch % 4) 0 (omega arith),
      )

  comes : lower_res sb rb cb k.output (length k.scratch) ≡ lower_all ws
  comes =
      let signature : words sb ≡ take (signature_length ws) ws =
      ap (λ (i : ℕ). words (take (4 * i) k.given)) h.here ∙ signature_cut k.given k.count k.signature h.all ∙ ap (λ (i : ℕ). take i ws) h.is in
      let rule : words rb ≡ drop (signature_length ws) ws =
      ap (λ (i : ℕ). words (mid_of (4 * i) (4 * k.count - 4 * i) k.given)) h.here ∙ rule_cut k.given k.count k.signature h.all
      ∙ ap (λ (i : ℕ). drop i ws) h.is in
      let counters : words cb ≡ replicate (signature_length ws) 0 =
      zeros_words k.counters max_lines k.signature h.zeros h.most ∙ ap (λ (i : ℕ). replicate i 0) h.is in
      let room : length k.output / 4 ≡ scratch_words = omega (arith, h.room) in
      let work : length k.scratch / 4 ≡ scratch_words = omega (arith, h.work) in
      ap (λ (t : Bool). ◌>>=◌ (demand t ragged 0 lengths) (λ ns. lower_words (words sb) (words rb) (words cb) (length k.output / 4) (length k.scratch / 4))) whole
      ∙ (λ i. lower_words (signature i) (rule i) (counters i) (room i) (work i))

  pub tells_all : {r : Answer} {m d : List ℕ} → GivesBoth (lower sb rb cb k.output (length k.scratch)) r m d → Tells (lower_all ws) r (words m)
  tells_all g = tells sb rb cb k.output (length k.scratch) g (lower_all ws) comes

  -- and of parts that are these
  pub tells_lent : {front rule : List ℕ} → front ≡ sb → rule ≡ rb → {r : Answer} {m d : List ℕ}
      → GivesBoth (lower front rule cb k.output (length k.scratch)) r m d → Tells (lower_all ws) r (words m)
  tells_lent {front} {rule} f e {r} {m} {d} g =
      tells_all
      (subst (λ (l : List ℕ). GivesBoth (lower l rb cb k.output (length k.scratch)) r m d) f
      (subst (λ (l : List ℕ). GivesBoth (lower front l cb k.output (length k.scratch)) r m d) e g))
