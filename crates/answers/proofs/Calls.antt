-- What an exported call answers and leaves, by how far it came: whole slices, the tests in front, the work, room for the result. It is one definition for
-- the three calls, over the tests and over what is made of the rule that was read. `Whole`, `Ready` and `Done` say what is known at these places; the laws
-- of each say what the next step asks, and each way out. Assumes nothing.
use Prim.Native.Nat.{ℕ, ◌/◌, ◌%◌, ◌≤◌, ◌<◌}
use native.Mathlib.Omega.{arith}
use mathlib.Core.Path.{◌≡◌, refl, sym, ◌∙◌, ap}
use mathlib.Core.Bool.{Bool, true, false}
use mathlib.Core.List.{List}
use lib.ListN.{length, get_or}
use lib.Dec.{leb}
use borrow.Author.Tests.{leb-true, leb-false}
use Rattle.std.specs.Prelude as std
use Rattle.std.specs.Prelude.{Ok, Err}
use Rattle.std.specs.Result.{IsErrAnd}
use Rattle.std.proofs.lemmas.Result.{err_from_is_err_and}
use Rattle.octets.specs.Words.{words, bytes_of}
use Rattle.octets.proofs.Words.{length_words_kept}
use Rattle.rules.specs.Refusals.{Res, ok, refuse, ◌>>=◌, demand, short_output, ragged}
use Rattle.rules.specs.Signature.{Sig}
use Rattle.rules.specs.Calls.{Result, output_fits, whole_words, Outcome, outcome_of}
use Rattle.refusals.specs.Numbers.{number_of, said, told}
use Rattle.refusals.specs.declared.Reason.{Reason}
use Rattle.refusals.specs.declared.Refusal.{Refusal}
use Rattle.signature.specs.Signature.{sign_of}
use Rattle.signature.specs.declared.Signature.{Signature}
use Rattle.free_vars.specs.Head.{WroteIfRoom}
use Rattle.answers.specs.declared.Answer.{Answer}
use Rattle.answers.specs.declared.Counts.{Counts}
use Rattle.answers.specs.Answers.{refused_with, answered, answer_of, GivesBoth}
use Rattle.meaning.proofs.Results.{ok_inj}
use Rattle.answers.proofs.Tests.{Front, tested, front, Passed, Fate, fate}
use Rattle.answers.proofs.Ends.{ends_short, ends_written}

-- what is answered for a refusal that is made of a reason and a place
pub answered_at : {r : Refusal} {m : Reason} {p : ℕ} → (r.reason ≡ m) × (r.place ≡ p) → answered (Err r) ≡ refused_with (number_of m) p
answered_at is = λ i. refused_with (number_of (is.0 i)) (is.1 i)

-- and for one that a `?` passes on
pub answered_on : (r : std.Result Counts Refusal) (e : Refusal) → IsErrAnd r (λ (x : Refusal). x ≡ e) → answered r ≡ refused_with (number_of e.reason) e.place
answered_on r e h =
    let p = err_from_is_err_and r h in
    rw (p.1, p.2) refl

-- the bytes that a call is lent; those that it has no use for are none
pub record Given : Type 0 where
  pub signature : List ℕ
  pub rule : List ℕ
  pub counters : List ℕ
  pub output : List ℕ
  pub scratch : List ℕ

-- the tests in front, what is made of a rule, the lengths of all slices, and the bytes of output and counters
pub record Call (R : Type 0) : Type 0 where
  pub tests : Front R
  pub make : Sig → R → Res Result
  pub lengths : List ℕ
  pub output : List ℕ
  pub counters : List ℕ

module _ {R : Type 0} (k : Call R) where
  abbrev pub work : Sig → R → Res Result
  work s r = ◌>>=◌ (k.make s r) (output_fits (length k.output / 4))

  abbrev pub behind : Res Result
  behind = tested k.tests work (words k.counters)

  abbrev pub ending : Res Result
  ending = ◌>>=◌ (demand (whole_words k.lengths) ragged 0 k.lengths) (λ ns. behind)

  abbrev pub outcome : Res Result → Outcome
  outcome x = outcome_of k.output k.counters x

  -- what the contract says of an answer, and of the output and the counters after it
  abbrev pub Answers : Answer → (output counters : List ℕ) → Type 0
  Answers r m d = GivesBoth (outcome ending) r m d

  comes_to : {r : Answer} {m d : List ℕ} (x : Res Result) → ending ≡ x
      → r ≡ answer_of (outcome x) → m ≡ (outcome x).output → d ≡ (outcome x).counters → Answers r m d
  comes_to x e a w c =
      record {
        answer = a ∙ ap (λ (y : Res Result). answer_of (outcome y)) (sym e);
        writes = w ∙ ap (λ (y : Res Result). (outcome y).output) (sym e);
        counts = c ∙ ap (λ (y : Res Result). (outcome y).counters) (sym e);
      }

  -- b says whether all slices are whole words
  pub slices_ragged : {b : Bool} → b ≡ whole_words k.lengths → b ≡ false → {r : Answer} → r ≡ refused_with ragged 0 → Answers r k.output k.counters
  slices_ragged test h a = comes_to (refuse ragged 0) (ap (λ (c : Bool). ◌>>=◌ (demand c ragged 0 k.lengths) (λ ns. behind)) (sym test ∙ h)) a refl refl

-- ---- all slices are whole words

pub record Whole {R : Type 0} (k : Call R) : Type 0 where
  pub all : whole_words k.lengths ≡ true
  pub output : length k.output % 4 ≡ 0
  pub counters : length k.counters % 4 ≡ 0

-- ---- and the tests in front are passed: g tells of the signature

pub record Ready {R : Type 0} (k : Call R) (g : Signature) : Type 0 where
  pub whole : Whole k
  pub sig : Sig
  pub told_of : g ≡ sign_of sig
  pub passed : Passed k.tests (work k) (behind k) sig

module _ {R : Type 0} {k : Call R} (w : Whole k) where
  whole_is : ending k ≡ behind k
  whole_is = ap (λ (c : Bool). ◌>>=◌ (demand c ragged 0 k.lengths) (λ ns. behind k)) w.all

  pub front_refuses : {n p : ℕ} → refuse n p ≡ told sign_of (front k.tests) → {r : Answer} → r ≡ refused_with n p → Answers k r k.output k.counters
  front_refuses {n} {p} is {r} a = go (front k.tests) is (fate k.tests (work k) (words k.counters))
    where
      go : (x : Res Sig) → refuse n p ≡ told sign_of x → Fate k.tests (work k) (behind k) x → Answers k r k.output k.counters
      go (ok s) e z = cc
      go (refuse m q) e z = comes_to k (refuse n p) (whole_is ∙ z ∙ sym e') a refl refl
        where
          e' : ◌≡◌ {A = Res Result} (refuse n p) (refuse m q)
          e' = cc

  pub ready : {g : Signature} → ok g ≡ told sign_of (front k.tests) → Ready k g
  ready {g} is = go (front k.tests) is (fate k.tests (work k) (words k.counters))
    where
      go : (x : Res Sig) → ok g ≡ told sign_of x → Fate k.tests (work k) (behind k) x → Ready k g
      go (ok s) e z = record { whole = w; sig = s; told_of = ok_inj _ _ e; passed = z }
      go (refuse m q) e z = cc

module _ {R : Type 0} {k : Call R} {g : Signature} (y : Ready k g) where
  -- what is made of the rule that was read
  abbrev pub made : Res Result
  made = k.make y.sig y.passed.rule

  made_is : (x : Res Result) → made ≡ x → ending k ≡ ◌>>=◌ x (output_fits (length k.output / 4))
  made_is x e = whole_is y.whole ∙ y.passed.goes ∙ ap (λ (z : Res Result). ◌>>=◌ z (output_fits (length k.output / 4))) e

  pub work_refuses : {n p : ℕ} → made ≡ refuse n p → {r : Answer} {m d : List ℕ} → r ≡ refused_with n p → m ≡ k.output → d ≡ k.counters → Answers k r m d
  work_refuses {n} {p} e a w c = comes_to k (refuse n p) (made_is (refuse n p) e) a w c

-- the last test's answer is the counts, where there is room, and else the refusal
last_test : {c : Counts} {room : ℕ} (r : std.Result Counts Refusal) (P : Answer → Type 0) → said r ≡ demand (leb c.words room) short_output c.words c
    → (room < c.words → P (refused_with short_output c.words)) → (c.words ≤ room → P (answered (Ok c))) → P (answered r)
last_test {c} {room} r P is short fits = go (leb c.words room) refl r is
  where
    go : (b : Bool) → leb c.words room ≡ b → (x : std.Result Counts Refusal) → said x ≡ demand b short_output c.words c → P (answered x)
    go true e (Ok x) h = let same : x ≡ c = ok_inj _ _ h in rw same (fits (leb-true c.words room e))
    go true e (Err x) h = cc
    go false e (Ok x) h = cc
    go false e (Err x) h =
        let number : number_of x.reason ≡ short_output = cc in
        let place : x.place ≡ c.words = cc in
        rw (number, place) (short (leb-false c.words room e))

abbrev pub Bytes : List ℕ → Type 0
Bytes l = (i : ℕ) → get_or l i 0 < 256

-- ---- the work is done: the result has `needed` words, and the output has become m

pub record Done {R : Type 0} {k : Call R} {g : Signature} (y : Ready k g) (needed replacements passes : ℕ) (m : List ℕ) : Type 0 where
  pub result : Result
  pub is : made y ≡ ok result
  pub wrote : WroteIfRoom result.words needed k.output m
  pub replaced : replacements ≡ result.replacements
  pub passed : passes ≡ result.passes
  pub size : length m ≡ length k.output
  pub before : Bytes k.output
  pub after : Bytes m

module _ {R : Type 0} {k : Call R} {g : Signature} {y : Ready k g} {needed replacements passes : ℕ} {m : List ℕ} (d : Done y needed replacements passes m)
    {count : ℕ} (words_are : count ≡ length (words m)) where
  words_kept : count ≡ length (words k.output)
  words_kept = words_are ∙ length_words_kept _ _ d.size

  pub too_short : count < needed → {r : Answer} {c : List ℕ} → r ≡ refused_with short_output needed → c ≡ k.counters → Answers k r m c
  too_short l a c =
      let z = ends_short d.result needed k.output m d.wrote (omega (arith, words_kept)) in
      comes_to k (refuse short_output needed) (made_is y (ok d.result) d.is ∙ z.0) a z.1 c

  pub all_written : needed ≤ count → {c : List ℕ} → c ≡ bytes_of d.result.counters
      → Answers k (record { number = 0; place = 0; words = needed; replacements = replacements; passes = passes }) m c
  all_written l c =
      let z = ends_written d.result needed k.output m d.wrote (omega (arith, words_kept)) y.whole.output d.size d.before d.after in
      comes_to k (ok d.result) (made_is y (ok d.result) d.is ∙ z.0)
      (λ i. record { number = 0; place = 0; words = d.wrote.needed i; replacements = d.replaced i; passes = d.passed i }) z.1 c

  -- the last test's answer, r: where there is no room the counters are as they were, and else they are the result's
  pub ends_within : (r : std.Result Counts Refusal)
      → said r ≡ demand (leb needed count) short_output needed (record { words = needed; replacements = replacements; passes = passes })
      → {c : List ℕ} → (count < needed → c ≡ k.counters) → (needed ≤ count → c ≡ bytes_of d.result.counters) → Answers k (answered r) m c
  ends_within r is {c} short fits = last_test r (λ x. Answers k x m c) is (λ l. too_short l refl (short l)) (λ l. all_written l (fits l))
