-- The tests before the work, in the order of 01: signature, counters, scratch, length, record. They are one definition for the three calls, over how a
-- rule is read and which signatures have counters enough. `Reached` says what is left of them at a place of the code, `Passed` what is known behind all
-- of them. Assumes nothing.
use Prim.Native.Nat.{ℕ, ◌≤◌}
use mathlib.Core.Path.{◌≡◌, refl, sym, ◌∙◌, ap}
use mathlib.Core.Bool.{Bool, true, false, ◌&&◌}
use mathlib.Core.List.{List}
use lib.ListN.{length}
use native.Mathlib.Omega.{arith}
use lib.Dec.{leb}
use borrow.Author.Tests.{le-leb, leb-true}
use Rattle.rules.specs.Words.{limit12, max_flat, max_written, scratch_words}
use Rattle.rules.specs.Refusals.{Res, ok, refuse, ◌>>=◌, demand, few_counters, small_scratch, bad_length}
use Rattle.rules.specs.Signature.{Sig, heads, read_signature}
use Rattle.rules.specs.Written.{Rule, read_written}
use Rattle.rules.specs.Flat.{FlatRule, read_flat}
use Rattle.signature.specs.Signature.{sign_of}
use Rattle.signature.specs.declared.Signature.{Signature}
use Rattle.refusals.specs.Numbers.{told}
use Rattle.answers.specs.Fronts.{sizes_fit}
use Rattle.written.specs.Written.{with_heads, whole_of}
use Rattle.records.proofs.WrittenWhole.{written_with}
use Rattle.records.proofs.FlatWhole.{flat_with}
use Rattle.meaning.proofs.Lists.{and_right}
use Rattle.meaning.proofs.Results.{ok_inj}
use Rattle.meaning.proofs.SignatureLaws.{signature_sound}

-- ---- the tests

-- how a rule is read, by the number of heads alone; which signatures have counters enough; the words; how many counters and words of scratch there are
pub record Front (R : Type 0) : Type 0 where
  pub read : Sig → List ℕ → Res R
  pub by_heads : (s : Sig) (ws : List ℕ) → heads s ≤ limit12 → read (with_heads (heads s)) ws ≡ read s ws
  pub most : ℕ
  pub counted : Sig → Bool
  pub signature : List ℕ
  pub rule : List ℕ
  pub counters : ℕ
  pub scratch : ℕ

-- settling and free variables ask for no counters: as if there were enough
abbrev pub flat : (signature rule : List ℕ) → (scratch : ℕ) → Front FlatRule
flat sw rw n =
    record {
      read = read_flat;
      by_heads = flat_with;
      most = max_flat;
      counted = λ s. true;
      signature = sw;
      rule = rw;
      counters = 0;
      scratch = n;
    }

abbrev pub written : (signature rule : List ℕ) → (counters scratch : ℕ) → Front Rule
written sw rw m n =
    record {
      read = read_written;
      by_heads = written_with;
      most = max_written;
      counted = λ s. leb (heads s) m;
      signature = sw;
      rule = rw;
      counters = m;
      scratch = n;
    }

module _ {R : Type 0} (f : Front R) where
  abbrev pub roomy : Bool
  roomy = leb scratch_words f.scratch

  abbrev pub fits : Bool
  fits = leb 1 (length f.rule) && leb (length f.rule) f.most

  -- the tests behind the signature, by how they come out, and then k
  abbrev pub after : {A C : Type 0} → (Sig → R → Res A) → C → Sig → (counters scratch long : Bool) → Res R → Res A
  after k c s a b l x =
      ◌>>=◌ (demand a few_counters 0 c)
      (λ q. ◌>>=◌ (demand b small_scratch 0 f.scratch) (λ n. ◌>>=◌ (demand l bad_length 0 (length f.rule)) (λ m. ◌>>=◌ x (k s))))

  abbrev pub tested : {A C : Type 0} → (Sig → R → Res A) → C → Res A
  tested k c = ◌>>=◌ (read_signature f.signature) (λ s. after k c s (f.counted s) roomy fits (f.read s f.rule))

  abbrev pub signed : Sig → R → Res Sig
  signed s r = ok s

  -- the signature that they leave
  abbrev pub front : Res Sig
  front = tested signed f.counters

  -- what is left of that behind the signature s
  abbrev pub left : (counters scratch long : Bool) → Sig → Res Sig
  left a b l s = after signed f.counters s a b l (f.read s f.rule)

-- ---- behind all of them: the signature s and a rule were read, and y is what k makes of them

pub record Passed {R A : Type 0} (f : Front R) (k : Sig → R → Res A) (y : Res A) (s : Sig) : Type 0 where
  pub rule : R
  pub signature : read_signature f.signature ≡ ok s
  pub counters : f.counted s ≡ true
  pub scratch : scratch_words ≤ f.scratch
  pub short : length f.rule ≤ f.most
  pub reads : f.read s f.rule ≡ ok rule
  pub goes : y ≡ k s rule

-- where the tests refuse, so does all that comes behind them
abbrev pub Fate : {R A : Type 0} → Front R → (Sig → R → Res A) → Res A → Res Sig → Type 0
Fate f k y (ok s) = Passed f k y s
Fate f k y (refuse n p) = y ≡ refuse n p

module _ {R A C : Type 0} (f : Front R) (k : Sig → R → Res A) (c : C) where
  fate_after : (s : Sig) → read_signature f.signature ≡ ok s → (a b l : Bool) → f.counted s ≡ a → roomy f ≡ b → fits f ≡ l
      → (x : Res R) → f.read s f.rule ≡ x → Fate f k (after f k c s a b l x) (after f (signed f) f.counters s a b l x)
  fate_after s e false b l ea eb el x r = refl
  fate_after s e true false l ea eb el x r = refl
  fate_after s e true true false ea eb el x r = refl
  fate_after s e true true true ea eb el (refuse n p) r = refl
  fate_after s e true true true ea eb el (ok v) r =
      record {
        rule = v;
        signature = e;
        counters = ea;
        scratch = leb-true scratch_words f.scratch eb;
        short = leb-true (length f.rule) f.most (and_right (leb 1 (length f.rule)) (leb (length f.rule) f.most) el);
        reads = r;
        goes = refl;
      }

  pub fate : Fate f k (tested f k c) (front f)
  fate = go (read_signature f.signature) refl
    where
      go : (x : Res Sig) → read_signature f.signature ≡ x
          → Fate f k (◌>>=◌ x (λ s. after f k c s (f.counted s) (roomy f) (fits f) (f.read s f.rule))) (◌>>=◌ x (λ s. left f (f.counted s) (roomy f) (fits f) s))
      go (refuse n p) e = refl
      go (ok s) e = fate_after s e (f.counted s) (roomy f) (fits f) refl refl refl (f.read s f.rule) refl

-- ---- at a place of the code: r tells of the signature, and these tests are left

pub record Reached {R : Type 0} (f : Front R) (r : Signature) (rest : Sig → Res Sig) : Type 0 where
  pub sig : Sig
  pub signature : read_signature f.signature ≡ ok sig
  pub told_of : r ≡ sign_of sig
  pub is : front f ≡ rest sig

module _ {R : Type 0} (f : Front R) where
  -- what the code answers
  abbrev pub Told : Res Signature → Type 0
  Told x = x ≡ told sign_of (front f)

  abbrev pub from_counters : Sig → Res Sig
  from_counters s = left f (f.counted s) (roomy f) (fits f) s

  abbrev pub from_sizes : Sig → Res Sig
  from_sizes = left f true (roomy f) (fits f)

  abbrev pub from_record : Sig → Res Sig
  from_record = left f true true true

  pub good_signature : {r : Signature} → ok r ≡ told sign_of (read_signature f.signature) → Reached f r from_counters
  good_signature {r} e = go (read_signature f.signature) refl e
    where
      go : (x : Res Sig) → read_signature f.signature ≡ x → ok r ≡ told sign_of x → Reached f r from_counters
      go (ok s) is e = record { sig = s; signature = is; told_of = ok_inj _ _ e; is = ap (λ (x : Res Sig). ◌>>=◌ x from_counters) is }
      go (refuse m q) is e = cc

module _ {R : Type 0} {f : Front R} {r : Signature} where
  -- a test passes
  pass : {rest : Sig → Res Sig} (h : Reached f r rest) {next : Sig → Res Sig} → rest h.sig ≡ next h.sig → Reached f r next
  pass h e = record { sig = h.sig; signature = h.signature; told_of = h.told_of; is = h.is ∙ e }

  module _ (h : Reached f r (from_counters f)) where
    pub many_counters : f.counted h.sig ≡ true → Reached f r (from_sizes f)
    many_counters e = pass h (ap (λ (b : Bool). left f b (roomy f) (fits f) h.sig) e)

  module _ (h : Reached f r (from_sizes f)) where
    pub good_sizes : ok (tt {0}) ≡ sizes_fit f.most f.rule f.scratch → Reached f r (from_record f)
    good_sizes e = pass h (go (roomy f) (fits f) e)
      where
        go : (b l : Bool) → ok (tt {0}) ≡ ◌>>=◌ (demand b small_scratch 0 f.scratch) (λ m. ◌>>=◌ (demand l bad_length 0 (length f.rule)) (λ k. ok (tt {0})))
            → left f true b l h.sig ≡ left f true true true h.sig
        go true true e = refl
        go true false e = cc
        go false l e = cc

  module _ (h : Reached f r (from_record f)) where
    by_heads_lem : whole_of f.rule (f.read (with_heads r.heads) f.rule) ≡ whole_of f.rule (f.read h.sig f.rule)
    by_heads_lem =
        ap (λ (k : ℕ). whole_of f.rule (f.read (with_heads k) f.rule)) (ap (λ (x : Signature). x.heads) h.told_of)
        ∙ ap (whole_of f.rule) (f.by_heads h.sig f.rule (signature_sound f.signature h.sig h.signature).few_heads)

    pub bad_record : {n p : ℕ} → refuse n p ≡ whole_of f.rule (f.read (with_heads r.heads) f.rule) → Told f (refuse n p)
    bad_record {n} {p} e = go (f.read h.sig f.rule) (e ∙ by_heads_lem) ∙ ap (told sign_of) (sym h.is)
      where
        go : (x : Res R) → refuse n p ≡ whole_of f.rule x → refuse n p ≡ told sign_of (after f (signed f) f.counters h.sig true true true x)
        go (ok v) e = cc
        go (refuse m q) e = let number : n ≡ m = cc in let place : p ≡ q = cc in rw (number, place) refl

    pub good_record : {q : ℕ} → ok q ≡ whole_of f.rule (f.read (with_heads r.heads) f.rule) → Told f (ok r)
    good_record {q} e = ap ok h.told_of ∙ ap (told sign_of) (sym (h.is ∙ go (f.read h.sig f.rule) (e ∙ by_heads_lem)))
      where
        go : (x : Res R) → ok q ≡ whole_of f.rule x → after f (signed f) f.counters h.sig true true true x ≡ ok h.sig
        go (ok v) e = refl
        go (refuse m p) e = cc

-- lowering has a counter for each head
module _ {sw rw : List ℕ} {m n : ℕ} {r : Signature} (h : Reached (written sw rw m n) r (from_counters (written sw rw m n))) where
  heads_are : r.heads ≡ heads h.sig
  heads_are = ap (λ (x : Signature). x.heads) h.told_of

  pub counters_there : r.heads ≤ m → Reached (written sw rw m n) r (from_sizes (written sw rw m n))
  counters_there l = many_counters h (le-leb (heads h.sig) m (omega (arith, heads_are)))
