-- Laws of a signature's kinds, and of reading a signature step by step: a payload, the first four words, then the kinds. Assumes nothing.
use mathlib.Core.Path.{◌≡◌, refl, sym, ap, ◌∙◌}
use mathlib.Core.Bool.{Bool, true, false, ◌&&◌, cond}
use mathlib.Core.List.{List, [], ◌∷◌}
use Prim.Native.Nat.{ℕ, zero, suc, ◌+◌, ◌-◌, ◌≤◌, ◌<◌}
use native.Mathlib.Omega.{arith}
use lib.ListN.{length, get_or}
use lib.Dec.{ltb, leb, eqb}
use borrow.Author.Tests.{lt-ltb, le-ltb, ltb-true, leb-true, ne_eqb, eq-eqb, eqb-true, eqb-false}
use Rattle.std.specs.Prelude.{Option, Some, None}
use Rattle.octets.specs.Regions.{part}
use Rattle.octets.proofs.Splice.{length_part, get_d_part}
use Rattle.rules.specs.Words.{signature_base, within, limit12}
use Rattle.rules.specs.Refusals.{Res, ok, refuse, ◌>>=◌, demand, bad_signature}
use Rattle.rules.specs.Signature.{payload_at, kinds_at, read_signature}
use Rattle.words.specs.declared.Word.TheVariants.{Signature}
use Rattle.words.proofs.Ranges.{within_true, true_within, false_below, false_above}
use Rattle.words.proofs.WordAt.{There, NotKind}
use Rattle.words.proofs.WordLaws.{said, signature_kind}
use Rattle.meaning.proofs.Lists.{and_left, and_right}
use Rattle.meaning.proofs.Results.{demand_ok}
use Rattle.refusals.specs.Numbers.{told}
use Rattle.signature.specs.Signature.{is_kind_at, all_kinds, first_bad, sign_of, Begins}
use Rattle.signature.specs.declared.Signature.{Signature as Sign}

-- an index behind the first a words
abbrev pub behind : ℕ → Option ℕ → Option ℕ
behind a (Some i) = Some (a + i)
behind a None = None

-- the first bad index is one of those looked at
first_bad_below : (ws : List ℕ) (n p : ℕ) {bad : ℕ} → first_bad ws n p ≡ Some bad → bad < p + n
unfolding first_bad
first_bad_below ws zero p h = absurd cc
first_bad_below ws (suc n) p {bad} h = go (is_kind_at ws p) (first_bad_below ws n (suc p)) h
  where
    go : (b : Bool) → (first_bad ws n (suc p) ≡ Some bad → bad < suc p + n) → cond b (first_bad ws n (suc p)) (Some p) ≡ Some bad → bad < p + suc n
    go true rest g = omega (arith, rest g)
    go false rest g = let same : p ≡ bad = cc in omega arith

module _ (ws : List ℕ) where
  -- one kind more, at the end
  pub all_kinds_next : (n p q : ℕ) → q ≡ p + n → all_kinds ws (suc n) p ≡ (all_kinds ws n p && is_kind_at ws q)
  unfolding all_kinds
  all_kinds_next zero p q e =
      let same : q ≡ p = omega arith in
      rw same (last (is_kind_at ws p))
    where
      last : (b : Bool) → (b && true) ≡ b
      last true = refl
      last false = refl
  all_kinds_next (suc n) p q e = first (is_kind_at ws p) (all_kinds_next n (suc p) q (omega arith))
    where
      first : (b : Bool) → all_kinds ws (suc n) (suc p) ≡ (all_kinds ws n (suc p) && is_kind_at ws q)
          → (b && all_kinds ws (suc n) (suc p)) ≡ ((b && all_kinds ws n (suc p)) && is_kind_at ws q)
      first true h = h
      first false h = refl

  -- where all are kinds, none is bad
  pub first_bad_none : (n p : ℕ) → all_kinds ws n p ≡ true → first_bad ws n p ≡ None
  unfolding all_kinds first_bad
  first_bad_none zero p h = refl
  first_bad_none (suc n) p h = go (is_kind_at ws p) (first_bad_none n (suc p)) h
    where
      go : (b : Bool) → (all_kinds ws n (suc p) ≡ true → first_bad ws n (suc p) ≡ None) → (b && all_kinds ws n (suc p)) ≡ true
          → cond b (first_bad ws n (suc p)) (Some p) ≡ None
      go true rest g = rest g
      go false rest g = absurd cc

  -- behind the last word there is no kind
  pub first_bad_missing : (n m p : ℕ) → all_kinds ws n p ≡ true → p + n ≡ length ws → n < m → first_bad ws m p ≡ Some (p + n)
  unfolding all_kinds first_bad
  first_bad_missing zero zero p h e l = absurd (omega arith)
  first_bad_missing zero (suc m) p h e l =
      let same : p + 0 ≡ p = omega arith in
      rw (le-ltb p (length ws) (omega arith), same)
  first_bad_missing (suc n) zero p h e l = absurd (omega arith)
  first_bad_missing (suc n) (suc m) p h e l = go (is_kind_at ws p) (λ g. first_bad_missing n m (suc p) g (omega arith) (omega arith)) h
    where
      go : (b : Bool) → (all_kinds ws n (suc p) ≡ true → first_bad ws m (suc p) ≡ Some (suc p + n)) → (b && all_kinds ws n (suc p)) ≡ true
          → cond b (first_bad ws m (suc p)) (Some p) ≡ Some (p + suc n)
      go true rest g =
          let same : suc p + n ≡ p + suc n = omega arith in
          rest g ∙ ap Some same
      go false rest g = absurd cc

  -- where not all are kinds, those behind them do not matter
  pub first_bad_short : (n m p : ℕ) → all_kinds ws n p ≡ false → n ≤ m → first_bad ws m p ≡ first_bad ws n p
  unfolding all_kinds first_bad
  first_bad_short zero m p h l = absurd cc
  first_bad_short (suc n) zero p h l = absurd (omega arith)
  first_bad_short (suc n) (suc m) p h l = go (is_kind_at ws p) (λ g. first_bad_short n m (suc p) g (omega arith)) h
    where
      go : (b : Bool) → (all_kinds ws n (suc p) ≡ false → first_bad ws m (suc p) ≡ first_bad ws n (suc p)) → (b && all_kinds ws n (suc p)) ≡ false
          → cond b (first_bad ws m (suc p)) (Some p) ≡ cond b (first_bad ws n (suc p)) (Some p)
      go true rest g = rest g
      go false rest g = refl

  pub first_bad_next : (n m p : ℕ) → n ≡ suc m → is_kind_at ws p ≡ true → first_bad ws n p ≡ first_bad ws m (suc p)
  unfolding first_bad
  first_bad_next n m p e h = rw (e, h)

  pub first_bad_here : (n m p : ℕ) → n ≡ suc m → is_kind_at ws p ≡ false → first_bad ws n p ≡ Some p
  unfolding first_bad
  first_bad_here n m p e h = rw (e, h)

  pub first_bad_done : (n p : ℕ) → n ≡ 0 → first_bad ws n p ≡ None
  unfolding first_bad
  first_bad_done n p e = rw e

  -- ---- the words of the kinds alone: n from a on

  module _ (a n : ℕ) (inside : a + n ≤ length ws) where
    kind_in_part : (i : ℕ) → i < n → is_kind_at (part ws a n) i ≡ is_kind_at ws (a + i)
    kind_in_part i h =
        let long : i < length (part ws a n) = omega (arith, length_part ws a n inside) in
        rw (lt-ltb i (length (part ws a n)) long, lt-ltb (a + i) (length ws) (omega arith), get_d_part ws a n i h)

    kinds_in : (k i : ℕ) → i + k ≤ n → all_kinds (part ws a n) k i ≡ all_kinds ws k (a + i)
    unfolding all_kinds
    kinds_in zero i h = refl
    kinds_in (suc k) i h =
        let next : a + suc i ≡ suc (a + i) = omega arith in
        rw (kind_in_part i (omega arith), kinds_in k (suc i) (omega arith), next) refl

    bad_in : (k i : ℕ) → i + k ≤ n → behind a (first_bad (part ws a n) k i) ≡ first_bad ws k (a + i)
    unfolding first_bad
    bad_in zero i h = refl
    bad_in (suc k) i h =
        let next : a + suc i ≡ suc (a + i) = omega arith in
        let rest = bad_in k (suc i) (omega arith) in
        rw (← kind_in_part i (omega arith), ← next, ← rest) (go (is_kind_at (part ws a n) i))
      where
        go : (b : Bool) → behind a (cond b (first_bad (part ws a n) k (suc i)) (Some i)) ≡ cond b (behind a (first_bad (part ws a n) k (suc i))) (Some (a + i))
        go true = refl
        go false = refl

    pub part_kinds : {kinds : List ℕ} → kinds ≡ part ws a n → all_kinds kinds (length kinds) 0 ≡ all_kinds ws n a
    part_kinds is =
        let z : a + 0 ≡ a = omega arith in
        ap (λ (l : List ℕ). all_kinds l (length l) 0) is ∙ ap (λ (k : ℕ). all_kinds (part ws a n) k 0) (length_part ws a n inside) ∙ kinds_in n 0 (omega arith)
        ∙ ap (all_kinds ws n) z

    part_bad : {kinds : List ℕ} → kinds ≡ part ws a n → behind a (first_bad kinds (length kinds) 0) ≡ first_bad ws n a
    part_bad is =
        let z : a + 0 ≡ a = omega arith in
        ap (λ (l : List ℕ). behind a (first_bad l (length l) 0)) is ∙ ap (λ (k : ℕ). behind a (first_bad (part ws a n) k 0)) (length_part ws a n inside)
        ∙ bad_in n 0 (omega arith) ∙ ap (first_bad ws n) z

    -- where not all of them are kinds, the first bad index of m words is theirs
    pub part_short : {kinds : List ℕ} {r : Option ℕ} (m : ℕ) → kinds ≡ part ws a n → all_kinds kinds (length kinds) 0 ≡ false → n ≤ m
        → r ≡ first_bad kinds (length kinds) 0 → behind a r ≡ first_bad ws m a
    part_short m is bad few e = ap (behind a) e ∙ part_bad is ∙ sym (first_bad_short n m a (sym (part_kinds is) ∙ bad) few)

    pub part_below : {kinds : List ℕ} {i : ℕ} → kinds ≡ part ws a n → Some i ≡ first_bad kinds (length kinds) 0 → i < n
    part_below {kinds} is e = omega (arith, first_bad_below kinds (length kinds) 0 (sym e), ap length is, length_part ws a n inside)

  -- ---- reading the kinds

  -- the numbers of n kinds from p on
  unfoldable pub kinds_from : ℕ → ℕ → List ℕ
  kinds_from zero p = []
  kinds_from (suc n) p = (get_or ws p 0 - signature_base) ∷ kinds_from n (suc p)

  -- a kind, and then the kinds behind it
  abbrev before : Bool → (k p : ℕ) → Res (List ℕ) → Res (List ℕ)
  before b k p rest = ◌>>=◌ (demand b 1 p k) (λ j. ◌>>=◌ rest (λ ks. ok (j ∷ ks)))

  pub kinds_bad : (n p : ℕ) {bad : ℕ} → first_bad ws n p ≡ Some bad → kinds_at ws n p ≡ refuse 1 bad
  unfolding first_bad
  kinds_bad zero p h = absurd cc
  kinds_bad (suc n) p {bad} h = go (is_kind_at ws p) (kinds_bad n (suc p)) h
    where
      go : (b : Bool) → (first_bad ws n (suc p) ≡ Some bad → kinds_at ws n (suc p) ≡ refuse 1 bad) → cond b (first_bad ws n (suc p)) (Some p) ≡ Some bad
          → before b (get_or ws p 0 - signature_base) p (kinds_at ws n (suc p)) ≡ refuse 1 bad
      go true rest g = rw (rest g)
      go false rest g = let same : p ≡ bad = cc in rw same

  pub kinds_good : (n p : ℕ) → first_bad ws n p ≡ None → kinds_at ws n p ≡ ok (kinds_from n p)
  unfolding first_bad kinds_from
  kinds_good zero p h = refl
  kinds_good (suc n) p h = go (is_kind_at ws p) (kinds_good n (suc p)) h
    where
      go : (b : Bool) → (first_bad ws n (suc p) ≡ None → kinds_at ws n (suc p) ≡ ok (kinds_from n (suc p))) → cond b (first_bad ws n (suc p)) (Some p) ≡ None
          → before b (get_or ws p 0 - signature_base) p (kinds_at ws n (suc p)) ≡ ok ((get_or ws p 0 - signature_base) ∷ kinds_from n (suc p))
      go true rest g = rw (rest g)
      go false rest g = absurd cc

  -- the code's test of the word at an index
  pub kind_here : (p : ℕ) {w : ℕ} {b : Bool} → p < length ws → w ≡ get_or ws p 0 → b ≡ within signature_base 3 w → b ≡ is_kind_at ws p
  kind_here p h e k = rw (lt-ltb p (length ws) h) (k ∙ ap (within signature_base 3) e)

  -- where there is no bad index, each is a kind
  pub all_good : (n p i q : ℕ) → first_bad ws n p ≡ None → i < n → q ≡ p + i → is_kind_at ws q ≡ true
  unfolding first_bad
  all_good zero p i q b l e = absurd (omega arith)
  all_good (suc n) p zero q b l e =
      let same : q ≡ p = omega arith in
      rw same (here (is_kind_at ws p) b)
    where
      here : (t : Bool) → cond t (first_bad ws n (suc p)) (Some p) ≡ None → t ≡ true
      here true h = refl
      here false h = absurd cc
  all_good (suc n) p (suc i) q b l e = all_good n (suc p) i q (rest (is_kind_at ws p) b) (omega arith) (omega arith)
    where
      rest : (t : Bool) → cond t (first_bad ws n (suc p)) (Some p) ≡ None → first_bad ws n (suc p) ≡ None
      rest true h = h
      rest false h = absurd cc

  pub is_kind_inside : (q : ℕ) → is_kind_at ws q ≡ true → (q < length ws) × (signature_base ≤ get_or ws q 0)
  is_kind_inside q = go (ltb q (length ws)) refl (leb signature_base (get_or ws q 0)) refl
    where
      go : (a : Bool) → ltb q (length ws) ≡ a → (b : Bool) → leb signature_base (get_or ws q 0) ≡ b → (a && (b && ltb (get_or ws q 0) (signature_base + 3))) ≡ true
          → (q < length ws) × (signature_base ≤ get_or ws q 0)
      go true ea true eb h = (ltb-true q (length ws) ea, leb-true signature_base (get_or ws q 0) eb)
      go true ea false eb h = let z : ◌≡◌ {A = ℕ} 0 1 = cc in absurd (omega arith)
      go false ea b eb h = let z : ◌≡◌ {A = ℕ} 0 1 = cc in absurd (omega arith)

  pub length_kinds_from : (n p : ℕ) → length (kinds_from n p) ≡ n
  unfolding kinds_from
  length_kinds_from zero p = refl
  length_kinds_from (suc n) p = ap suc (length_kinds_from n (suc p))

  pub get_or_kinds_from : (n p i q : ℕ) → i < n → q ≡ p + i → get_or (kinds_from n p) i 0 ≡ get_or ws q 0 - signature_base
  unfolding kinds_from
  get_or_kinds_from zero p i q l e = absurd (omega arith)
  get_or_kinds_from (suc n) p zero q l e =
      let same : q ≡ p = omega arith in
      rw same
  get_or_kinds_from (suc n) p (suc i) q l e = get_or_kinds_from n (suc p) i q (omega arith) (omega arith)

  -- a test of a kind's number is a test of its word
  pub kind_test : (n i k : ℕ) → first_bad ws n 4 ≡ None → i < n → eqb (get_or (kinds_from n 4) i 0) k ≡ eqb (get_or ws (4 + i) 0) (signature_base + k)
  kind_test n i k b l =
      let r = is_kind_inside (4 + i) (all_good n 4 i (4 + i) b l refl) in
      rw (get_or_kinds_from n 4 i (4 + i) l refl) (go (get_or ws (4 + i) 0) r.1 (eqb (get_or ws (4 + i) 0) (signature_base + k)) refl)
    where
      go : (w : ℕ) → signature_base ≤ w → (b : Bool) → eqb w (signature_base + k) ≡ b → eqb (w - signature_base) k ≡ b
      go w h true e = eq-eqb (w - signature_base) k (let f = eqb-true w (signature_base + k) e in omega arith)
      go w h false e = ne_eqb (w - signature_base) k (λ f. eqb-false w (signature_base + k) e (omega arith))

-- ---- a payload, as the code tests it

-- the word at p has the payload n
pub record PayloadAt (ws : List ℕ) (p n : ℕ) : Type 0 where
  pub here : p < length ws
  pub is : get_or ws p 0 ≡ signature_base + n

pub payload_there : {ws : List ℕ} {p n : ℕ} → There ws p (Signature n) → PayloadAt ws p n
payload_there {ws} {p} t = record { here = t.inside; is = (said (get_or ws p 0) t.says).0 }

module _ (ws : List ℕ) (low size p : ℕ) where
  -- what an answer for it is
  abbrev Answers : Res ℕ → Type 0
  Answers x = x ≡ payload_at ws low size p

  pub payload_other : low + size ≤ signature_base → NotKind ws p 7 → Answers (refuse bad_signature p)
  payload_other most none = go (ltb p (length ws)) refl
    where
      out : p < length ws → (b : Bool) → within (signature_base + low) size (get_or ws p 0) ≡ b → b ≡ false
      out here true e =
          let r = within_true (signature_base + low) size (get_or ws p 0) e in
          let there = true_within signature_base signature_base (get_or ws p 0) (omega arith) (omega arith) in
          cc (signature_kind (get_or ws p 0), none.other here)
      out here false e = refl

      go : (b : Bool) → ltb p (length ws) ≡ b
          → refuse bad_signature p ≡ demand (b && within (signature_base + low) size (get_or ws p 0)) bad_signature p (get_or ws p 0 - signature_base)
      go true e = rw (out (ltb-true p (length ws) e) (within (signature_base + low) size (get_or ws p 0)) refl)
      go false e = refl

  module _ {n : ℕ} (t : PayloadAt ws p n) where
    pub payload_low : n < low → Answers (refuse bad_signature p)
    payload_low l = let e = t.is in rw (lt-ltb p (length ws) t.here, false_below (signature_base + low) size (get_or ws p 0) (omega arith))

    pub payload_high : low + size ≤ n → Answers (refuse bad_signature p)
    payload_high l = let e = t.is in rw (lt-ltb p (length ws) t.here, false_above (signature_base + low) size (get_or ws p 0) (omega arith))

    pub payload_good : low ≤ n → n < low + size → Answers (ok n)
    payload_good lo hi =
        let e = t.is in
        let same : signature_base + n - signature_base ≡ n = omega arith in
        rw (lt-ltb p (length ws) t.here, true_within (signature_base + low) size (get_or ws p 0) (omega arith) (omega arith), e, same)

  -- a payload that was read lies in its range
  pub payload_range : {n : ℕ} → payload_at ws low size p ≡ ok n → (p < length ws) × (low ≤ n) × (n < low + size)
  payload_range {n} e =
      let d = demand_ok (ltb p (length ws) && within (signature_base + low) size (get_or ws p 0)) 1 p (get_or ws p 0 - signature_base) n e in
      let here = ltb-true p (length ws) (and_left (ltb p (length ws)) _ d.0) in
      let r = within_true (signature_base + low) size (get_or ws p 0) (and_right (ltb p (length ws)) _ d.0) in
      let is = d.1 in
      (here, omega arith, omega arith)

-- ---- the first four words

module _ (ws : List ℕ) where
  -- what the code answers for the signature
  abbrev signature : Res Sign
  signature = told sign_of (read_signature ws)

-- ---- and then the kinds

-- the first bad index, as the code asks for it up to where the kinds end
asked : (ws : List ℕ) (h : ℕ) {bad : Option ℕ} → bad ≡ first_bad ws (4 + h - 4) 4 → first_bad ws h 4 ≡ bad
asked ws h is = let same : 4 + h - 4 ≡ h = omega arith in rw same at (sym is)

module _ {ws : List ℕ} {g : Sign} (b : Begins ws g) where
  pub begins_inside : (4 ≤ length ws) × (g.heads ≤ limit12) × (g.equals < g.heads)
  begins_inside =
      let rh = payload_range ws 1 limit12 0 b.heads_read in
      let rv = payload_range ws 0 g.heads 2 b.equals_read in
      let rf = payload_range ws 0 2 3 b.flag_read in
      omega arith

  pub kind_bad : {bad : ℕ} → Some bad ≡ first_bad ws (4 + g.heads - 4) 4 → refuse 1 bad ≡ signature ws
  kind_bad is = rw (b.heads_read, b.globals_read, b.equals_read, b.flag_read, kinds_bad ws g.heads 4 (asked ws g.heads is)) refl

-- all the kinds are there
pub record Kinds (ws : List ℕ) (g : Sign) : Type 0 where
  pub begins : Begins ws g
  pub good : first_bad ws g.heads 4 ≡ None
  pub inside : 4 + g.heads ≤ length ws
  pub equals : g.equals < g.heads

-- no index is bad
pub none_bad : {ws : List ℕ} {g : Sign} → Begins ws g → None ≡ first_bad ws (4 + g.heads - 4) 4 → Kinds ws g
none_bad {ws} {g} b is =
    let e : first_bad ws g.heads 4 ≡ None = asked ws g.heads is in
    let i = begins_inside b in
    let last = is_kind_inside ws (3 + g.heads) (all_good ws g.heads 4 (g.heads - 1) (3 + g.heads) e (omega arith) (omega arith)) in
    record { begins = b; good = e; inside = omega arith; equals = i.2 }

module _ {ws : List ℕ} {g : Sign} (k : Kinds ws g) where
  abbrev b : Begins ws g
  b = k.begins

  pub surplus_bad : 4 + g.heads < length ws → refuse 1 (4 + g.heads) ≡ signature ws
  surplus_bad l = rw (b.heads_read, b.globals_read, b.equals_read, b.flag_read, kinds_good ws g.heads 4 k.good, ne_eqb (length ws) (4 + g.heads) (λ e. omega arith)) refl

  -- w is the word of the value-eq head's kind
  module _ {w : ℕ} (whole : length ws ≡ 4 + g.heads) (is : w ≡ get_or ws (4 + g.equals) 0) where
    test : (t : Bool) → eqb w (signature_base + 2) ≡ t → eqb (get_or (kinds_from ws g.heads 4) g.equals 0) 2 ≡ t
    test t e = kind_test ws g.heads g.equals 2 k.good k.equals ∙ ap (λ (u : ℕ). eqb u (signature_base + 2)) (sym is) ∙ e

    pub equals_no_primitive : ¬ (w ≡ signature_base + 2) → refuse 1 2 ≡ signature ws
    equals_no_primitive n =
        let no = test false (ne_eqb w (signature_base + 2) n) in
        rw (b.heads_read, b.globals_read, b.equals_read, b.flag_read, kinds_good ws g.heads 4 k.good, eq-eqb (length ws) (4 + g.heads) whole, no) refl

    pub signature_read : w ≡ signature_base + 2 → ok g ≡ signature ws
    signature_read y =
        let yes = test true (eq-eqb w (signature_base + 2) y) in
        rw (b.heads_read, b.globals_read, b.equals_read, b.flag_read, kinds_good ws g.heads 4 k.good, eq-eqb (length ws) (4 + g.heads) whole, yes, length_kinds_from ws g.heads 4, ← b.flag_is) refl
