-- What `word_of` says, in the tests and the numbers of `rules`; and that it undoes `spelled`. Assumes nothing.
use mathlib.Core.Path.{◌≡◌, refl, sym, ap, ◌∙◌, subst}
use mathlib.Core.Bool.{Bool, true, false, cond}
use mathlib.Core.List.{List, [], ◌∷◌}
use Prim.Native.Nat.{ℕ, ◌+◌, ◌*◌, ◌-◌, ◌/◌, ◌%◌, ◌≤◌, ◌<◌}
use native.Mathlib.Omega.{arith}
use lib.ListN.{get_or}
use Rattle.std.specs.Prelude.{⊤, Option, Some, None}
use lib.Dec.{ltb, leb, eqb, lit≤}
use borrow.Author.Tests.{le-leb, lt-leb, leb-true, leb-false, eq-eqb, ne_eqb}
use Rattle.rules.specs.Words.{limit12, limit16, fresh_base, name_base, literal_base, head_base, equality_base, header_base, action_base}
use Rattle.rules.specs.Words.{signature_base, action_word, within, is_name_word, is_literal_word, is_head_word, is_fresh_word, is_equality_word}
use Rattle.rules.specs.Words.{is_header_word, head_of, count_of, facts_of, actions_of, fresh_word, head_word, header_word, no_code, code_of}
use Rattle.words.specs.Word.{Numbers, numbered, numbers, kind, numbers_of}
use Rattle.words.specs.declared.Word.{Word}
use Rattle.words.specs.declared.Word.TheVariants.{Fresh, Name, Literal, Head, Equality, Header, Action, Signature}
use Rattle.words.proofs.Ranges.{within_true, true_within, false_below, false_above, heads_below}

-- the enum's case for a word
unfoldable pub word_of : ℕ → Option Word
word_of w =
    cond (leb fresh_base w) (Some (Fresh ((w - fresh_base) / limit16) ((w - fresh_base) % limit16)))
    (cond (is_name_word w) (Some (Name (w - name_base)))
    (cond (is_literal_word w) (Some (Literal (w - literal_base)))
    (cond (within head_base head_base w) (Some (Head (head_of w) (count_of w)))
    (cond (is_equality_word w) (Some (Equality (w - equality_base)))
    (cond (is_header_word w) (Some (Header (facts_of w) (actions_of w)))
    (cond (within (action_word 1) 8 w) (Some (Action (w - action_base)))
    (cond (within signature_base signature_base w) (Some (Signature (w - signature_base)))
    None)))))))

-- the word that a case spells
abbrev pub spelled : Word → ℕ
spelled (Fresh h n) = fresh_word h n
spelled (Name n) = name_base + n
spelled (Literal n) = literal_base + n
spelled (Head h n) = head_word h n
spelled (Equality n) = equality_base + n
spelled (Header a b) = header_word a b
spelled (Action n) = action_word n
spelled (Signature n) = signature_base + n

-- 01's limits of the numbers of each case
abbrev pub Fits : Word → Type 0
Fits (Fresh h n) = n < limit16
Fits (Name n) = n < limit12
Fits (Literal n) = n < limit16
Fits (Head h n) = (h < limit12) × (n < limit16)
Fits (Equality n) = n < equality_base
Fits (Header a b) = (a < limit12) × (b < limit12)
Fits (Action n) = (1 ≤ n) × (n ≤ 8)
Fits (Signature n) = n < signature_base

-- ---- each case of `word_of`, from the test of its range: the tests of the higher ranges fail

module _ (w : ℕ) where
  pub is_fresh_lem : fresh_base ≤ w → word_of w ≡ Some (Fresh ((w - fresh_base) / limit16) ((w - fresh_base) % limit16))
  unfolding word_of
  is_fresh_lem h = simp (le-leb fresh_base w h)

  pub is_name_lem : is_name_word w ≡ true → word_of w ≡ Some (Name (w - name_base))
  unfolding word_of
  is_name_lem h =
      let r = within_true name_base limit12 w h in
      simp (lt-leb fresh_base w (omega arith), h)

  pub is_literal : is_literal_word w ≡ true → word_of w ≡ Some (Literal (w - literal_base))
  unfolding word_of
  is_literal h =
      let r = within_true literal_base limit16 w h in
      simp (lt-leb fresh_base w (omega arith), lt-leb name_base w (omega arith), h)

  pub is_head : within head_base head_base w ≡ true → word_of w ≡ Some (Head (head_of w) (count_of w))
  unfolding word_of
  is_head h =
      let r = within_true head_base head_base w h in
      simp (lt-leb fresh_base w (omega arith), lt-leb name_base w (omega arith), lt-leb literal_base w (omega arith), h)

  pub is_equality : is_equality_word w ≡ true → word_of w ≡ Some (Equality (w - equality_base))
  unfolding word_of
  is_equality h =
      let r = within_true equality_base equality_base w h in
      simp (lt-leb fresh_base w (omega arith), lt-leb name_base w (omega arith), lt-leb literal_base w (omega arith), lt-leb head_base w (omega arith), h)

  pub is_header : is_header_word w ≡ true → word_of w ≡ Some (Header (facts_of w) (actions_of w))
  unfolding word_of
  is_header h =
      let r = within_true header_base (limit12 * limit12) w h in
      simp (lt-leb fresh_base w (omega arith), lt-leb name_base w (omega arith), lt-leb literal_base w (omega arith), lt-leb head_base w (omega arith), lt-leb equality_base w (omega arith), h)

  pub is_action : within (action_word 1) 8 w ≡ true → word_of w ≡ Some (Action (w - action_base))
  unfolding word_of
  is_action h =
      let r = within_true (action_word 1) 8 w h in
      simp (
        lt-leb fresh_base w (omega arith),
        lt-leb name_base w (omega arith),
        lt-leb literal_base w (omega arith),
        lt-leb head_base w (omega arith),
        lt-leb equality_base w (omega arith),
        lt-leb header_base w (omega arith),
        h,
      )

  pub is_signature : within signature_base signature_base w ≡ true → word_of w ≡ Some (Signature (w - signature_base))
  unfolding word_of
  is_signature h =
      let r = within_true signature_base signature_base w h in
      simp (
        lt-leb fresh_base w (omega arith),
        lt-leb name_base w (omega arith),
        lt-leb literal_base w (omega arith),
        lt-leb head_base w (omega arith),
        lt-leb equality_base w (omega arith),
        lt-leb header_base w (omega arith),
        lt-leb (action_word 1) w (omega arith),
        h,
      )

  pub is_unfit : w < fresh_base → is_name_word w ≡ false → is_literal_word w ≡ false → within head_base head_base w ≡ false → is_equality_word w ≡ false
      → is_header_word w ≡ false → within (action_word 1) 8 w ≡ false → within signature_base signature_base w ≡ false → word_of w ≡ None
  unfolding word_of
  is_unfit a b c d e f g h = simp (lt-leb fresh_base w a, b, c, d, e, f, g, h)

  -- the words between the ranges
  pub unfit_name : name_base + limit12 ≤ w → w < fresh_base → word_of w ≡ None
  unfit_name lo hi =
      is_unfit hi
      (false_above name_base limit12 w (omega arith))
      (false_above literal_base limit16 w (omega arith))
      (false_above head_base head_base w (omega arith))
      (false_above equality_base equality_base w (omega arith))
      (false_above header_base (limit12 * limit12) w (omega arith))
      (false_above (action_word 1) 8 w (omega arith))
      (false_above signature_base signature_base w (omega arith))

  pub unfit_literal : literal_base + limit16 ≤ w → w < name_base → word_of w ≡ None
  unfit_literal lo hi =
      is_unfit (omega arith)
      (false_below name_base limit12 w (omega arith))
      (false_above literal_base limit16 w (omega arith))
      (false_above head_base head_base w (omega arith))
      (false_above equality_base equality_base w (omega arith))
      (false_above header_base (limit12 * limit12) w (omega arith))
      (false_above (action_word 1) 8 w (omega arith))
      (false_above signature_base signature_base w (omega arith))

  pub unfit_header : header_base + limit12 * limit12 ≤ w → w < equality_base → word_of w ≡ None
  unfit_header lo hi =
      is_unfit (omega arith)
      (false_below name_base limit12 w (omega arith))
      (false_below literal_base limit16 w (omega arith))
      (false_below head_base head_base w (omega arith))
      (false_below equality_base equality_base w (omega arith))
      (false_above header_base (limit12 * limit12) w (omega arith))
      (false_above (action_word 1) 8 w (omega arith))
      (false_above signature_base signature_base w (omega arith))

  pub unfit_action : action_word 9 ≤ w → w < header_base → word_of w ≡ None
  unfit_action lo hi =
      is_unfit (omega arith)
      (false_below name_base limit12 w (omega arith))
      (false_below literal_base limit16 w (omega arith))
      (false_below head_base head_base w (omega arith))
      (false_below equality_base equality_base w (omega arith))
      (false_below header_base (limit12 * limit12) w (omega arith))
      (false_above (action_word 1) 8 w (omega arith))
      (false_above signature_base signature_base w (omega arith))

  pub unfit_no_action : action_base ≤ w → w < action_word 1 → word_of w ≡ None
  unfit_no_action lo hi =
      is_unfit (omega arith)
      (false_below name_base limit12 w (omega arith))
      (false_below literal_base limit16 w (omega arith))
      (false_below head_base head_base w (omega arith))
      (false_below equality_base equality_base w (omega arith))
      (false_below header_base (limit12 * limit12) w (omega arith))
      (false_below (action_word 1) 8 w (omega arith))
      (false_above signature_base signature_base w (omega arith))

  pub unfit_low : w < signature_base → word_of w ≡ None
  unfit_low hi =
      is_unfit (omega arith)
      (false_below name_base limit12 w (omega arith))
      (false_below literal_base limit16 w (omega arith))
      (false_below head_base head_base w (omega arith))
      (false_below equality_base equality_base w (omega arith))
      (false_below header_base (limit12 * limit12) w (omega arith))
      (false_below (action_word 1) 8 w (omega arith))
      (false_below signature_base signature_base w (omega arith))

  -- ---- and back: the case that a word is has its test true, and spells the word

  abbrev tests : List Bool
  tests =
      leb fresh_base w ∷ is_name_word w ∷ is_literal_word w ∷ within head_base head_base w ∷ is_equality_word w ∷ is_header_word w ∷ within (action_word 1) 8 w
      ∷ within signature_base signature_base w ∷ []

  -- the case, by the answers of the tests
  abbrev pick : (a b c d e f g h : Bool) → Option Word
  pick a b c d e f g h =
      cond a (Some (Fresh ((w - fresh_base) / limit16) ((w - fresh_base) % limit16)))
      (cond b (Some (Name (w - name_base)))
      (cond c (Some (Literal (w - literal_base)))
      (cond d (Some (Head (head_of w) (count_of w)))
      (cond e (Some (Equality (w - equality_base)))
      (cond f (Some (Header (facts_of w) (actions_of w)))
      (cond g (Some (Action (w - action_base)))
      (cond h (Some (Signature (w - signature_base))) None)))))))

  -- its numbers are those of the word
  numbers_of_lem : numbers (word_of w) ≡ numbers_of w
  unfolding word_of numbers_of
  numbers_of_lem =
      go (leb fresh_base w) (is_name_word w) (is_literal_word w) (within head_base head_base w) (is_equality_word w) (is_header_word w) (within (action_word 1) 8 w)
      (within signature_base signature_base w)
    where
      Numbered : (a b c d e f g h : Bool) → Numbers
      Numbered a b c d e f g h =
          cond a (numbered 0 ((w - fresh_base) / limit16) ((w - fresh_base) % limit16))
          (cond b (numbered 1 (w - name_base) 0)
          (cond c (numbered 2 (w - literal_base) 0)
          (cond d (numbered 3 (head_of w) (count_of w))
          (cond e (numbered 4 (w - equality_base) 0)
          (cond f (numbered 5 (facts_of w) (actions_of w))
          (cond g (numbered 6 (w - action_base) 0)
          (cond h (numbered 7 (w - signature_base) 0) (numbered 8 0 0))))))))

      go : (a b c d e f g h : Bool) → numbers (pick a b c d e f g h) ≡ Numbered a b c d e f g h
      go true b c d e f g h = refl
      go false true c d e f g h = refl
      go false false true d e f g h = refl
      go false false false true e f g h = refl
      go false false false false true f g h = refl
      go false false false false false true g h = refl
      go false false false false false false true h = refl
      go false false false false false false false true = refl
      go false false false false false false false false = refl

  tested : get_or tests (kind (word_of w)) true ≡ true
  unfolding word_of
  tested =
      go (leb fresh_base w) (is_name_word w) (is_literal_word w) (within head_base head_base w) (is_equality_word w) (is_header_word w) (within (action_word 1) 8 w)
      (within signature_base signature_base w)
    where
      go : (a b c d e f g h : Bool) → get_or (a ∷ b ∷ c ∷ d ∷ e ∷ f ∷ g ∷ h ∷ []) (kind (pick a b c d e f g h)) true ≡ true
      go true b c d e f g h = refl
      go false true c d e f g h = refl
      go false false true d e f g h = refl
      go false false false true e f g h = refl
      go false false false false true f g h = refl
      go false false false false false true g h = refl
      go false false false false false false true h = refl
      go false false false false false false false true = refl
      go false false false false false false false false = refl

  -- and its numbers fit and spell the word
  Said : Option Word → Type 0
  Said (Some x) = (w ≡ spelled x) × Fits x
  Said None = ⊤

  fits_back : Said (word_of w)
  unfolding word_of Said
  fits_back =
      go (leb fresh_base w) refl (is_name_word w) refl (is_literal_word w) refl (within head_base head_base w) refl (is_equality_word w) refl (is_header_word w) refl
      (within (action_word 1) 8 w) refl (within signature_base signature_base w) refl
    where
      go : (a : Bool) → leb fresh_base w ≡ a → (b : Bool) → is_name_word w ≡ b → (c : Bool) → is_literal_word w ≡ c → (d : Bool) → within head_base head_base w ≡ d
          → (e : Bool) → is_equality_word w ≡ e → (f : Bool) → is_header_word w ≡ f → (g : Bool) → within (action_word 1) 8 w ≡ g
          → (h : Bool) → within signature_base signature_base w ≡ h → Said (pick a b c d e f g h)
      go true r b _ c _ d _ e _ f _ g _ h _ = let k = leb-true fresh_base w r in (omega arith, omega arith)
      go false _ true r c _ d _ e _ f _ g _ h _ = let k = within_true name_base limit12 w r in (omega arith, omega arith)
      go false _ false _ true r d _ e _ f _ g _ h _ = let k = within_true literal_base limit16 w r in (omega arith, omega arith)
      go false _ false _ false _ true r e _ f _ g _ h _ = let k = within_true head_base head_base w r in (omega arith, (omega arith, omega arith))
      go false _ false _ false _ false _ true r f _ g _ h _ = let k = within_true equality_base equality_base w r in (omega arith, omega arith)
      go false _ false _ false _ false _ false _ true r g _ h _ = let k = within_true header_base (limit12 * limit12) w r in (omega arith, (omega arith, omega arith))
      go false _ false _ false _ false _ false _ false _ true r h _ = let k = within_true (action_word 1) 8 w r in (omega arith, (omega arith, omega arith))
      go false _ false _ false _ false _ false _ false _ false _ true r = let k = within_true signature_base signature_base w r in (omega arith, omega arith)
      go false _ false _ false _ false _ false _ false _ false _ false _ = tt

  -- a test of a range is the test of a kind
  tells : (k : ℕ) (t : Bool) → get_or tests k true ≡ t → (t ≡ true → kind (word_of w) ≡ k) → t ≡ eqb (kind (word_of w)) k
  tells k true e h = sym (eq-eqb (kind (word_of w)) k (h refl))
  tells k false e h = sym (ne_eqb (kind (word_of w)) k (λ n. let z : ◌≡◌ {A = ℕ} 0 1 = cc (rw n at tested) in omega arith))

  pub fresh_kind : leb fresh_base w ≡ eqb (kind (word_of w)) 0
  fresh_kind = tells 0 (leb fresh_base w) refl (λ t. ap kind (is_fresh_lem (leb-true fresh_base w t)))

  pub name_kind : is_name_word w ≡ eqb (kind (word_of w)) 1
  name_kind = tells 1 (is_name_word w) refl (λ t. ap kind (is_name_lem t))

  pub literal_kind : is_literal_word w ≡ eqb (kind (word_of w)) 2
  literal_kind = tells 2 (is_literal_word w) refl (λ t. ap kind (is_literal t))

  pub head_kind_lem : within head_base head_base w ≡ eqb (kind (word_of w)) 3
  head_kind_lem = tells 3 (within head_base head_base w) refl (λ t. ap kind (is_head t))

  pub equality_kind : is_equality_word w ≡ eqb (kind (word_of w)) 4
  equality_kind = tells 4 (is_equality_word w) refl (λ t. ap kind (is_equality t))

  pub header_kind : is_header_word w ≡ eqb (kind (word_of w)) 5
  header_kind = tells 5 (is_header_word w) refl (λ t. ap kind (is_header t))

  pub action_kind : within (action_word 1) 8 w ≡ eqb (kind (word_of w)) 6
  action_kind = tells 6 (within (action_word 1) 8 w) refl (λ t. ap kind (is_action t))

  pub signature_kind : within signature_base signature_base w ≡ eqb (kind (word_of w)) 7
  signature_kind = tells 7 (within signature_base signature_base w) refl (λ t. ap kind (is_signature t))

  -- ---- what a word says: its numbers fit, spell the word, and are those that `rules` takes from it

  pub said : {x : Word} → word_of w ≡ Some x → (w ≡ spelled x) × Fits x
  unfolding Said
  said says = subst Said says fits_back

  pub fresh_below : (h n : ℕ) → word_of w ≡ Some (Fresh h n) → (H : ℕ) → is_fresh_word H w ≡ ltb h H
  fresh_below h n says H =
      let low = leb-true fresh_base w (fresh_kind ∙ rw says refl) in
      let x = is_fresh_lem low in
      let same : (w - fresh_base) / limit16 ≡ h = cc in
      heads_below fresh_base H w low ∙ rw same

  module _ (h n : ℕ) (says : word_of w ≡ Some (Head h n)) where
    head_range : within head_base head_base w ≡ true
    head_range = head_kind_lem ∙ rw says refl

    pub head_numbers : (head_of w ≡ h) × (count_of w ≡ n)
    head_numbers = let x = is_head head_range in (cc, cc)

    pub head_below : (H : ℕ) → is_head_word H w ≡ ltb h H
    head_below H = heads_below head_base H w (within_true head_base head_base w head_range).0 ∙ rw head_numbers.0

  pub header_numbers : (a b : ℕ) → word_of w ≡ Some (Header a b) → (facts_of w ≡ a) × (actions_of w ≡ b)
  header_numbers a b says = let x = is_header (header_kind ∙ rw says refl) in (cc, cc)

  -- a test of a smaller range fails where that of the whole range does
  no_smaller : (base most size : ℕ) → within base most w ≡ false → size ≤ most → within base size w ≡ false
  no_smaller base most size none l = go (within base size w) refl
    where
      go : (b : Bool) → within base size w ≡ b → b ≡ false
      go true e =
          let r = within_true base size w e in
          let there : within base most w ≡ true = true_within base most w r.0 (omega arith) in
          cc
      go false e = refl

  -- a word of another kind is of no head, of which there are at most 4,096
  pub no_head : eqb (kind (word_of w)) 3 ≡ false → (H : ℕ) → H ≤ limit12 → is_head_word H w ≡ false
  no_head other H most = no_smaller head_base head_base (H * limit16) (head_kind_lem ∙ other) (omega arith)

  pub no_fresh : eqb (kind (word_of w)) 0 ≡ false → (H : ℕ) → is_fresh_word H w ≡ false
  no_fresh other H = false_below fresh_base (H * limit16) w (leb-false fresh_base w (fresh_kind ∙ other))

  -- and has no code
  pub no_action : eqb (kind (word_of w)) 6 ≡ false → code_of w ≡ no_code
  no_action other =
      simp (
        not_code 1 (lit≤ tt) (lit≤ tt),
        not_code 2 (lit≤ tt) (lit≤ tt),
        not_code 3 (lit≤ tt) (lit≤ tt),
        not_code 4 (lit≤ tt) (lit≤ tt),
        not_code 5 (lit≤ tt) (lit≤ tt),
        not_code 6 (lit≤ tt) (lit≤ tt),
        not_code 7 (lit≤ tt) (lit≤ tt),
        not_code 8 (lit≤ tt) (lit≤ tt),
      )
    where
      not_code : (n : ℕ) → 1 ≤ n → n ≤ 8 → eqb w (action_word n) ≡ false
      not_code n lo hi =
          ne_eqb w (action_word n) (λ e.
          let there : within (action_word 1) 8 w ≡ true = true_within (action_word 1) 8 w (omega arith) (omega arith) in
          let z : ◌≡◌ {A = ℕ} 0 1 = cc (action_kind) in
          omega arith)

-- ---- a case is told by its numbers

by_numbers : Numbers → Option Word
by_numbers n =
    cond (eqb n.kind_is 0) (Some (Fresh n.first_is n.second_is))
    (cond (eqb n.kind_is 1) (Some (Name n.first_is))
    (cond (eqb n.kind_is 2) (Some (Literal n.first_is))
    (cond (eqb n.kind_is 3) (Some (Head n.first_is n.second_is))
    (cond (eqb n.kind_is 4) (Some (Equality n.first_is))
    (cond (eqb n.kind_is 5) (Some (Header n.first_is n.second_is))
    (cond (eqb n.kind_is 6) (Some (Action n.first_is))
    (cond (eqb n.kind_is 7) (Some (Signature n.first_is)) None)))))))

by_its_numbers : (x : Option Word) → by_numbers (numbers x) ≡ x
unfolding by_numbers
by_its_numbers (Some (Fresh h n)) = refl
by_its_numbers (Some (Name n)) = refl
by_its_numbers (Some (Literal n)) = refl
by_its_numbers (Some (Head h n)) = refl
by_its_numbers (Some (Equality n)) = refl
by_its_numbers (Some (Header a b)) = refl
by_its_numbers (Some (Action n)) = refl
by_its_numbers (Some (Signature n)) = refl
by_its_numbers None = refl

-- what an answer with a word's numbers is
pub answered : (w : ℕ) {x : Option Word} → numbers x ≡ numbers_of w → x ≡ word_of w
answered w {x} e = sym (by_its_numbers x) ∙ ap by_numbers (e ∙ sym (numbers_of_lem w)) ∙ by_its_numbers (word_of w)

-- and the other way round
pub answers : (w : ℕ) {x : Option Word} → word_of w ≡ x → numbers x ≡ numbers_of w
answers w e = ap numbers (sym e) ∙ numbers_of_lem w

-- ---- and the word that is spelled says so

there : (low size n : ℕ) → n < size → within low size (low + n) ≡ true
there low size n h = true_within low size (low + n) (omega arith) (omega arith)

pub says : (x : Word) → Fits x → word_of (spelled x) ≡ Some x
says (Fresh h n) f =
    let w = fresh_word h n in
    let a : (w - fresh_base) / limit16 ≡ h = omega arith in
    let b : (w - fresh_base) % limit16 ≡ n = omega arith in
    is_fresh_lem w (omega arith) ∙ rw (a, b)
says (Name n) f = let a : name_base + n - name_base ≡ n = omega arith in is_name_lem (name_base + n) (there name_base limit12 n f) ∙ rw a
says (Literal n) f = let a : literal_base + n - literal_base ≡ n = omega arith in is_literal (literal_base + n) (there literal_base limit16 n f) ∙ rw a
says (Head h n) f =
    let w = head_word h n in
    let a : head_of w ≡ h = omega arith in
    let b : count_of w ≡ n = omega arith in
    is_head w (true_within head_base head_base w (omega arith) (omega arith)) ∙ rw (a, b)
says (Equality n) f = let a : equality_base + n - equality_base ≡ n = omega arith in is_equality (equality_base + n) (there equality_base equality_base n f) ∙ rw a
says (Header x y) f =
    let w = header_word x y in
    let a : facts_of w ≡ x = omega arith in
    let b : actions_of w ≡ y = omega arith in
    is_header w (true_within header_base (limit12 * limit12) w (omega arith) (omega arith)) ∙ rw (a, b)
says (Action n) f = let a : action_word n - action_base ≡ n = omega arith in is_action (action_word n) (true_within (action_word 1) 8 (action_word n) (omega arith) (omega arith)) ∙ rw a
says (Signature n) f = let a : signature_base + n - signature_base ≡ n = omega arith in is_signature (signature_base + n) (there signature_base signature_base n f) ∙ rw a
