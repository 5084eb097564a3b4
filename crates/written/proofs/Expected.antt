-- An expected word, in a written rule or a flat one: what reading it comes to, by what the word at the index says. Assumes nothing.
use mathlib.Core.Path.{◌≡◌, refl, sym, ap, ◌∙◌}
use mathlib.Core.Bool.{Bool, true, false, ◌&&◌, cond}
use mathlib.Core.Logic.{⊎_elim}
use mathlib.Core.List.{List}
use Prim.Native.Nat.{ℕ, suc, ◌+◌, ◌≤◌, ◌<◌, min}
use native.Mathlib.Nat.{min-le_left, min-le_right, le-min, eq-or-lt_of_le}
use native.Mathlib.Numerals.{add-one}
use native.Mathlib.Omega.{arith}
use lib.ListN.{length, get_or, length-replicate}
use lib.Dec.{ltb, eqb}
use borrow.Author.Tests.{ltb-true, ltb-false, lt-ltb, le-ltb, ne_eqb, eqb-true}
use Rattle.rules.specs.Words.{limit12, is_head_word, is_header_word, count_of, facts_of, actions_of, action_word, Code, a_delete, a_subsume, a_call, an_expression, no_code, code_of}
use Rattle.rules.specs.Refusals.{Res, ok, refuse, ◌>>=◌, demand, unfit}
use Rattle.rules.specs.Signature.{heads}
use Rattle.rules.specs.Written.{Read, Reader, read_word, read_row, code_at, all_read}
use Rattle.std.specs.Prelude.{Some}
use Rattle.words.specs.Word.{kind}
use Rattle.words.specs.declared.Word.{Word}
use Rattle.words.specs.declared.Word.TheVariants.{Head, Header, Action}
use Rattle.words.proofs.WordAt.{There, NotKind}
use Rattle.words.proofs.WordLaws.{word_of, header_kind, header_numbers, head_numbers, head_below, no_head, no_action, said}
use Rattle.written.specs.Written.{with_heads, ending_of}
use Rattle.written.proofs.Walking.{Went, went_then, went_made, went_word, went_row, stops, both, then_same, then_then, Whole}

-- ---- it is taken, or refused

module _ (fits : ℕ → Bool) where
  pub word_fits : (ws : List ℕ) (p : ℕ) → p < length ws → fits (get_or ws p 0) ≡ true → read_word ws fits p ≡ ok (record { value = get_or ws p 0; at = suc p })
  word_fits ws p l h = simp (lt-ltb p (length ws) l, h)

  pub word_unfit : (ws : List ℕ) (p : ℕ) → (p < length ws → fits (get_or ws p 0) ≡ false) → read_word ws fits p ≡ refuse unfit p
  word_unfit ws p h = go (ltb p (length ws)) refl
    where
      go : (b : Bool) → ltb p (length ws) ≡ b → demand {A = Read ℕ} (b && fits (get_or ws p 0)) unfit p (record { value = get_or ws p 0; at = suc p }) ≡ refuse unfit p
      go true e = rw (h (ltb-true p (length ws) e))
      go false e = refl

  -- a word of one kind
  module _ (k : ℕ) (test : (w : ℕ) → fits w ≡ eqb (kind (word_of w)) k) {ws : List ℕ} {p : ℕ} where
    pub kind_fits : {x : Word} → There ws p x → eqb (kind (Some x)) k ≡ true → read_word ws fits p ≡ ok (record { value = get_or ws p 0; at = suc p })
    kind_fits t same = word_fits ws p t.inside (test (get_or ws p 0) ∙ rw t.says same)

    pub kind_unfit : NotKind ws p k → read_word ws fits p ≡ refuse unfit p
    kind_unfit n = word_unfit ws p (λ l. test (get_or ws p 0) ∙ n.other l)

    pub kind_taken : {x : Word} → There ws p x → eqb (kind (Some x)) k ≡ true → ok (p + 1) ≡ ending_of (read_word ws fits p)
    kind_taken t same = rw (kind_fits t same, add-one p) refl

    pub kind_refused : NotKind ws p k → refuse unfit p ≡ ending_of (read_word ws fits p)
    kind_refused n = rw (kind_unfit n) refl

-- ---- a head below H

pub heads_with : (H : ℕ) → heads (with_heads H) ≡ min H limit12
heads_with H = length-replicate (min H limit12) 0

pub heads_most : (H : ℕ) → heads (with_heads H) ≤ limit12
heads_most H = rw (heads_with H) (min-le_right H limit12)

-- a head that a kind 3 word can tell
pub with_below : (H h : ℕ) → h < limit12 → ltb h (heads (with_heads H)) ≡ ltb h H
with_below H h small = rw (heads_with H) (go (ltb h H) refl)
  where
    go : (b : Bool) → ltb h H ≡ b → ltb h (min H limit12) ≡ b
    go true e = lt-ltb h (min H limit12) (le-min (ltb-true h H e) small)
    go false e = let l = ltb-false h H e in le-ltb h (min H limit12) (omega (arith, min-le_left H limit12))

pub head_with : (H w h n : ℕ) → word_of w ≡ Some (Head h n) → is_head_word (heads (with_heads H)) w ≡ ltb h H
head_with H w h n says = head_below w h n says (heads (with_heads H)) ∙ with_below H h (said w says).1.0

abbrev head_read : (H : ℕ) → List ℕ → ℕ → Res (Read ℕ)
head_read H ws p = read_word ws (is_head_word (heads (with_heads H))) p

module _ (H : ℕ) {ws : List ℕ} {p : ℕ} where
  pub head_other : NotKind ws p 3 → head_read H ws p ≡ refuse unfit p
  head_other n = word_unfit (is_head_word (heads (with_heads H))) ws p (λ l. no_head (get_or ws p 0) (n.other l) (heads (with_heads H)) (heads_most H))

  module _ {h n : ℕ} (t : There ws p (Head h n)) where
    pub head_high : H ≤ h → head_read H ws p ≡ refuse unfit p
    head_high high = word_unfit (is_head_word (heads (with_heads H))) ws p (λ l. head_with H (get_or ws p 0) h n t.says ∙ le-ltb h H high)

    pub head_fits_lem : h < H → head_read H ws p ≡ ok (record { value = get_or ws p 0; at = suc p })
    head_fits_lem low = word_fits (is_head_word (heads (with_heads H))) ws p t.inside (head_with H (get_or ws p 0) h n t.says ∙ lt-ltb h H low)

-- and the count of what follows
pub head_count : {ws : List ℕ} {p h n : ℕ} → There ws p (Head h n) → count_of (get_or ws p 0) ≡ n
head_count {ws} {p} {h} {n} t = (head_numbers (get_or ws p 0) h n t.says).1

-- ---- an action's code

-- n is none of 1 to 6, nor m
pub record NoneOf (n m : ℕ) : Type 0 where
  pub one : ¬ (n ≡ 1)
  pub two : ¬ (n ≡ 2)
  pub three : ¬ (n ≡ 3)
  pub four : ¬ (n ≡ 4)
  pub five : ¬ (n ≡ 5)
  pub six : ¬ (n ≡ 6)
  pub last : ¬ (n ≡ m)

-- as the last arm of a match knows it, which asks for 3 and 4 by a range
pub none_of : {n m : ℕ} {U : Type 0} → (((((U × ¬ (n ≡ 1)) × ¬ (n ≡ 2)) × ¬ (n ≡ 5)) × ¬ (n ≡ 6)) × ¬ (n ≡ m)) → ¬ (n ≡ 3) → ¬ (n ≡ 4) → NoneOf n m
none_of r n3 n4 = record { one = r.0.0.0.0.1; two = r.0.0.0.1; three = n3; four = n4; five = r.0.0.1; six = r.0.1; last = r.1 }

-- an action ends well, if it does by each code that a word there may have
pub went_coded : {A : Type 0} (ws : List ℕ) (p : ℕ) (by : Code → Res (Read A)) → ((k : Code) → p < length ws → Went ws p 1 (by k)) → Went ws p 1 (by no_code)
    → Went ws p 1 (by (code_at ws p))
went_coded ws p by h none = go (ltb p (length ws)) refl
  where
    go : (b : Bool) → ltb p (length ws) ≡ b → Went ws p 1 (by (cond b (code_of (get_or ws p 0)) no_code))
    go true e = h (code_of (get_or ws p 0)) (ltb-true p (length ws) e)
    go false e = none

module _ {ws : List ℕ} {p : ℕ} where
  pub no_code_lem : NotKind ws p 6 → code_at ws p ≡ no_code
  no_code_lem n = go (ltb p (length ws)) refl
    where
      go : (b : Bool) → ltb p (length ws) ≡ b → cond b (code_of (get_or ws p 0)) no_code ≡ no_code
      go true e = no_action (get_or ws p 0) (n.other (ltb-true p (length ws) e))
      go false e = refl

  pub code_there : {n : ℕ} → There ws p (Action n) → code_at ws p ≡ code_of (action_word n)
  code_there {n} t = rw (lt-ltb p (length ws) t.inside, (said (get_or ws p 0) t.says).0) refl

  -- the walk by the code that the word says is the walk over the action
  module _ {A : Type 0} (by : Code → Res (Read A)) {n : ℕ} (t : There ws p (Action n)) {z : Res ℕ} where
    pub by_code : z ≡ ending_of (by (code_of (action_word n))) → z ≡ ending_of (by (code_at ws p))
    by_code e = e ∙ ap (λ (k : Code). ending_of (by k)) (sym (code_there t))

    pub as_code : (m : ℕ) → n ≡ m → z ≡ ending_of (by (code_of (action_word m))) → z ≡ ending_of (by (code_at ws p))
    as_code m same e = by_code (e ∙ ap (λ (k : ℕ). ending_of (by (code_of (action_word k)))) (sym same))

    -- 3 and 4, of which the code asks the same
    pub change_code : 3 ≤ n → n < 5 → z ≡ ending_of (by a_delete) → z ≡ ending_of (by a_subsume) → z ≡ ending_of (by (code_at ws p))
    change_code lo hi d s = ⊎_elim (λ (same : 3 ≡ n). as_code 3 (sym same) d) (λ (l : 3 < n). as_code 4 (let same : n ≡ 4 = omega arith in same) s) (eq-or-lt_of_le lo)

    -- none of 1 to 6
    pub last_code : (m : ℕ) → NoneOf n m → (n ≡ 7 → z ≡ ending_of (by a_call)) → (n ≡ 8 → z ≡ ending_of (by an_expression)) → z ≡ ending_of (by no_code) → z ≡ ending_of (by (code_at ws p))
    last_code m k seven eight none = by_code (go (eqb (action_word n) (action_word 7)) refl (eqb (action_word n) (action_word 8)) refl)
      where
        not_code : (j : ℕ) → ¬ (n ≡ j) → eqb (action_word n) (action_word j) ≡ false
        not_code j other = ne_eqb (action_word n) (action_word j) (λ e. other (omega arith))

        rest : code_of (action_word n) ≡ cond (eqb (action_word n) (action_word 7)) a_call (cond (eqb (action_word n) (action_word 8)) an_expression no_code)
        rest = simp (not_code 1 k.one, not_code 2 k.two, not_code 3 k.three, not_code 4 k.four, not_code 5 k.five, not_code 6 k.six)

        go : (b : Bool) → eqb (action_word n) (action_word 7) ≡ b → (c : Bool) → eqb (action_word n) (action_word 8) ≡ c → z ≡ ending_of (by (code_of (action_word n)))
        go true e c f = seven (let s = eqb-true (action_word n) (action_word 7) e in omega arith) ∙ ap (λ (k : Code). ending_of (by k)) (sym (rest ∙ rw e refl))
        go false e true f = eight (let s = eqb-true (action_word n) (action_word 8) f in omega arith) ∙ ap (λ (k : Code). ending_of (by k)) (sym (rest ∙ rw (e, f) refl))
        go false e false f = none ∙ ap (λ (k : Code). ending_of (by k)) (sym (rest ∙ rw (e, f) refl))

-- ---- a rule: its header, a row of one thing, and a row of another

module _ {A B C : Type 0} (ws : List ℕ) (f : List A → List B → C) (one : Reader A) (two : Reader B) where
  abbrev read_headed : Reader C
  read_headed p = do
    w ← read_word ws is_header_word p
    xs ← read_row one (facts_of w.value) w.at
    ys ← read_row two (actions_of w.value) xs.at
    ok (record { value = f xs.value ys.value; at = ys.at })

  -- the whole record, with nothing behind it
  abbrev pub whole_headed : Res C
  whole_headed = do
    w ← read_word ws is_header_word 0
    xs ← read_row one (facts_of w.value) w.at
    ys ← read_row two (actions_of w.value) xs.at
    all_read ws (record { value = f xs.value ys.value; at = ys.at })

module _ {A B C : Type 0} (ws : List ℕ) (f : List A → List B → C) (one : Reader A) (two : Reader B) (went : (p : ℕ) → Went ws p 1 (one p)) where
  abbrev read : Reader C
  read = read_headed ws f one two

  pub header_other : {p : ℕ} → NotKind ws p 5 → refuse unfit p ≡ ending_of (read p)
  header_other n = rw (kind_unfit is_header_word 5 header_kind n) refl

  module _ {p a b : ℕ} (t : There ws p (Header a b)) where
    abbrev rest : Read (List A) → Res (Read C)
    rest xs = ◌>>=◌ (read_row two b xs.at) (λ ys. ok (record { value = f xs.value ys.value; at = ys.at }))

    header_read : read p ≡ ◌>>=◌ (read_row one a (suc p)) rest
    header_read =
        let n = header_numbers (get_or ws p 0) a b t.says in
        rw (kind_fits is_header_word 5 header_kind t refl, n.0, n.1) refl

    pub first_stops : {m q : ℕ} → refuse m q ≡ ending_of (read_row one a (p + 1)) → refuse m q ≡ ending_of (read p)
    first_stops e = rw header_read (stops (read_row one a (suc p)) rest (rw (add-one p) at e))

    pub then_second : {q : ℕ} {z : Res ℕ} → ok q ≡ ending_of (read_row one a (p + 1)) → z ≡ ending_of (read_row two b q) → z ≡ ending_of (read p)
    then_second e g = rw header_read (both (read_row one a (suc p)) (read_row two b) (λ xs ys. f xs.value ys.value) (rw (add-one p) at e) g)

  -- where it ends, if each of the second row goes on too
  module _ (went2 : (p : ℕ) → Went ws p 1 (two p)) where
    pub went_headed : (p : ℕ) → Went ws p 1 (read p)
    went_headed p =
        went_then ws p 1 0 (read_word ws is_header_word p) _ (went_word ws is_header_word p)
        (λ w. went_then ws w.at 0 0 (read_row one (facts_of w.value) w.at) _ (went_row ws one went (facts_of w.value) w.at)
        (λ xs. went_made ws xs.at 0 (read_row two (actions_of w.value) xs.at) _ (went_row ws two went2 (actions_of w.value) xs.at)))

    -- a whole record is one that begins at index 0 and has nothing behind it
    pub headed_whole : Whole ws (read 0) (whole_headed ws f one two)
    headed_whole = record { went = went_headed 0; is = apart }
      where
        apart : whole_headed ws f one two ≡ ◌>>=◌ (read 0) (all_read ws)
        apart =
            then_same (read_word ws is_header_word 0) _ _ (λ w.
            then_same (read_row one (facts_of w.value) w.at) _ _ (λ xs. then_then (read_row two (actions_of w.value) xs.at) _ (all_read ws))
            ∙ then_then (read_row one (facts_of w.value) w.at) _ (all_read ws))
            ∙ then_then (read_word ws is_header_word 0) _ (all_read ws)
