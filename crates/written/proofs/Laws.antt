-- What a walk answers for each reading of a written rule, by the words that it meets. Assumes nothing.
use mathlib.Core.Path.{◌≡◌, refl, sym, ap, ◌∙◌}
use mathlib.Core.Bool.{Bool, true, false, ◌&&◌, cond, false≢true}
use mathlib.Core.List.{List}
use Prim.Native.Nat.{ℕ, zero, suc, ◌+◌, ◌-◌, ◌*◌, ◌/◌, ◌%◌, ◌^◌, ◌≤◌, ◌<◌}
use native.Mathlib.Numerals.{add-one}
use native.Mathlib.Omega.{arith}
use lib.ListN.{length, get_or}
use lib.Dec.{ltb, eqb}
use lib.Count.{count_leading_zeros}
use borrow.Author.Tests.{ltb-true, ltb-false, lt-ltb, le-ltb, ne_eqb, eq-eqb}
use Rattle.rules.specs.Words.{limit12, limit16, max_depth, name_base, literal_base, head_base, equality_word, action_word, is_name_word, is_literal_word, is_head_word}
use Rattle.rules.specs.Words.{is_equality_word, count_of, Code, a_let, a_set, a_panic, code_of}
use Rattle.rules.specs.Refusals.{Res, ok, refuse, ◌>>=◌, unfit, too_deep}
use Rattle.rules.specs.Signature.{Sig, heads}
use Rattle.rules.specs.Written.{Expr, Read, Shape, is_leaf, is_call, is_bad, shape, shape_at, read_many, read_shape, read_expr, read_target, read_equal, read_fact}
use Rattle.rules.specs.Written.{read_code, read_action, equal, union', Action as Act}
use Rattle.words.specs.Word.{kind}
use Rattle.words.specs.declared.Word.TheVariants.{Name, Literal, Head, Equality, Action}
use Rattle.words.proofs.Ranges.{kind_from, kind_below, true_within, false_below, false_above, heads_below}
use Rattle.words.proofs.WordLaws.{word_of, name_kind, literal_kind, equality_kind, said}
use Rattle.std.specs.Prelude.{Option, Some, None}
use Rattle.written.specs.Written.{with_heads, ending_of, or_unfit, leaf_end, taken, taken_at, Starts}
use Rattle.written.proofs.Walking.{made, then_made, moved, just_one, last_one, left_start, left_stops, left_next, left_on, none_left}
use Rattle.written.proofs.Ends.{exprs}
use Rattle.words.proofs.WordAt.{Here, There, NotKind}
use Rattle.written.proofs.Expected.{kind_fits, kind_unfit, heads_most, with_below, head_other, head_high, head_fits_lem, head_count}
use Rattle.written.proofs.Expected.{no_code_lem, as_code, change_code, NoneOf, last_code}

-- ---- an expression, by how it begins

pub starts : {s : Sig} {ws : List ℕ} {p n : ℕ} {x : Option ℕ} → or_unfit (λ n. n) x p ≡ taken_at s ws p → x ≡ Some n → Starts s ws p n
starts {s} {ws} {p} {n} read is =
    let h : taken_at s ws p ≡ ok n = sym read ∙ ap (λ (y : Option ℕ). or_unfit (λ n. n) y p) is in
    record { takes = h; inside = go (ltb p (length ws)) refl h }
  where
    go : (b : Bool) → ltb p (length ws) ≡ b → taken (cond b (shape s (get_or ws p 0)) is_bad) (get_or ws p 0) p ≡ ok n → p < length ws
    go true e h = ltb-true p (length ws) e
    go false e h = let z : ◌≡◌ {A = ℕ} 0 1 = cc in absurd (omega arith)

-- none begins there: 5 comes before 6
pub no_expression : (s : Sig) (ws : List ℕ) (d p : ℕ) {x : Option ℕ} → or_unfit (λ n. n) x p ≡ taken_at s ws p → x ≡ None → refuse unfit p ≡ ending_of (read_expr s ws d p)
no_expression s ws zero p read is = go (shape_at s ws p) (sym read ∙ ap (λ (y : Option ℕ). or_unfit (λ n. n) y p) is)
  where
    go : (sh : Shape) → taken sh (get_or ws p 0) p ≡ refuse unfit p → refuse unfit p ≡ ending_of (read_shape sh true (λ n q. refuse too_deep q) (get_or ws p 0) p)
    go is_leaf h = cc
    go is_call h = cc
    go is_bad h = refl
no_expression s ws (suc d) p read is = go (shape_at s ws p) (sym read ∙ ap (λ (y : Option ℕ). or_unfit (λ n. n) y p) is)
  where
    go : (sh : Shape) → taken sh (get_or ws p 0) p ≡ refuse unfit p → refuse unfit p ≡ ending_of (read_shape sh false (λ n q. read_many (λ r. read_expr s ws d r) n q) (get_or ws p 0) p)
    go is_leaf h = cc
    go is_call h = cc
    go is_bad h = refl

module _ {s : Sig} {ws : List ℕ} {p n : ℕ} (b : Starts s ws p n) where
  pub too_deep_lem : (d : ℕ) → d ≡ 0 → refuse too_deep p ≡ ending_of (read_expr s ws d p)
  too_deep_lem zero z = go (shape_at s ws p) b.takes
    where
      go : (sh : Shape) → taken sh (get_or ws p 0) p ≡ ok n → refuse too_deep p ≡ ending_of (read_shape sh true (λ n q. refuse too_deep q) (get_or ws p 0) p)
      go is_leaf h = refl
      go is_call h = refl
      go is_bad h = cc
  too_deep_lem (suc d) z = absurd (omega arith)

  pub one_deeper : (d : ℕ) → ¬ (d ≡ 0) → ending_of (read_many (read_expr s ws (d - 1)) n (p + 1)) ≡ ending_of (read_expr s ws d p)
  one_deeper zero z = absurd (z refl)
  one_deeper (suc d) z = rw (down, add-one p) (go (shape_at s ws p) b.takes)
    where
      down : suc d - 1 ≡ d
      down = omega arith

      go : (sh : Shape) → taken sh (get_or ws p 0) p ≡ ok n
          → ending_of (read_many (read_expr s ws d) n (suc p)) ≡ ending_of (read_shape sh false (λ n q. read_many (λ r. read_expr s ws d r) n q) (get_or ws p 0) p)
      go is_leaf h = let none : n ≡ 0 = cc in rw none refl
      go is_call h = let same : n ≡ count_of (get_or ws p 0) = cc in rw same (sym (made (read_many (read_expr s ws d) (count_of (get_or ws p 0)) (suc p)) _))
      go is_bad h = cc

  -- a name or a literal ends behind its word
  pub leaf_read : (d : ℕ) → n ≡ 0 → ¬ (d ≡ 0) → ok (p + 1) ≡ ending_of (read_expr s ws d p)
  leaf_read d none z = none_left (exprs s ws (d - 1)) n (p + 1) none ∙ one_deeper d z

-- ---- several expressions

-- what is left of them, `left` from `next` on, each up to `deep` deep: it answers as the whole does, and begins no lower and no deeper
pub record Rest (s : Sig) (ws : List ℕ) (depth count at deep left next : ℕ) : Type 0 where
  pub same : ending_of (read_many (read_expr s ws deep) left next) ≡ ending_of (read_many (read_expr s ws depth) count at)
  pub on : at ≤ next
  pub down : deep ≤ depth

pub rest_start : {s : Sig} {ws : List ℕ} {depth count at : ℕ} → Rest s ws depth count at depth count at
rest_start = record { same = refl; on = omega arith; down = omega arith }

module _ {s : Sig} {ws : List ℕ} {depth count at deep left next : ℕ} (r : Rest s ws depth count at deep left next) where
  pub rest_end : left ≡ 0 → ok next ≡ ending_of (read_many (read_expr s ws depth) count at)
  rest_end z = none_left (exprs s ws deep) left next z ∙ r.same

  pub rest_stops : {m p : ℕ} → 0 < left → refuse m p ≡ ending_of (read_expr s ws deep next) → refuse m p ≡ ending_of (read_many (read_expr s ws depth) count at)
  rest_stops some e = left_stops (left_start {k = exprs s ws deep}) some e ∙ r.same

  module _ {q : ℕ} (e : ok q ≡ ending_of (read_expr s ws deep next)) where
    pub rest_on : next < q
    rest_on = left_on (left_start {k = exprs s ws deep} {count = left} {at = next}) e

    pub rest_next : 0 < left → Rest s ws depth count at deep (left - 1) q
    rest_next some =
        let further = rest_on in
        record { same = (left_next (left_start {k = exprs s ws deep}) some e).same ∙ r.same; on = omega (arith, r.on); down = r.down }

  -- the last one's arguments stand for it
  pub rest_last : {n : ℕ} → Starts s ws next n → 0 < left → left - 1 ≡ 0 → 0 < deep → Rest s ws depth count at (deep - 1) n (next + 1)
  rest_last {n} b some last more =
      let one : left ≡ 1 = omega arith in
      let here = ap (λ (k : ℕ). ending_of (read_many (read_expr s ws deep) k next)) one ∙ just_one (read_expr s ws deep) next in
      record { same = one_deeper b deep (λ z. omega arith) ∙ sym here ∙ r.same; on = omega (arith, r.on); down = omega (arith, r.down) }

-- ---- how it begins, by the range that its word lies in

-- no word is there
pub start_missing : (s : Sig) (ws : List ℕ) (p : ℕ) → length ws ≤ p → or_unfit (λ n. n) None p ≡ taken_at s ws p
start_missing s ws p l = rw (le-ltb p (length ws) l)

-- w is the word there
module _ (H : ℕ) {ws : List ℕ} {p w : ℕ} (k : Here ws p w) where
  -- what an answer for it is
  abbrev Begins : Option ℕ → Type 0
  Begins x = or_unfit (λ n. n) x p ≡ taken_at (with_heads H) ws p

  begins : (x : Option ℕ) (sh : Shape) → shape (with_heads H) w ≡ sh → or_unfit (λ n. n) x p ≡ taken sh w p → Begins x
  begins x sh e h = rw (← k.is, lt-ltb p (length ws) k.inside, e) h

  no_start : is_name_word w ≡ false → is_literal_word w ≡ false → is_head_word (heads (with_heads H)) w ≡ false → Begins None
  no_start n l h = begins None is_bad (simp (n, l, h)) refl

  -- neither the names nor the literals nor the heads reach so far
  start_high : literal_base + limit16 ≤ w → is_name_word w ≡ false → Begins None
  start_high lo n =
      let most = heads_most H in
      no_start n (false_above literal_base limit16 w lo) (false_above head_base (heads (with_heads H) * limit16) w (omega arith))

  pub start_low : w < head_base → Begins None
  start_low low =
      no_start (false_below name_base limit12 w (omega arith)) (false_below literal_base limit16 w (omega arith))
      (false_below head_base (heads (with_heads H) * limit16) w low)

  -- from the literals up, the end of its kind tells whether it is a leaf
  module _ (h : w < 2 ^ 32) (leaf : count_leading_zeros 32 w < 3) where
    pub start_leaf : w < leaf_end (count_leading_zeros 32 w) → Begins (Some 0)
    start_leaf = go (ltb (count_leading_zeros 32 w) 2) refl
      where
        go : (b : Bool) → ltb (count_leading_zeros 32 w) 2 ≡ b → w < cond b (name_base + limit12) (literal_base + limit16) → Begins (Some 0)
        go true e hi = begins (Some 0) is_leaf (simp (true_within name_base limit12 w (kind_below 2 30 w refl h (ltb-true _ 2 e)) hi)) refl
        go false e hi =
            let other = false_below name_base limit12 w (kind_from 2 30 w refl h (ltb-false _ 2 e)) in
            begins (Some 0) is_leaf (simp (other, true_within literal_base limit16 w (kind_below 3 29 w refl h leaf) hi)) refl

    pub start_no_leaf : leaf_end (count_leading_zeros 32 w) ≤ w → Begins None
    start_no_leaf = go (ltb (count_leading_zeros 32 w) 2) refl
      where
        go : (b : Bool) → ltb (count_leading_zeros 32 w) 2 ≡ b → cond b (name_base + limit12) (literal_base + limit16) ≤ w → Begins None
        go true e lo = start_high (omega arith) (false_above name_base limit12 w lo)
        go false e lo = start_high lo (false_below name_base limit12 w (kind_from 2 30 w refl h (ltb-false _ 2 e)))

  -- a head, which its payload tells
  module _ (lo : head_base ≤ w) (hi : w < literal_base) where
    payload : w % head_base ≡ w - head_base
    payload = omega arith

    head_is : is_head_word (heads (with_heads H)) w ≡ ltb (w % head_base / limit16) H
    head_is = heads_below head_base (heads (with_heads H)) w lo ∙ rw payload (with_below H ((w - head_base) / limit16) (omega arith))

    leaf_false : is_name_word w ≡ false
    leaf_false = false_below name_base limit12 w (omega arith)

    pub start_head : w % head_base / limit16 < H → Begins (Some (w % limit16))
    start_head low =
        let same : w % limit16 ≡ (w - head_base) % limit16 = omega arith in
        let is = head_is ∙ lt-ltb _ H low in
        begins (Some (w % limit16)) is_call (simp (leaf_false, false_below literal_base limit16 w hi, is)) (rw same refl)

    pub start_no_head : H ≤ w % head_base / limit16 → Begins None
    start_no_head high = no_start leaf_false (false_below literal_base limit16 w hi) (head_is ∙ le-ltb _ H high)

-- ---- facts

module _ (s : Sig) (ws : List ℕ) (p : ℕ) where
  -- two expressions behind a word, as a row of two
  pub pair_goes : ending_of (read_many (read_expr s ws max_depth) 2 (p + 1)) ≡ ending_of (read_equal s ws p)
  pair_goes =
      rw (add-one p)
      (then_made (read_expr s ws max_depth (suc p)) (read_many (read_expr s ws max_depth) 1) _
      ∙ go (read_expr s ws max_depth (suc p))
      ∙ sym (then_made (read_expr s ws max_depth (suc p)) (read_expr s ws max_depth) _))
    where
      go : (x : Res (Read Expr)) → ending_of (◌>>=◌ x (λ a. read_many (read_expr s ws max_depth) 1 a.at)) ≡ ending_of (◌>>=◌ x (λ a. read_expr s ws max_depth a.at))
      go (ok a) = just_one (read_expr s ws max_depth) a.at
      go (refuse n q) = refl

  -- any word but 08000002 begins an expression, or is unfit
  fact_by : (b : Bool) → ltb p (length ws) && eqb (get_or ws p 0) equality_word ≡ b
      → ending_of (read_fact s ws p) ≡ cond b (ending_of (read_equal s ws p)) (ending_of (read_expr s ws max_depth p))
  fact_by true e = rw e refl
  fact_by false e = rw e (made (read_expr s ws max_depth p) _)

module _ (s : Sig) {ws : List ℕ} {p : ℕ} where
  pub fact_holds : NotKind ws p 4 → ending_of (read_expr s ws max_depth p) ≡ ending_of (read_fact s ws p)
  fact_holds n = sym (fact_by s ws p false (go (ltb p (length ws)) refl))
    where
      other : p < length ws → get_or ws p 0 ≡ equality_word → ⊥
      other l e =
          let four : ◌≡◌ {A = Bool} true (eqb (kind (word_of (get_or ws p 0))) 4) = sym (ap is_equality_word e) ∙ equality_kind (get_or ws p 0) in
          false≢true (sym (n.other l) ∙ sym four)

      go : (b : Bool) → ltb p (length ws) ≡ b → b && eqb (get_or ws p 0) equality_word ≡ false
      go true e = ne_eqb (get_or ws p 0) equality_word (other (ltb-true p (length ws) e))
      go false e = refl

  pub fact_equal : {n : ℕ} → There ws p (Equality n) → n ≡ 2 → ending_of (read_equal s ws p) ≡ ending_of (read_fact s ws p)
  fact_equal t two =
      let is : get_or ws p 0 ≡ equality_word = (said (get_or ws p 0) t.says).0 ∙ rw two refl in
      sym (fact_by s ws p true (rw (lt-ltb p (length ws) t.inside, eq-eqb (get_or ws p 0) equality_word is)))

pub fact_odd : (H : ℕ) {ws : List ℕ} {p n : ℕ} → There ws p (Equality n) → ¬ (n ≡ 2) → refuse unfit p ≡ ending_of (read_fact (with_heads H) ws p)
fact_odd H {ws} {p} {n} t odd =
    let is = (said (get_or ws p 0) t.says).0 in
    let other : eqb (get_or ws p 0) equality_word ≡ false = ne_eqb (get_or ws p 0) equality_word (λ e. odd (omega arith)) in
    let here : Here ws p (get_or ws p 0) = record { inside = t.inside; is = refl } in
    let few = (said (get_or ws p 0) t.says).1 in
    let low = start_low H here (omega arith) in
    no_expression (with_heads H) ws max_depth p low refl ∙ sym (fact_by (with_heads H) ws p false (rw (lt-ltb p (length ws) t.inside, other)))

-- a word that takes no arguments is no equality's, and a fact that it is alone ends behind it
pub leaf_fact : (H : ℕ) {ws : List ℕ} {p n : ℕ} → Starts (with_heads H) ws p n → n ≡ 0 → ok (p + 1) ≡ ending_of (read_fact (with_heads H) ws p)
leaf_fact H {ws} {p} {n} b none =
    leaf_read b max_depth none (λ z. omega arith)
    ∙ sym (fact_by (with_heads H) ws p false (rw (lt-ltb p (length ws) b.inside, ne_eqb (get_or ws p 0) equality_word other)))
  where
    other : get_or ws p 0 ≡ equality_word → ⊥
    other e =
        let here : Here ws p (get_or ws p 0) = record { inside = b.inside; is = refl } in
        let low = start_low H here (omega arith) in
        let takes = b.takes in
        let z : ◌≡◌ {A = ℕ} 0 1 = cc in
        omega arith

-- ---- the kind 3 word of a set, a delete or a subsume

module _ (H : ℕ) {ws : List ℕ} {p : ℕ} where
  pub target_other : NotKind ws p 3 → refuse unfit p ≡ ending_of (read_target (with_heads H) ws p)
  target_other n = rw (head_other H n) refl

  module _ {h n : ℕ} (t : There ws p (Head h n)) where
    pub target_high : H ≤ h → refuse unfit p ≡ ending_of (read_target (with_heads H) ws p)
    target_high high = rw (head_high H t high) refl

    pub target_goes : h < H → ending_of (read_many (read_expr (with_heads H) ws max_depth) n (p + 1)) ≡ ending_of (read_target (with_heads H) ws p)
    target_goes low =
        rw (head_fits_lem H t low, add-one p, ← head_count t) (sym (made (read_many (read_expr (with_heads H) ws max_depth) (count_of (get_or ws p 0)) (suc p)) _))

-- ---- actions: q is the place behind the action word at p

module _ (s : Sig) {ws : List ℕ} (p : ℕ) {q : ℕ} where
  pub let_other : NotKind ws q 1 → refuse unfit q ≡ ending_of (read_code s ws p a_let q)
  let_other n = rw (kind_unfit is_name_word 1 name_kind n) refl

  pub let_goes : {n : ℕ} → There ws q (Name n) → ending_of (read_expr s ws max_depth (q + 1)) ≡ ending_of (read_code s ws p a_let q)
  let_goes t = rw (kind_fits is_name_word 1 name_kind t refl, add-one q) (sym (made (read_expr s ws max_depth (suc q)) _))

  pub panic_other : NotKind ws q 2 → refuse unfit q ≡ ending_of (read_code s ws p a_panic q)
  panic_other n = rw (kind_unfit is_literal_word 2 literal_kind n) refl

  pub panic_goes : {n : ℕ} → There ws q (Literal n) → ok (q + 1) ≡ ending_of (read_code s ws p a_panic q)
  panic_goes t = rw (kind_fits is_literal_word 2 literal_kind t refl, add-one q) refl

module _ (H : ℕ) {ws : List ℕ} (p : ℕ) {q : ℕ} where
  pub set_other : NotKind ws q 3 → refuse unfit q ≡ ending_of (read_code (with_heads H) ws p a_set q)
  set_other n = rw (head_other H n) refl

  module _ {h n : ℕ} (t : There ws q (Head h n)) where
    pub set_high : H ≤ h → refuse unfit q ≡ ending_of (read_code (with_heads H) ws p a_set q)
    set_high high = rw (head_high H t high) refl

    -- a set's arguments and its value, as a row
    pub set_goes : h < H → ending_of (read_many (read_expr (with_heads H) ws max_depth) (n + 1) (q + 1)) ≡ ending_of (read_code (with_heads H) ws p a_set q)
    set_goes low =
        rw (head_fits_lem H t low, add-one n, add-one q, ← head_count t)
        (sym (last_one (read_expr (with_heads H) ws max_depth) (count_of (get_or ws q 0)) (suc q))
        ∙ sym (moved (read_many (read_expr (with_heads H) ws max_depth) (count_of (get_or ws q 0)) (suc q)) _ (read_expr (with_heads H) ws max_depth))
        ∙ sym (then_made (◌>>=◌ (read_many (read_expr (with_heads H) ws max_depth) (count_of (get_or ws q 0)) (suc q)) _) (read_expr (with_heads H) ws max_depth) _))

-- ---- an action, by its code

-- what stands at p, by the code of its word
abbrev by : Sig → List ℕ → ℕ → Code → Res (Read Act)
by s ws p k = read_code s ws p k (suc p)

module _ (s : Sig) {ws : List ℕ} {p : ℕ} where
  pub action_other : NotKind ws p 6 → refuse unfit p ≡ ending_of (read_action s ws p)
  action_other n = rw (no_code_lem n) refl

  module _ {n : ℕ} (t : There ws p (Action n)) where
    pub action_by : (m : ℕ) → n ≡ m → {z : Res ℕ} → z ≡ ending_of (read_code s ws p (code_of (action_word m)) (p + 1)) → z ≡ ending_of (read_action s ws p)
    action_by m same e = as_code (by s ws p) t m same (rw (add-one p) at e)

    -- a union ends where an equality of the same two does
    pub union_goes : n ≡ 5 → {z : Res ℕ} → z ≡ ending_of (read_equal s ws p) → z ≡ ending_of (read_action s ws p)
    union_goes five e = as_code (by s ws p) t 5 five (e ∙ go (read_expr s ws max_depth (suc p)))
      where
        go : (x : Res (Read Expr))
            → ending_of (◌>>=◌ x (λ a. ◌>>=◌ (read_expr s ws max_depth a.at) (λ b. ok (record { value = equal p a.value b.value; at = b.at }))))
            ≡ ending_of (◌>>=◌ x (λ a. ◌>>=◌ (read_expr s ws max_depth a.at) (λ b. ok (record { value = union' a.value b.value; at = b.at }))))
        go (ok a) = made (read_expr s ws max_depth a.at) _ ∙ sym (made (read_expr s ws max_depth a.at) _)
        go (refuse n p) = refl

    pub expression_goes : n ≡ 8 → {z : Res ℕ} → z ≡ ending_of (read_expr s ws max_depth (p + 1)) → z ≡ ending_of (read_action s ws p)
    expression_goes eight e = action_by 8 eight (e ∙ sym (made (read_expr s ws max_depth (p + 1)) _))

    pub change_goes : 3 ≤ n → n < 5 → {z : Res ℕ} → z ≡ ending_of (read_target s ws (p + 1)) → z ≡ ending_of (read_action s ws p)
    change_goes lo hi {z} e =
        let here : z ≡ ending_of (read_target s ws (suc p)) = rw (add-one p) at e in
        change_code (by s ws p) t lo hi (here ∙ sym (made (read_target s ws (suc p)) _)) (here ∙ sym (made (read_target s ws (suc p)) _))

    -- 7 is not written, and the other numbers are no codes
    pub action_none : NoneOf n 8 → refuse unfit p ≡ ending_of (read_action s ws p)
    action_none k = last_code (by s ws p) t 8 k (λ e. refl) (λ e. absurd (k.last e)) refl
