-- What the first word of an expression tells of it: from the definition of reading to the cases of a walk. Assumes nothing.
use mathlib.Core.Path.{◌≡◌, refl, sym, ap, ◌∙◌, subst}
use mathlib.Core.Bool.{Bool, true, false, cond, ◌||◌}
use mathlib.Core.List.{List, [], ◌∷◌}
use Prim.Native.Nat.{ℕ, zero, suc, ◌+◌, ◌-◌, ◌*◌, ◌≤◌, ◌<◌}
use native.Mathlib.Numerals.{add-one}
use native.Mathlib.Omega.{arith}
use lib.Dec.{ltb}
use lib.ListN.{length, get_or}
use borrow.Author.Tests.{ltb-true}
use Rattle.rules.specs.Words.{limit12, limit16, name_base, literal_base, head_base, fresh_base, is_name_word, is_literal_word, is_head_word, head_of, count_of}
use Rattle.rules.specs.Refusals.{ok, refuse, unfit, too_deep}
use Rattle.rules.specs.Signature.{Sig, heads}
use Rattle.rules.specs.Written.{Expr, Exprs, leaf, call, end, ◌then◌, Shape, is_leaf, is_call, is_bad, shape_at, Read, Reader, read_row, read_many, read_shape, read_expr}
use Rattle.meaning.proofs.Results.{bind_ok, ok_inj, refuse_ok}
use Rattle.meaning.proofs.Reading.{within_low, within_high, head_below, expr_reads}
use Rattle.walks.specs.Steps.{ReadAt, ExprAt, ExprsAt}

-- ---- what a reader reads, by its size

abbrev pub at_read : {A : Type 0} (one : Reader A) (ws : List ℕ) (at : ℕ) (q : Read A) → one at ≡ ok q → at ≤ q.at → q.at ≤ length ws → ReadAt one ws at
at_read {A} one ws at q e h k = record { value = q.value; size = q.at - at; reads = e ∙ (λ i. ok (record { value = q.value; at = sum i })); inside = omega arith }
  where
    sum : q.at ≡ at + (q.at - at)
    sum = omega arith

-- the same from a place that is equal
abbrev pub moved : {A : Type 0} (one : Reader A) (ws : List ℕ) (at at' : ℕ) → at ≡ at' → ReadAt one ws at → ReadAt one ws at'
moved {A} one ws at at' e x =
    record {
      value = x.value;
      size = x.size;
      reads = subst (λ (p : ℕ). one p ≡ ok (record { value = x.value; at = p + x.size })) e x.reads;
      inside = subst (λ (p : ℕ). p + x.size ≤ length ws) e x.inside;
    }

-- n expressions have at least n words
many_on : (one : Reader Expr) → ((p : ℕ) (q : Read Expr) → one p ≡ ok q → p < q.at) → (n p : ℕ) (q : Read Exprs) → read_many one n p ≡ ok q → p + n ≤ q.at
many_on one h zero p q e = subst (λ (x : Read Exprs). p + zero ≤ x.at) (ok_inj _ _ e) (omega arith)
many_on one h (suc n) p q e =
    let a = bind_ok (one p) _ q e in
    let b = bind_ok (read_many one n a.0.at) _ q a.2 in
    let i = h p a.0 a.1 in
    let j = many_on one h n a.0.at b.0 b.1 in
    subst (λ (x : Read Exprs). p + suc n ≤ x.at) (ok_inj _ _ b.2) (omega arith)

-- a row ends inside, where each of its things does
pub row_inside : {A : Type 0} (one : Reader A) (e : ℕ) → ((p : ℕ) (q : Read A) → one p ≡ ok q → q.at ≤ e) → (n p : ℕ) (q : Read (List A)) → p ≤ e → read_row one n p ≡ ok q → q.at ≤ e
row_inside {A} one e h zero p q i k = subst (λ (x : Read (List A)). x.at ≤ e) (ok_inj _ _ k) i
row_inside {A} one e h (suc n) p q i k =
    let a = bind_ok (one p) _ q k in
    let b = bind_ok (read_row one n a.0.at) _ q a.2 in
    subst (λ (x : Read (List A)). x.at ≤ e) (ok_inj _ _ b.2) (row_inside one e h n a.0.at b.0 (h p a.0 a.1) b.1)

pub many_inside : (one : Reader Expr) (e : ℕ) → ((p : ℕ) (q : Read Expr) → one p ≡ ok q → q.at ≤ e) → (n p : ℕ) (q : Read Exprs) → p ≤ e → read_many one n p ≡ ok q → q.at ≤ e
many_inside one e h zero p q i k = subst (λ (x : Read Exprs). x.at ≤ e) (ok_inj _ _ k) i
many_inside one e h (suc n) p q i k =
    let a = bind_ok (one p) _ q k in
    let b = bind_ok (read_many one n a.0.at) _ q a.2 in
    subst (λ (x : Read Exprs). x.at ≤ e) (ok_inj _ _ b.2) (many_inside one e h n a.0.at b.0 (h p a.0 a.1) b.1)

module _ (sig : Sig) (ws : List ℕ) where
  abbrev pub expr_at : (d at : ℕ) (q : Read Expr) → read_expr sig ws d at ≡ ok q → ExprAt sig ws d at
  expr_at d at q e = let r = expr_reads sig ws d at q e in at_read (read_expr sig ws d) ws at q e (omega (arith, r.on)) r.inside

  pub expr_some : (d at : ℕ) (x : ExprAt sig ws d at) → 0 < x.size
  expr_some d at x = omega (arith, (expr_reads sig ws d at _ x.reads).on)

  pub exprs_on : (d n at : ℕ) (q : Read Exprs) → read_many (read_expr sig ws d) n at ≡ ok q → at + n ≤ q.at
  exprs_on d n at q e = many_on (read_expr sig ws d) (λ p r k. (expr_reads sig ws d p r k).on) n at q e

  pub exprs_many : (d n at : ℕ) (x : ExprsAt sig ws d n at) → n ≤ x.size
  exprs_many d n at x = omega (arith, exprs_on d n at _ x.reads)

  abbrev pub exprs_at : (d n at : ℕ) (q : Read Exprs) → read_many (read_expr sig ws d) n at ≡ ok q → q.at ≤ length ws → ExprsAt sig ws d n at
  exprs_at d n at q e k = at_read (read_many (read_expr sig ws d) n) ws at q e (omega (arith, exprs_on d n at q e)) k

  -- ---- an expression by its first word

  record IsLeaf (w at : ℕ) (r : Read Expr) : Type 0 where
    pub inside : at < length ws
    pub low : literal_base ≤ w
    pub old : w < fresh_base
    pub is : record { value = leaf at w; at = suc at } ≡ r

  record IsCall (args : ℕ → Reader Exprs) (w at : ℕ) (r : Read Expr) : Type 0 where
    pub inside : at < length ws
    pub high : head_base ≤ w
    pub low : w < literal_base
    pub head : head_of w < heads sig
    pub exprs : Read Exprs
    pub reads : args (count_of w) (suc at) ≡ ok exprs
    pub is : record { value = call at (head_of w) exprs.value; at = exprs.at } ≡ r

  module _ (few : heads sig ≤ limit12) where
    shape_cases : (P : Type 0) (args : ℕ → Reader Exprs) (w at : ℕ) (r : Read Expr) → (IsLeaf w at r → P) → (IsCall args w at r → P)
        → (i : Bool) → ltb at (length ws) ≡ i → (n : Bool) → is_name_word w ≡ n → (l : Bool) → is_literal_word w ≡ l → (h : Bool) → is_head_word (heads sig) w ≡ h
        → read_shape (cond i (cond (n || l) is_leaf (cond h is_call is_bad)) is_bad) false args w at ≡ ok r → P
    shape_cases P args w at r f g false ei n en l el h eh k = absurd (refuse_ok unfit at r k)
    shape_cases P args w at r f g true ei true en l el h eh k =
        let a = within_low name_base limit12 w en in
        let b = within_high name_base limit12 w en in
        f (record { inside = ltb-true at (length ws) ei; low = omega arith; old = omega arith; is = ok_inj _ _ k })
    shape_cases P args w at r f g true ei false en true el h eh k =
        let a = within_low literal_base limit16 w el in
        let b = within_high literal_base limit16 w el in
        f (record { inside = ltb-true at (length ws) ei; low = a; old = omega arith; is = ok_inj _ _ k })
    shape_cases P args w at r f g true ei false en false el true eh k =
        let a = within_low head_base (heads sig * limit16) w eh in
        let b = within_high head_base (heads sig * limit16) w eh in
        let es = bind_ok (args (count_of w) (suc at)) _ r k in
        g (record { inside = ltb-true at (length ws) ei; high = a; low = omega arith; head = head_below (heads sig) w eh; exprs = es.0; reads = es.1; is = ok_inj _ _ es.2 })
    shape_cases P args w at r f g true ei false en false el false eh k = absurd (refuse_ok unfit at r k)

    none_deep : (args : ℕ → Reader Exprs) (w at : ℕ) (r : Read Expr) (sh : Shape) → read_shape sh true args w at ≡ ok r → ⊥
    none_deep args w at r is_bad k = refuse_ok unfit at r k
    none_deep args w at r is_leaf k = refuse_ok too_deep at r k
    none_deep args w at r is_call k = refuse_ok too_deep at r k

    word_cases : (P : Type 0) (d at : ℕ) (r : Read Expr) → read_expr sig ws d at ≡ ok r → (IsLeaf (get_or ws at 0) at r → P)
        → (0 < d → IsCall (read_many (read_expr sig ws (d - 1))) (get_or ws at 0) at r → P) → P
    word_cases P zero at r e f g = absurd (none_deep (λ n q. refuse too_deep q) (get_or ws at 0) at r (shape_at sig ws at) e)
    word_cases P (suc d) at r e f g =
        let w = get_or ws at 0 in
        let less : d ≡ suc d - 1 = omega arith in
        shape_cases P (read_many (read_expr sig ws d)) w at r f
        (λ c. g (omega arith) (subst (λ (k : ℕ). IsCall (read_many (read_expr sig ws k)) w at r) less c))
        (ltb at (length ws)) refl (is_name_word w) refl (is_literal_word w) refl (is_head_word (heads sig) w) refl e

    -- a first word from the literals up is a leaf
    pub leaf_cases : (P : Expr → ℕ → Type 0) (d at w : ℕ) (x : ExprAt sig ws d at) → w ≡ get_or ws at 0 → literal_base ≤ w
        → (at < length ws → w < fresh_base → P (leaf at w) 1) → P x.value x.size
    leaf_cases P d at w x e high k =
        word_cases (P x.value x.size) d at _ x.reads (λ l. leafy l) (λ z c. absurd (omega (arith, c.low)))
      where
        leafy : IsLeaf (get_or ws at 0) at (record { value = x.value; at = at + x.size }) → P x.value x.size
        leafy l =
            let ends : suc at ≡ at + x.size = ap (λ (r : Read Expr). r.at) l.is in
            let one : 1 ≡ x.size = omega arith in
            let tree : leaf at w ≡ x.value = ap (leaf at) e ∙ ap (λ (r : Read Expr). r.value) l.is in
            let old : w < fresh_base = omega (arith, l.old) in
            subst (P x.value) one (subst (λ (t : Expr). P t 1) tree (k l.inside old))

    -- and one below them is a call. P of the call that the word w starts:
    abbrev Called : (P : Expr → ℕ → Type 0) (d at w : ℕ) → Type 0
    Called P d at w = (es : ExprsAt sig ws (d - 1) (count_of w) (at + 1)) → 0 < d → head_base ≤ w → head_of w < heads sig → P (call at (head_of w) es.value) (1 + es.size)

    pub call_cases : (P : Expr → ℕ → Type 0) (d at w : ℕ) (x : ExprAt sig ws d at) → w ≡ get_or ws at 0 → w < literal_base
        → ((es : ExprsAt sig ws (d - 1) (count_of w) (at + 1)) → 0 < d → head_base ≤ w → head_of w < heads sig → P (call at (head_of w) es.value) (1 + es.size)) → P x.value x.size
    call_cases P d at w x e low k =
        word_cases (P x.value x.size) d at _ x.reads (λ l. absurd (omega (arith, l.low))) (λ z c. called z c)
      where
        called : 0 < d → IsCall (read_many (read_expr sig ws (d - 1))) (get_or ws at 0) at (record { value = x.value; at = at + x.size }) → P x.value x.size
        called z c =
            let v = get_or ws at 0 in
            let ends : c.exprs.at ≡ at + x.size = ap (λ (r : Read Expr). r.at) c.is in
            let tree : call at (head_of v) c.exprs.value ≡ x.value = ap (λ (r : Read Expr). r.value) c.is in
            let reads : read_many (read_expr sig ws (d - 1)) (count_of v) (at + 1) ≡ ok c.exprs = ap (read_many (read_expr sig ws (d - 1)) (count_of v)) (add-one at) ∙ c.reads in
            let es = exprs_at (d - 1) (count_of v) (at + 1) c.exprs reads (omega (arith, x.inside)) in
            let on = exprs_on (d - 1) (count_of v) (at + 1) c.exprs reads in
            let size : 1 + es.size ≡ x.size = omega arith in
            let here : P (call at (head_of v) es.value) (1 + es.size) = subst (Called P d at) e k es z c.high c.head in
            subst (P x.value) size (subst (λ (t : Expr). P t (1 + es.size)) tree here)

  -- ---- n expressions: the first and the others, or none

  pub first_cases : (P : Exprs → ℕ → Type 0) (d n at : ℕ) (x : ExprsAt sig ws d n at) → 0 < n
      → ((f : ExprAt sig ws d at) (fs : ExprsAt sig ws d (n - 1) (at + f.size)) → P (f.value then fs.value) (f.size + fs.size)) → P x.value x.size
  first_cases P d zero at x h k = absurd (omega arith)
  first_cases P d (suc n) at x h k =
      let a = bind_ok (read_expr sig ws d at) _ _ x.reads in
      let b = bind_ok (read_many (read_expr sig ws d) n a.0.at) _ _ a.2 in
      let is = ok_inj _ _ b.2 in
      let f = expr_at d at a.0 a.1 in
      let on = (expr_reads sig ws d at a.0 a.1).on in
      let ends : b.0.at ≡ at + x.size = ap (λ (r : Read Exprs). r.at) is in
      let here : at + f.size ≡ a.0.at = omega arith in
      let less : n ≡ suc n - 1 = omega arith in
      let reads : read_many (read_expr sig ws d) (suc n - 1) (at + f.size) ≡ ok b.0 = (λ i. read_many (read_expr sig ws d) (sym less i) (here i)) ∙ b.1 in
      let fs = exprs_at d (suc n - 1) (at + f.size) b.0 reads (omega (arith, x.inside)) in
      let on2 = exprs_on d (suc n - 1) (at + f.size) b.0 reads in
      let size : f.size + fs.size ≡ x.size = omega arith in
      let tree : (a.0.value then b.0.value) ≡ x.value = ap (λ (r : Read Exprs). r.value) is in
      subst (P x.value) size (subst (λ (t : Exprs). P t (f.size + fs.size)) tree (k f fs))

  pub none_cases : (P : Exprs → ℕ → Type 0) (d n at : ℕ) (x : ExprsAt sig ws d n at) → n ≡ 0 → P end 0 → P x.value x.size
  none_cases P d zero at x h k =
      let is = ok_inj _ _ x.reads in
      let ends : at ≡ at + x.size = ap (λ (r : Read Exprs). r.at) is in
      let size : 0 ≡ x.size = omega arith in
      subst (P x.value) size (subst (λ (t : Exprs). P t 0) (ap (λ (r : Read Exprs). r.value) is) k)
  none_cases P d (suc n) at x h k = absurd (omega arith)

-- ---- a row: the first and the others, or none

module _ {A : Type 0} (one : Reader A) (ws : List ℕ) (forward : (p : ℕ) (q : Read A) → one p ≡ ok q → p ≤ q.at) where
  pub row_on : (n p : ℕ) (q : Read (List A)) → read_row one n p ≡ ok q → p ≤ q.at
  row_on zero p q e = subst (λ (x : Read (List A)). p ≤ x.at) (ok_inj _ _ e) (omega arith)
  row_on (suc n) p q e =
      let a = bind_ok (one p) _ q e in
      let b = bind_ok (read_row one n a.0.at) _ q a.2 in
      let i = forward p a.0 a.1 in
      let j = row_on n a.0.at b.0 b.1 in
      subst (λ (x : Read (List A)). p ≤ x.at) (ok_inj _ _ b.2) (omega arith)

  abbrev pub row_at : (n at : ℕ) (q : Read (List A)) → read_row one n at ≡ ok q → q.at ≤ length ws → ReadAt (read_row one n) ws at
  row_at n at q e k = at_read (read_row one n) ws at q e (row_on n at q e) k

  pub row_cases : (P : List A → ℕ → Type 0) (n at : ℕ) (x : ReadAt (read_row one n) ws at) → 0 < n
      → ((f : ReadAt one ws at) (fs : ReadAt (read_row one (n - 1)) ws (at + f.size)) → P (f.value ∷ fs.value) (f.size + fs.size)) → P x.value x.size
  row_cases P zero at x h k = absurd (omega arith)
  row_cases P (suc n) at x h k =
      let a = bind_ok (one at) _ _ x.reads in
      let b = bind_ok (read_row one n a.0.at) _ _ a.2 in
      let is = ok_inj _ _ b.2 in
      let on = forward at a.0 a.1 in
      let on2 = row_on n a.0.at b.0 b.1 in
      let ends : b.0.at ≡ at + x.size = ap (λ (r : Read (List A)). r.at) is in
      let f = at_read one ws at a.0 a.1 on (omega (arith, x.inside)) in
      let here : at + f.size ≡ a.0.at = omega arith in
      let less : n ≡ suc n - 1 = omega arith in
      let reads : read_row one (suc n - 1) (at + f.size) ≡ ok b.0 = (λ i. read_row one (sym less i) (here i)) ∙ b.1 in
      let fs = row_at (suc n - 1) (at + f.size) b.0 reads (omega (arith, x.inside)) in
      let size : f.size + fs.size ≡ x.size = omega arith in
      let tree : (a.0.value ∷ b.0.value) ≡ x.value = ap (λ (r : Read (List A)). r.value) is in
      subst (P x.value) size (subst (λ (t : List A). P t (f.size + fs.size)) tree (k f fs))

  pub no_row_cases : (P : List A → ℕ → Type 0) (n at : ℕ) (x : ReadAt (read_row one n) ws at) → n ≡ 0 → P [] 0 → P x.value x.size
  no_row_cases P zero at x h k =
      let is = ok_inj _ _ x.reads in
      let ends : at ≡ at + x.size = ap (λ (r : Read (List A)). r.at) is in
      let size : 0 ≡ x.size = omega arith in
      subst (P x.value) size (subst (λ (t : List A). P t 0) (ap (λ (r : Read (List A)). r.value) is) k)
  no_row_cases P (suc n) at x h k = absurd (omega arith)

-- ---- the same expressions under an equal count

abbrev pub recount : (sig : Sig) (ws : List ℕ) (d n n' at : ℕ) → n ≡ n' → ExprsAt sig ws d n at → ExprsAt sig ws d n' at
recount sig ws d n n' at e x =
    record {
      value = x.value;
      size = x.size;
      reads = subst (λ (k : ℕ). read_many (read_expr sig ws d) k at ≡ ok (record { value = x.value; at = at + x.size })) e x.reads;
      inside = x.inside;
    }
