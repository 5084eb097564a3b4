-- What a walk answers for each reading of a flat rule, by the words that it meets. Assumes nothing.
use mathlib.Core.Path.{◌≡◌, refl, sym, ap, ◌∙◌}
use mathlib.Core.Bool.{Bool, true, false, ◌&&◌, ◌||◌, cond}
use mathlib.Core.List.{List, ◌∷◌}
use Prim.Native.Nat.{ℕ, zero, suc, ◌+◌, ◌*◌, ◌-◌, ◌/◌, ◌≤◌, ◌<◌, min}
use native.Mathlib.Numerals.{add-one}
use native.Mathlib.Omega.{arith}
use lib.ListN.{length, get_or}
use lib.Dec.{ltb, leb}
use borrow.Author.Tests.{lt-ltb, le-ltb, le-leb, lt-leb, eq-eqb, ne_eqb, ltb-true, leb-true, leb-false}
use Rattle.rules.specs.Words.{limit12, limit16, fresh_base, name_base, equality_base, head_base, literal_base, equality_word, is_fresh_word, is_name_word, is_literal_word}
use Rattle.rules.specs.Words.{is_head_word, is_equality_word, head_of, count_of, action_word, Code, a_let, a_set, a_call, code_of}
use Rattle.rules.specs.Refusals.{Res, ok, refuse, ◌>>=◌, demand, unfit, no_terms, not_two}
use Rattle.rules.specs.Signature.{Sig, heads}
use Rattle.rules.specs.Written.{Read, Reader, read_word, read_row}
use Rattle.rules.specs.Flat.{CoreAction, is_none, is_target, is_term, atom_shape, read_term, read_atom_shape, read_atom, read_terms, read_core_code, read_core_action}
use Rattle.words.proofs.Ranges.{within_true, true_within, false_below, false_above, heads_below}
use Rattle.words.proofs.WordLaws.{word_of, is_head, name_kind, fresh_below, no_fresh}
use Rattle.words.specs.Atom.{term_number_of, TermSays, head_kind, AtomSays}
use Rattle.std.specs.Prelude.{Option, Some, None}
use Rattle.words.specs.declared.Term.{Term}
use Rattle.words.specs.declared.HeadOrEq.TheVariants.{Head, Eq}
use Rattle.words.specs.declared.Atom.{Atom as Begun}
use Rattle.words.proofs.AtomLaws.{atom_head, atom_equality}
use Rattle.meaning.proofs.Lists.{and_left}
use Rattle.meaning.proofs.Results.{ok_inj}
use Rattle.flat.specs.Flat.{AtomNumbers, term_numbers, atom_numbers, numbers_from, is_term_at, term_at, first_at, read_behind}
use Rattle.written.specs.Written.{with_heads, with_globals, ending_of, or_unfit}
use Rattle.written.proofs.Walking.{stops, made, then_made, both, then_then}
use Rattle.words.proofs.WordAt.{There, NotKind}
use Rattle.written.proofs.Expected.{word_fits, word_unfit, heads_with, heads_most, head_with, head_other, head_high, head_fits_lem, head_count}
use Rattle.written.proofs.Expected.{no_code_lem, as_code, change_code, NoneOf, last_code}
use Rattle.words.specs.declared.Word.TheVariants as Said

-- ---- what an action may bind

module _ (H : ℕ) {ws : List ℕ} {p : ℕ} where
  pub target_name : NotKind ws p 0 → ending_of (read_word ws is_name_word p) ≡ ending_of (read_word ws (is_target (with_heads H)) p)
  target_name n = go (ltb p (length ws)) refl
    where
      go : (b : Bool) → ltb p (length ws) ≡ b
          → ending_of (demand {A = Read ℕ} (b && is_name_word (get_or ws p 0)) unfit p (record { value = get_or ws p 0; at = suc p }))
          ≡ ending_of (demand {A = Read ℕ} (b && is_target (with_heads H) (get_or ws p 0)) unfit p (record { value = get_or ws p 0; at = suc p }))
      go true e = rw (no_fresh (get_or ws p 0) (n.other (ltb-true p (length ws) e)) (heads (with_heads H)))
      go false e = refl

  module _ {h n : ℕ} (t : There ws p (Said.Fresh h n)) where
    below : ltb h (min H limit12) ≡ is_fresh_word (heads (with_heads H)) (get_or ws p 0)
    below = sym (fresh_below (get_or ws p 0) h n t.says (heads (with_heads H)) ∙ rw (heads_with H) refl)

    pub target_fresh : h < min H limit12 → ok (p + 1) ≡ ending_of (read_word ws (is_target (with_heads H)) p)
    target_fresh low =
        let fresh = sym below ∙ lt-ltb h (min H limit12) low in
        rw (word_fits (is_target (with_heads H)) ws p t.inside (rw fresh refl), add-one p) refl

    pub target_high : min H limit12 ≤ h → refuse unfit p ≡ ending_of (read_word ws (is_target (with_heads H)) p)
    target_high high =
        let none = sym below ∙ le-ltb h (min H limit12) high in
        rw (word_unfit (is_target (with_heads H)) ws p (λ l. rw none (name_kind (get_or ws p 0) ∙ rw t.says refl))) refl

-- ---- a term, by the range of its word

module _ (H w : ℕ) where
  -- below the fresh variables only a name or a literal is one
  leaf_term : w < fresh_base → is_name_word w || is_literal_word w ≡ is_term (with_heads H) w
  leaf_term low = simp (false_below fresh_base (heads (with_heads H) * limit16) w low)

  pub name_fits : name_base ≤ w → w < name_base + limit12 → is_term (with_heads H) w ≡ true
  name_fits lo hi = sym (leaf_term (omega arith)) ∙ simp (true_within name_base limit12 w lo hi)

  pub literal_fits : literal_base ≤ w → w < literal_base + limit16 → is_term (with_heads H) w ≡ true
  literal_fits lo hi = sym (leaf_term (omega arith)) ∙ simp (false_below name_base limit12 w (omega arith), true_within literal_base limit16 w lo hi)

  pub none_fits : w < fresh_base → is_name_word w ≡ false → is_literal_word w ≡ false → is_term (with_heads H) w ≡ false
  none_fits low n l = sym (leaf_term low) ∙ simp (n, l)

  -- a fresh variable is one by its head
  pub fresh_term : fresh_base ≤ w → ltb ((w - fresh_base) / limit16) (min H limit12) ≡ is_term (with_heads H) w
  fresh_term high =
      rw (heads_below fresh_base (heads (with_heads H)) w high, heads_with H, false_above name_base limit12 w (omega arith), false_above literal_base limit16 w (omega arith))
      (nothing_else (ltb ((w - fresh_base) / limit16) (min H limit12)))
    where
      nothing_else : (b : Bool) → b ≡ (b || false) || false
      nothing_else true = refl
      nothing_else false = refl

  pub fresh_fits : fresh_base ≤ w → (w - fresh_base) / limit16 < min H limit12 → is_term (with_heads H) w ≡ true
  fresh_fits high low = sym (fresh_term high) ∙ lt-ltb ((w - fresh_base) / limit16) (min H limit12) low

  pub fresh_unfit : fresh_base ≤ w → min H limit12 ≤ (w - fresh_base) / limit16 → is_term (with_heads H) w ≡ false
  fresh_unfit high above = sym (fresh_term high) ∙ le-ltb ((w - fresh_base) / limit16) (min H limit12) above

-- what is taken for it
pub no_word : (s : Sig) (ws : List ℕ) (p : ℕ) → length ws ≤ p → or_unfit term_numbers None p ≡ term_at s ws p
no_word s ws p l = rw (le-ltb p (length ws) l)

module _ (H G : ℕ) (ws : List ℕ) (p : ℕ) {w : ℕ} (is : w ≡ get_or ws p 0) (inside : p < length ws) where
  pub term_fits : {t : Term} → is_term (with_heads H) w ≡ true → TermSays t G w → or_unfit term_numbers (Some t) p ≡ term_at (with_globals H G) ws p
  term_fits fits says = rw (← is, lt-ltb p (length ws) inside, fits) (λ i. ok (record { number_is = says.number_is i; word_is = says.word_is i }))

  pub term_none : is_term (with_heads H) w ≡ false → or_unfit term_numbers None p ≡ term_at (with_globals H G) ws p
  term_none none = rw (← is, lt-ltb p (length ws) inside, none)

-- and what that tells
module _ (s : Sig) (ws : List ℕ) (p : ℕ) {x : Option Term} (read : or_unfit term_numbers x p ≡ term_at s ws p) where
  is_there : {t : Term} → x ≡ Some t → is_term_at s ws p ≡ true
  is_there {t} is = go (is_term_at s ws p) (ap (λ (y : Option Term). or_unfit term_numbers y p) (sym is) ∙ read)
    where
      go : (b : Bool) → or_unfit term_numbers (Some t) p ≡ demand b unfit p (record { number_is = term_number_of s.globals (get_or ws p 0); word_is = get_or ws p 0 }) → b ≡ true
      go true e = refl
      go false e = let z : ◌≡◌ {A = ℕ} 0 1 = cc in absurd (omega arith)

  pub term_inside : {t : Term} → x ≡ Some t → p < length ws
  term_inside is = ltb-true p (length ws) (and_left (ltb p (length ws)) (is_term s (get_or ws p 0)) (is_there is))

  pub term_taken : {t : Term} → x ≡ Some t → ok (p + 1) ≡ ending_of (read_term s ws p)
  term_taken is = rw (add-one p, is_there is) refl

  pub term_refused : x ≡ None → refuse unfit p ≡ ending_of (read_term s ws p)
  term_refused is = go (is_term_at s ws p) (ap (λ (y : Option Term). or_unfit term_numbers y p) (sym is) ∙ read)
    where
      go : (b : Bool) → or_unfit term_numbers None p ≡ demand b unfit p (record { number_is = term_number_of s.globals (get_or ws p 0); word_is = get_or ws p 0 })
          → refuse unfit p ≡ ending_of (demand {A = Read ℕ} b unfit p (record { value = get_or ws p 0; at = suc p }))
      go true e = let z : ◌≡◌ {A = ℕ} 0 1 = cc in absurd (omega arith)
      go false e = refl

-- ---- rows

module _ {A : Type 0} (one : Reader A) where
  more : (n p : ℕ) → ending_of (read_row one (suc n) p) ≡ ending_of (◌>>=◌ (one p) (λ x. read_row one n x.at))
  more n p = then_made (one p) (read_row one n) _

  -- a row and one more: a row that is one longer
  pub row_last : {B : Type 0} (n p : ℕ) (f : Read (List A) → Read A → B)
      → ending_of (read_row one (suc n) p) ≡ ending_of (◌>>=◌ (read_row one n p) (λ xs. ◌>>=◌ (one xs.at) (λ x. ok (record { value = f xs x; at = x.at }))))
  row_last {B} zero p f = more zero p ∙ go (one p) ∙ sym (made (one p) _)
    where
      go : (y : Res (Read A)) → ending_of (◌>>=◌ y (λ x. read_row one zero x.at)) ≡ ending_of y
      go (ok x) = refl
      go (refuse n q) = refl
  row_last {B} (suc n) p f = more (suc n) p ∙ go (one p) (λ x. row_last n x.at (λ xs y. f (put x xs) y))
    where
      put : Read A → Read (List A) → Read (List A)
      put x xs = record { value = x.value ∷ xs.value; at = xs.at }

      -- one more behind xs
      last : (Read A → B) → Read (List A) → Res (Read B)
      last g xs = ◌>>=◌ (one xs.at) (λ z. ok (record { value = g z; at = z.at }))

      go : (y : Res (Read A)) → ((x : Read A) → ending_of (read_row one (suc n) x.at) ≡ ending_of (◌>>=◌ (read_row one n x.at) (λ xs. last (f (put x xs)) xs)))
          → ending_of (◌>>=◌ y (λ x. read_row one (suc n) x.at)) ≡ ending_of (◌>>=◌ (◌>>=◌ y (λ x. ◌>>=◌ (read_row one n x.at) (λ xs. ok (put x xs)))) (λ xs. last (f xs) xs))
      go (ok x) h = h x ∙ ap ending_of (then_then (read_row one n x.at) _ _)
      go (refuse n q) h = refl

  -- one and one more
  pub row_pair : {B : Type 0} (p : ℕ) (f : Read A → Read A → B)
      → ending_of (read_row one 2 p) ≡ ending_of (◌>>=◌ (one p) (λ a. ◌>>=◌ (one a.at) (λ b. ok (record { value = f a b; at = b.at }))))
  row_pair {B} p f = more 1 p ∙ go (one p)
    where
      go : (y : Res (Read A)) → ending_of (◌>>=◌ y (λ x. read_row one 1 x.at)) ≡ ending_of (◌>>=◌ y (λ a. ◌>>=◌ (one a.at) (λ b. ok (record { value = f a b; at = b.at }))))
      go (ok x) = row_last 0 x.at (λ xs b. f x b)
      go (refuse n q) = refl

-- ---- how an atom begins

module _ (ws : List ℕ) (p : ℕ) where
  -- what an answer for the word at p is
  abbrev Begins : Option Begun → Type 0
  Begins x = or_unfit atom_numbers x p ≡ first_at ws p

  pub first_missing : length ws ≤ p → Begins None
  unfolding first_at
  first_missing l = rw (le-ltb p (length ws) l)

  -- w is the word there
  module _ {w : ℕ} (i : p < length ws) (is : w ≡ get_or ws p 0) where
    pub first_low : w < equality_base → Begins None
    unfolding first_at
    first_low l = rw (lt-ltb p (length ws) i, lt-leb equality_base (get_or ws p 0) (omega arith))

    pub first_high : literal_base ≤ w → Begins None
    unfolding first_at
    first_high l = rw (lt-ltb p (length ws) i, le-leb equality_base (get_or ws p 0) (omega arith), le-ltb (get_or ws p 0) literal_base (omega arith))

    pub first_here : {a : Begun} → AtomSays a w p → equality_base ≤ w → w < literal_base → Begins (Some a)
    unfolding first_at
    first_here {a} s lo hi =
        ap ok (numbered ∙ ap (λ (u : ℕ). numbers_from u p) is)
        ∙ rw (lt-ltb p (length ws) i, le-leb equality_base (get_or ws p 0) (omega arith), lt-ltb (get_or ws p 0) literal_base (omega arith)) refl
      where
        numbered : atom_numbers a ≡ numbers_from w p
        numbered i =
            record {
              kind_is = s.kind_is i;
              number_is = s.number_is i;
              count_is = s.count_is i;
              terms_at = s.terms_at i;
              next_at = (s.next_at ∙ ap (λ (n : ℕ). p + 1 + n) s.count_is) i;
            }

-- the atom a begins at p
pub record AtomAt (ws : List ℕ) (p : ℕ) (a : Begun) : Type 0 where
  pub inside : p < length ws
  pub low : equality_base ≤ get_or ws p 0
  pub high : get_or ws p 0 < literal_base
  pub says : AtomSays a (get_or ws p 0) p

module _ {ws : List ℕ} {p : ℕ} {x : Option Begun} (read : or_unfit atom_numbers x p ≡ first_at ws p) where
  pub atom_there : {a : Begun} → x ≡ Some a → AtomAt ws p a
  unfolding first_at
  atom_there {a} is =
      go (ltb p (length ws)) refl (leb equality_base (get_or ws p 0)) refl (ltb (get_or ws p 0) literal_base) refl (ap (λ (y : Option Begun). or_unfit atom_numbers y p) (sym is) ∙ read)
    where
      says : atom_numbers a ≡ numbers_from (get_or ws p 0) p → AtomSays a (get_or ws p 0) p
      says e =
          let count = ap (λ (n : AtomNumbers). n.count_is) e in
          record {
            kind_is = ap (λ (n : AtomNumbers). n.kind_is) e;
            number_is = ap (λ (n : AtomNumbers). n.number_is) e;
            count_is = count;
            terms_at = ap (λ (n : AtomNumbers). n.terms_at) e;
            next_at = ap (λ (n : AtomNumbers). n.next_at) e ∙ ap (λ (n : ℕ). p + 1 + n) (sym count);
          }

      go : (i : Bool) → ltb p (length ws) ≡ i → (l : Bool) → leb equality_base (get_or ws p 0) ≡ l → (h : Bool) → ltb (get_or ws p 0) literal_base ≡ h
          → ok (atom_numbers a) ≡ cond (i && (l && h)) (ok (numbers_from (get_or ws p 0) p)) (refuse unfit p)
          → AtomAt ws p a
      go true ei true el true eh e =
          record {
            inside = ltb-true p (length ws) ei;
            low = leb-true equality_base (get_or ws p 0) el;
            high = ltb-true (get_or ws p 0) literal_base eh;
            says = says (ok_inj _ _ e);
          }
      go true ei true el false eh e = let z : ◌≡◌ {A = ℕ} 0 1 = cc in absurd (omega arith)
      go true ei false el h eh e = let z : ◌≡◌ {A = ℕ} 0 1 = cc in absurd (omega arith)
      go false ei l el h eh e = let z : ◌≡◌ {A = ℕ} 0 1 = cc in absurd (omega arith)

-- no word that begins one stands there
none_there : (ws : List ℕ) (p : ℕ) {x : Option Begun} → or_unfit atom_numbers x p ≡ first_at ws p → x ≡ None
    → p < length ws → equality_base ≤ get_or ws p 0 → get_or ws p 0 < literal_base → ⊥
unfolding first_at
none_there ws p read is i lo hi =
    let e : refuse unfit p ≡ ok (numbers_from (get_or ws p 0) p) =
    ap (λ (y : Option Begun). or_unfit atom_numbers y p) (sym is) ∙ read
    ∙ rw (lt-ltb p (length ws) i, le-leb equality_base (get_or ws p 0) lo, lt-ltb (get_or ws p 0) literal_base hi) refl in
    let z : ◌≡◌ {A = ℕ} 0 1 = cc in
    omega arith

-- ---- atoms

module _ (H : ℕ) (ws : List ℕ) (p : ℕ) where
  abbrev s : Sig
  s = with_heads H

  abbrev w : ℕ
  w = get_or ws p 0

  pub atom_other : {x : Option Begun} → or_unfit atom_numbers x p ≡ first_at ws p → x ≡ None → refuse unfit p ≡ ending_of (read_atom s ws p)
  atom_other read is = go (ltb p (length ws)) refl
    where
      out : p < length ws → equality_base ≤ w → w < literal_base → ⊥
      out = none_there ws p read is

      no_equality : p < length ws → (b : Bool) → is_equality_word w ≡ b → b ≡ false
      no_equality i true e = let r = within_true equality_base equality_base w e in absurd (out i r.0 (omega arith))
      no_equality i false e = refl

      no_table : p < length ws → (b : Bool) → is_head_word (heads s) w ≡ b → b ≡ false
      no_table i true e =
          let r = within_true head_base (heads s * limit16) w e in
          let m = heads_most H in
          absurd (out i (omega arith) (omega arith))
      no_table i false e = refl

      go : (b : Bool) → ltb p (length ws) ≡ b → refuse unfit p ≡ ending_of (read_atom_shape s ws (cond b (atom_shape s w) is_none) w p)
      go true e =
          let i = ltb-true p (length ws) e in
          rw (no_equality i (is_equality_word w) refl, no_table i (is_head_word (heads s) w) refl)
      go false e = refl

-- its kind, by its head
module _ {a : Begun} {w p : ℕ} (s : AtomSays a w p) where
  eq_below : a.head ≡ Eq → w < head_base
  eq_below e = go (leb head_base w) refl
    where
      go : (b : Bool) → leb head_base w ≡ b → w < head_base
      go true l =
          let z : ◌≡◌ {A = ℕ} 4 3 = ap head_kind (sym e ∙ (atom_head s (leb-true head_base w l)).0) in
          absurd (omega arith)
      go false l = leb-false head_base w l

  head_above : {h : ℕ} → a.head ≡ Head h → head_base ≤ w
  head_above {h} e = go (leb head_base w) refl
    where
      go : (b : Bool) → leb head_base w ≡ b → head_base ≤ w
      go true l = leb-true head_base w l
      go false l =
          let z : ◌≡◌ {A = ℕ} 3 4 = ap head_kind (sym e ∙ (atom_equality s (leb-false head_base w l)).0) in
          absurd (omega arith)

-- an equality
module _ (H : ℕ) {ws : List ℕ} {p : ℕ} {a : Begun} (t : AtomAt ws p a) (is : a.head ≡ Eq) where
  equality_is_word : (is_equality_word (get_or ws p 0) ≡ true) × (get_or ws p 0 ≡ equality_base + a.count)
  equality_is_word =
      let w : ℕ = get_or ws p 0 in
      let low = eq_below t.says is in
      let count = (atom_equality t.says low).1 in
      (true_within equality_base equality_base w t.low (omega arith), omega (arith, t.low))

  pub pair_goes : a.count ≡ 2 → ending_of (read_row (read_term (with_heads H) ws) a.count a.terms) ≡ ending_of (read_atom (with_heads H) ws p)
  pair_goes two =
      let e = equality_is_word in
      rw (two, t.says.terms_at, add-one p, lt-ltb p (length ws) t.inside, e.0, eq-eqb (get_or ws p 0) equality_word (omega arith))
      (row_pair (read_term (with_heads H) ws) (suc p) _)

  pub odd_refused : ¬ (a.count ≡ 2) → refuse not_two p ≡ ending_of (read_atom (with_heads H) ws p)
  odd_refused odd =
      let e = equality_is_word in
      rw (lt-ltb p (length ws) t.inside, e.0, ne_eqb (get_or ws p 0) equality_word (λ same. odd (omega arith)))

-- an atom of head h
module _ (H : ℕ) {ws : List ℕ} {p h : ℕ} {a : Begun} (t : AtomAt ws p a) (is : a.head ≡ Head h) where
  table_word : (is_equality_word (get_or ws p 0) ≡ false) × (is_head_word (heads (with_heads H)) (get_or ws p 0) ≡ ltb h H) × (count_of (get_or ws p 0) ≡ a.count)
  table_word =
      let w : ℕ = get_or ws p 0 in
      let above = head_above t.says is in
      let same = atom_head t.says above in
      let head : Head (head_of w) ≡ Head h = sym same.0 ∙ is in
      let number : head_of w ≡ h = cc in
      let inside = true_within head_base head_base w above (omega (arith, t.high)) in
      let says : word_of w ≡ Some (Said.Head h (count_of w)) = is_head w inside ∙ ap (λ n. Some (Said.Head n (count_of w))) number in
      (false_above equality_base equality_base w (omega arith), head_with H w h (count_of w) says, sym same.1)

  pub head_refused : H ≤ h → refuse unfit p ≡ ending_of (read_atom (with_heads H) ws p)
  head_refused high =
      let e = table_word in
      rw (lt-ltb p (length ws) t.inside, e.0, e.1, le-ltb h H high)

  pub empty_refused : h < H → a.count ≡ 0 → refuse no_terms p ≡ ending_of (read_atom (with_heads H) ws p)
  empty_refused low none =
      let e = table_word in
      rw (lt-ltb p (length ws) t.inside, e.0, e.1, lt-ltb h H low, eq-eqb (count_of (get_or ws p 0)) 0 (omega arith))

  pub table_goes : h < H → ¬ (a.count ≡ 0) → ending_of (read_row (read_term (with_heads H) ws) a.count a.terms) ≡ ending_of (read_atom (with_heads H) ws p)
  table_goes low some =
      let e = table_word in
      let n : ℕ = count_of (get_or ws p 0) in
      let up : a.count ≡ suc (n - 1) = omega arith in
      rw (t.says.terms_at, add-one p, lt-ltb p (length ws) t.inside, e.0, e.1, lt-ltb h H low, ne_eqb n 0 (λ z. some (omega arith)))
      (ap (λ n. ending_of (read_row (read_term (with_heads H) ws) n (suc p))) up ∙ row_last (read_term (with_heads H) ws) (n - 1) (suc p) _)

-- ---- a kind 3 word and its terms

module _ (H : ℕ) {ws : List ℕ} {p : ℕ} where
  pub terms_other : NotKind ws p 3 → refuse unfit p ≡ ending_of (read_terms (with_heads H) ws p)
  terms_other n = rw (head_other H n) refl

  module _ {h n : ℕ} (t : There ws p (Said.Head h n)) where
    pub terms_high : H ≤ h → refuse unfit p ≡ ending_of (read_terms (with_heads H) ws p)
    terms_high high = rw (head_high H t high) refl

    pub terms_go : h < H → ending_of (read_row (read_term (with_heads H) ws) n (p + 1)) ≡ ending_of (read_terms (with_heads H) ws p)
    terms_go low = rw (head_fits_lem H t low, add-one p, ← head_count t) (sym (made (read_row (read_term (with_heads H) ws) (count_of (get_or ws p 0)) (suc p)) _))

-- ---- what stands behind an action word: one thing, then another

module _ (s : Sig) (ws : List ℕ) (q : ℕ) where
  pub let_stops : {n p : ℕ} → refuse n p ≡ ending_of (read_word ws (is_target s) q) → refuse n p ≡ ending_of (read_behind s ws a_let q)
  let_stops e = stops (read_word ws (is_target s) q) _ e

  pub let_goes : {r : ℕ} {z : Res ℕ} → ok r ≡ ending_of (read_word ws (is_target s) q) → z ≡ ending_of (read_term s ws r) → z ≡ ending_of (read_behind s ws a_let q)
  let_goes e g = both (read_word ws (is_target s) q) (read_term s ws) _ e g

  pub set_stops : {n p : ℕ} → refuse n p ≡ ending_of (read_terms s ws q) → refuse n p ≡ ending_of (read_behind s ws a_set q)
  set_stops e = stops (read_terms s ws q) _ e

  pub set_goes : {r : ℕ} {z : Res ℕ} → ok r ≡ ending_of (read_terms s ws q) → z ≡ ending_of (read_term s ws r) → z ≡ ending_of (read_behind s ws a_set q)
  set_goes e g = both (read_terms s ws q) (read_term s ws) _ e g

  pub call_stops : {n p : ℕ} → refuse n p ≡ ending_of (read_word ws (is_target s) q) → refuse n p ≡ ending_of (read_behind s ws a_call q)
  call_stops e = stops (read_word ws (is_target s) q) _ e

  pub call_goes : {r : ℕ} {z : Res ℕ} → ok r ≡ ending_of (read_word ws (is_target s) q) → z ≡ ending_of (read_terms s ws r) → z ≡ ending_of (read_behind s ws a_call q)
  call_goes e g = both (read_word ws (is_target s) q) (read_terms s ws) _ e g

-- ---- an action, by its code

-- what stands at p, by the code of its word
abbrev by : Sig → List ℕ → ℕ → Code → Res (Read CoreAction)
by s ws p k = read_core_code s ws p k (suc p)

module _ (s : Sig) {ws : List ℕ} {p : ℕ} where
  pub action_other : NotKind ws p 6 → refuse unfit p ≡ ending_of (read_core_action s ws p)
  action_other n = rw (no_code_lem n) refl

  module _ {n : ℕ} (t : There ws p (Said.Action n)) {z : Res ℕ} where
    pub action_by : (m : ℕ) → n ≡ m → z ≡ ending_of (read_core_code s ws p (code_of (action_word m)) (p + 1)) → z ≡ ending_of (read_core_action s ws p)
    action_by m same e = as_code (by s ws p) t m same (rw (add-one p) at e)

    pub change_goes : 3 ≤ n → n < 5 → z ≡ ending_of (read_terms s ws (p + 1)) → z ≡ ending_of (read_core_action s ws p)
    change_goes lo hi e =
        let here : z ≡ ending_of (read_terms s ws (suc p)) = rw (add-one p) at e in
        change_code (by s ws p) t lo hi (here ∙ sym (made (read_terms s ws (suc p)) _)) (here ∙ sym (made (read_terms s ws (suc p)) _))

    pub union_goes : n ≡ 5 → z ≡ ending_of (read_row (read_term s ws) 2 (p + 1)) → z ≡ ending_of (read_core_action s ws p)
    union_goes five e = action_by 5 five (e ∙ row_pair (read_term s ws) (p + 1) _)

    pub panic_goes : n ≡ 6 → z ≡ ending_of (read_word ws is_literal_word (p + 1)) → z ≡ ending_of (read_core_action s ws p)
    panic_goes six e = action_by 6 six (e ∙ sym (made (read_word ws is_literal_word (p + 1)) _))

  -- 8 is not flat, and the other numbers are no codes
  pub action_none : {n : ℕ} → There ws p (Said.Action n) → NoneOf n 7 → refuse unfit p ≡ ending_of (read_core_action s ws p)
  action_none t k = last_code (by s ws p) t 7 k (λ e. absurd (k.last e)) (λ e. refl) refl
