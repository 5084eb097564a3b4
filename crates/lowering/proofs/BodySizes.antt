-- How large a flat body is, by the words of its facts: at most three for each. And its head words lie below the names, so that a scan for a name
-- passes them over. Assumes nothing.
use mathlib.Core.Path.{◌≡◌, refl, ap, subst}
use mathlib.Core.Bool.{Bool, true, false}
use mathlib.Core.List.{List, [], ◌∷◌, ◌++◌}
use Prim.Native.Nat.{ℕ, zero, suc, ◌+◌, ◌-◌, ◌*◌, ◌≤◌, ◌<◌}
use native.Mathlib.Omega.{arith}
use lib.Dec.{ltb, eqb}
use lib.ListN.{length, get_or, length-append}
use borrow.Author.Tests.{ltb-true, ltb-false, eqb-true, eqb-false}
use Rattle.rules.specs.Words.{limit12, max_depth, name_base, literal_base, head_word, head_of, count_of, equality_word}
use Rattle.rules.specs.Refusals.{ok}
use Rattle.rules.specs.Signature.{Sig, heads}
use Rattle.rules.specs.Written.{call, ◌then◌, holds, equal, read_fact, read_row}
use Rattle.rules.specs.Flat.{Atom, eqn, tab, atom_words, words_of}
use Rattle.rules.specs.ToQuery.{fresh, Flat, Flats, Query, flatten, flatten_all, flatten_fact, to_query}
use Rattle.meaning.proofs.Results.{bind_ok, ok_inj}
use Rattle.walks.specs.Steps.{ExprAt, ExprsAt}
use Rattle.walks.proofs.Read.{recount, leaf_cases, call_cases, first_cases, none_cases, row_cases, no_row_cases}
use Rattle.walks.proofs.Words.{words_append, words_one}
use Rattle.query.specs.Flattened.{FactAt, FactsAt}
use Rattle.query.proofs.Facts.{fact_on, equal_cases, holds_cases}
use Rattle.head_exprs.proofs.Body.{Plain, PlainAll}

plain_append : (xs ys : List Atom) → PlainAll xs → PlainAll ys → PlainAll (xs ++ ys)
plain_append [] ys a b = b
plain_append (x ∷ xs) ys a b = (a.0, plain_append xs ys a.1 b)

-- m terms stand for what gave these atoms; with them the atoms' words are at most three for each of k words
pub record Small (xs : List Atom) (m k : ℕ) : Type 0 where
  pub words : length (words_of atom_words xs) + m ≤ 3 * k
  pub plain : PlainAll xs

small_append : (xs ys : List Atom) (m n k l : ℕ) → Small xs m k → Small ys n l → Small (xs ++ ys) (m + n) (k + l)
small_append xs ys m n k l a b =
    record {
      words = omega (arith, a.words, b.words, ap length (words_append atom_words xs ys), length-append (words_of atom_words xs) (words_of atom_words ys));
      plain = plain_append xs ys a.plain b.plain;
    }

-- one atom more
small_one : (xs : List Atom) (y : Atom) (m n k : ℕ) → Small xs m k → Plain y → length (atom_words y) + n ≤ m + 3 → Small (xs ++ y ∷ []) n (1 + k)
small_one xs y m n k a p h =
    record {
      words = omega (arith, a.words, ap length (words_one atom_words xs y), length-append (words_of atom_words xs) (atom_words y));
      plain = plain_append xs (y ∷ []) a.plain (p, tt);
    }

module _ (sig : Sig) (ws : List ℕ) (few : heads sig ≤ limit12) where
  pub record SmallAll (r : Flats) (n k : ℕ) : Type 0 where
    pub small : Small r.atoms n k
    pub many : length r.terms ≡ n

  abbrev Exprs-small : ℕ → Type 0
  Exprs-small d = (at : ℕ) (x : ExprAt sig ws d at) (cs : List ℕ) (r : Flat) → flatten x.value cs ≡ ok r → Small r.atoms 1 x.size

  all_small : (d : ℕ) → Exprs-small d → (n at : ℕ) (x : ExprsAt sig ws d n at) (cs : List ℕ) (r : Flats) → flatten_all x.value cs ≡ ok r → SmallAll r n x.size
  all_small d k zero at x cs r =
      none_cases sig ws (λ es k. flatten_all es cs ≡ ok r → SmallAll r 0 k) d zero at x refl
      (λ e. subst (λ (y : Flats). SmallAll y 0 0) (ok_inj _ _ e) (record { small = record { words = omega arith; plain = tt }; many = refl }))
  all_small d k (suc n) at x cs r =
      first_cases sig ws (λ es k. flatten_all es cs ≡ ok r → SmallAll r (suc n) k) d (suc n) at x (omega arith) (λ f fs e. more (λ i y c q z. all_small d k n i y c q z) f fs e)
    where
      more : ((i : ℕ) (y : ExprsAt sig ws d n i) (c : List ℕ) (q : Flats) → flatten_all y.value c ≡ ok q → SmallAll q n y.size)
          → (f : ExprAt sig ws d at) (fs : ExprsAt sig ws d (suc n - 1) (at + f.size)) → flatten_all (f.value then fs.value) cs ≡ ok r → SmallAll r (suc n) (f.size + fs.size)
      more again f fs e =
          let a = bind_ok (flatten f.value cs) _ r e in
          let b = bind_ok (flatten_all fs.value a.0.next) _ r a.2 in
          let less : suc n - 1 ≡ n = omega arith in
          let gs = recount sig ws d (suc n - 1) n (at + f.size) less fs in
          let i = k at f cs a.0 a.1 in
          let j = again (at + f.size) gs a.0.next b.0 b.1 in
          let sum : 1 + n ≡ suc n = omega arith in
          subst (λ (y : Flats). SmallAll y (suc n) (f.size + fs.size)) (ok_inj _ _ b.2)
          (record {
            small = subst (λ (m : ℕ). Small (a.0.atoms ++ b.0.atoms) m (f.size + fs.size)) sum (small_append a.0.atoms b.0.atoms 1 n f.size fs.size i j.small);
            many = ap suc j.many;
          })

  call_small : (d : ℕ) → (0 < d → Exprs-small (d - 1)) → Exprs-small d
  call_small d k at x cs r = go (ltb w literal_base) refl
    where
      w : ℕ
      w = get_or ws at 0

      own : 0 < d → (es : ExprsAt sig ws (d - 1) (count_of w) (at + 1)) → head_of w < heads sig → flatten (call at (head_of w) es.value) cs ≡ ok r → Small r.atoms 1 (1 + es.size)
      own deep es h e =
          let f = bind_ok (fresh at (head_of w) cs) _ r e in
          let q = bind_ok (flatten_all es.value f.0.next) _ r f.2 in
          let i = all_small (d - 1) (k deep) (count_of w) (at + 1) es f.0.next q.0 q.1 in
          let m = i.many in
          let t = tab (record { place = at; head = head_of w; ins = q.0.terms; out = f.0.var }) in
          let long = length-append q.0.terms (f.0.var ∷ []) in
          let low : head_word (head_of w) (suc (length q.0.terms)) < name_base = omega arith in
          subst (λ (y : Flat). Small y.atoms 1 (1 + es.size)) (ok_inj _ _ q.2) (small_one q.0.atoms t (count_of w) 1 es.size i.small low (omega arith))

      go : (b : Bool) → ltb w literal_base ≡ b → flatten x.value cs ≡ ok r → Small r.atoms 1 x.size
      go true t =
          call_cases sig ws few (λ f k. flatten f cs ≡ ok r → Small r.atoms 1 k) d at w x refl (ltb-true w literal_base t) (λ es deep high h e. own deep es h e)
      go false t =
          leaf_cases sig ws few (λ f k. flatten f cs ≡ ok r → Small r.atoms 1 k) d at w x refl (ltb-false w literal_base t)
          (λ i o e. subst (λ (y : Flat). Small y.atoms 1 1) (ok_inj _ _ e) (record { words = omega arith; plain = tt }))

  expr_small : (d : ℕ) → Exprs-small d
  expr_small zero = call_small zero (λ h. absurd (omega arith))
  expr_small (suc d) = call_small (suc d) (λ h. let e : d ≡ suc d - 1 = omega arith in subst Exprs-small e (expr_small d))

  -- ---- facts

  fact_small : (at : ℕ) (x : FactAt sig ws at) (cs : List ℕ) (r : Query) → flatten_fact x.value cs ≡ ok r → Small r.atoms 0 x.size
  fact_small at x cs r = go (eqb w equality_word) refl
    where
      w : ℕ
      w = get_or ws at 0

      sides : (a : ExprAt sig ws max_depth (at + 1)) (b : ExprAt sig ws max_depth (at + 1 + a.size)) → flatten_fact (equal at a.value b.value) cs ≡ ok r
          → Small r.atoms 0 (1 + (a.size + b.size))
      sides a b e =
          let l = bind_ok (flatten a.value cs) _ r e in
          let q = bind_ok (flatten b.value l.0.next) _ r l.2 in
          let i = expr_small max_depth (at + 1) a cs l.0 l.1 in
          let j = expr_small max_depth (at + 1 + a.size) b l.0.next q.0 q.1 in
          subst (λ (y : Query). Small y.atoms 0 (1 + (a.size + b.size))) (ok_inj _ _ q.2)
          (small_one (l.0.atoms ++ q.0.atoms) (eqn at l.0.term q.0.term) 2 0 (a.size + b.size) (small_append l.0.atoms q.0.atoms 1 1 a.size b.size i j) tt (omega arith))

      bare : (a : ExprAt sig ws max_depth at) → flatten_fact (holds a.value) cs ≡ ok r → Small r.atoms 0 a.size
      bare a e =
          let l = bind_ok (flatten a.value cs) _ r e in
          let i = expr_small max_depth at a cs l.0 l.1 in
          subst (λ (y : Query). Small y.atoms 0 a.size) (ok_inj _ _ l.2) (record { words = omega (arith, i.words); plain = i.plain })

      go : (b : Bool) → eqb w equality_word ≡ b → flatten_fact x.value cs ≡ ok r → Small r.atoms 0 x.size
      go true t = equal_cases sig ws (λ f k. flatten_fact f cs ≡ ok r → Small r.atoms 0 k) at w x refl (eqb-true w equality_word t) sides
      go false t = holds_cases sig ws (λ f k. flatten_fact f cs ≡ ok r → Small r.atoms 0 k) at w x refl (eqb-false w equality_word t) bare

  pub query_small : (n at : ℕ) (x : FactsAt sig ws n at) (cs : List ℕ) (r : Query) → to_query x.value cs ≡ ok r → Small r.atoms 0 x.size
  query_small zero at x cs r =
      no_row_cases (read_fact sig ws) ws (fact_on sig ws) (λ fs k. to_query fs cs ≡ ok r → Small r.atoms 0 k) zero at x refl
      (λ e. subst (λ (y : Query). Small y.atoms 0 0) (ok_inj _ _ e) (record { words = omega arith; plain = tt }))
  query_small (suc n) at x cs r =
      row_cases (read_fact sig ws) ws (fact_on sig ws) (λ fs k. to_query fs cs ≡ ok r → Small r.atoms 0 k) (suc n) at x (omega arith) (λ f fs e. more (λ i y c q z. query_small n i y c q z) f fs e)
    where
      more : ((i : ℕ) (y : FactsAt sig ws n i) (c : List ℕ) (q : Query) → to_query y.value c ≡ ok q → Small q.atoms 0 y.size)
          → (f : FactAt sig ws at) (fs : FactsAt sig ws (suc n - 1) (at + f.size)) → to_query (f.value ∷ fs.value) cs ≡ ok r → Small r.atoms 0 (f.size + fs.size)
      more again f fs e =
          let a = bind_ok (flatten_fact f.value cs) _ r e in
          let b = bind_ok (to_query fs.value a.0.next) _ r a.2 in
          let less : suc n - 1 ≡ n = omega arith in
          let gs : FactsAt sig ws n (at + f.size) =
          record {
            value = fs.value;
            size = fs.size;
            reads = subst (λ (i : ℕ). read_row (read_fact sig ws) i (at + f.size) ≡ ok (record { value = fs.value; at = at + f.size + fs.size })) less fs.reads;
            inside = fs.inside;
          } in
          subst (λ (y : Query). Small y.atoms 0 (f.size + fs.size)) (ok_inj _ _ b.2)
          (small_append a.0.atoms b.0.atoms 0 0 f.size fs.size (fact_small at f cs a.0 a.1) (again (at + f.size) gs a.0.next b.0 b.1))
