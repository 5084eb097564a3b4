-- How large a flat body is: at most three words for each word of the facts. Assumes nothing.
use Prim.Native.Nat.{ℕ, suc, ◌+◌, ◌*◌, ◌≤◌}
use native.Mathlib.Omega.{arith}
use mathlib.Core.Path.{◌≡◌, refl, subst}
use mathlib.Core.List.{List, [], ◌∷◌, ◌++◌}
use lib.ListN.{length, length-append}
use Rattle.rules.specs.Refusals.{ok}
use Rattle.rules.specs.Written.{Expr, Exprs, leaf, call, end, ◌then◌, Fact, holds, equal}
use Rattle.rules.specs.Flat.{Tab, Atom, eqn, tab, tab_words, atom_words, words_of}
use Rattle.rules.specs.ToQuery.{fresh, Flat, Flats, flatten, flatten_all, Query, flatten_fact, to_query}
use Rattle.meaning.proofs.Sizes.{expr_size, exprs_size, fact_size, total}
use Rattle.meaning.proofs.Lists.{length_words_append}
use Rattle.meaning.proofs.Results.{ok_inj, bind_ok}
use Rattle.meaning.proofs.WordLaws.{length_tab}

-- a measure of bodies: what an atom takes is c and its inputs
pub record Measure (size : List Atom → ℕ) (c : ℕ) : Type 0 where
  pub none : size [] ≡ 0
  pub both : (xs ys : List Atom) → size (xs ++ ys) ≡ size xs + size ys
  pub table : (t : Tab) → size (tab t ∷ []) ≤ c + length t.ins
  pub equality : (p a b : ℕ) → size (eqn p a b ∷ []) ≤ c + 3

module _ (size : List Atom → ℕ) (c : ℕ) (m : Measure size c) where
  -- each expression leaves one for its term, which is an input of the atom above it
  mutual
    expr_measure : (e : Expr) (cs : List ℕ) (r : Flat) → flatten e cs ≡ ok r → suc (size r.atoms) ≤ suc c * expr_size e
    expr_measure (leaf p w) cs r e =
        subst (λ (x : Flat). suc (size x.atoms) ≤ suc c * expr_size (leaf p w)) (ok_inj _ _ e) (omega (arith, m.none))
    expr_measure (call p h es) cs r e =
        let f = bind_ok (fresh p h cs) _ r e in
        let q = bind_ok (flatten_all es f.0.next) _ r f.2 in
        let t : Tab = record { place = p; head = h; ins = q.0.terms; out = f.0.var } in
        let i = exprs_measure es f.0.next q.0 q.1 in
        subst (λ (x : Flat). suc (size x.atoms) ≤ suc c * expr_size (call p h es)) (ok_inj _ _ q.2)
        (omega (arith, m.both q.0.atoms (tab t ∷ []), m.table t))

    exprs_measure : (es : Exprs) (cs : List ℕ) (r : Flats) → flatten_all es cs ≡ ok r → length r.terms + size r.atoms ≤ suc c * exprs_size es
    exprs_measure end cs r e =
        subst (λ (x : Flats). length x.terms + size x.atoms ≤ suc c * exprs_size end) (ok_inj _ _ e) (omega (arith, m.none))
    exprs_measure (x then es) cs r e =
        let a = bind_ok (flatten x cs) _ r e in
        let b = bind_ok (flatten_all es a.0.next) _ r a.2 in
        let i = expr_measure x cs a.0 a.1 in
        let j = exprs_measure es a.0.next b.0 b.1 in
        subst (λ (y : Flats). length y.terms + size y.atoms ≤ suc c * exprs_size (x then es)) (ok_inj _ _ b.2)
        (omega (arith, m.both a.0.atoms b.0.atoms))

  fact_measure : (f : Fact) (cs : List ℕ) (r : Query) → flatten_fact f cs ≡ ok r → size r.atoms ≤ suc c * fact_size f
  fact_measure (holds x) cs r e =
      let a = bind_ok (flatten x cs) _ r e in
      let i = expr_measure x cs a.0 a.1 in
      subst (λ (y : Query). size y.atoms ≤ suc c * expr_size x) (ok_inj _ _ a.2) (omega arith)
  fact_measure (equal p x y) cs r e =
      let a = bind_ok (flatten x cs) _ r e in
      let b = bind_ok (flatten y a.0.next) _ r a.2 in
      let i = expr_measure x cs a.0 a.1 in
      let j = expr_measure y a.0.next b.0 b.1 in
      let q = eqn p a.0.term b.0.term in
      subst (λ (z : Query). size z.atoms ≤ suc c * (1 + expr_size x + expr_size y)) (ok_inj _ _ b.2)
      (omega (
        arith,
        m.both (a.0.atoms ++ b.0.atoms) (q ∷ []),
        m.both a.0.atoms b.0.atoms,
        m.equality p a.0.term b.0.term,
      ))

  pub query_measure : (fs : List Fact) (cs : List ℕ) (q : Query) → to_query fs cs ≡ ok q → size q.atoms ≤ suc c * total fact_size fs
  query_measure [] cs q e = subst (λ (y : Query). size y.atoms ≤ suc c * 0) (ok_inj _ _ e) (omega (arith, m.none))
  query_measure (f ∷ fs) cs q e =
      let a = bind_ok (flatten_fact f cs) _ q e in
      let b = bind_ok (to_query fs a.0.next) _ q a.2 in
      let i = fact_measure f cs a.0 a.1 in
      let j = query_measure fs a.0.next b.0 b.1 in
      subst (λ (y : Query). size y.atoms ≤ suc c * total fact_size (f ∷ fs)) (ok_inj _ _ b.2)
      (omega (arith, m.both a.0.atoms b.0.atoms))

-- ---- words

words_measure : Measure (λ xs. length (words_of atom_words xs)) 2
words_measure =
    record {
      none = refl;
      both = length_words_append atom_words;
      table = table_words;
      equality = λ p a b. omega arith;
    }
  where
    table_words : (t : Tab) → length (words_of atom_words (tab t ∷ [])) ≤ 2 + length t.ins
    table_words t = omega (arith, length_tab t, length-append (tab_words t) [])

-- a flat body has at most three words for each word of the facts
pub query_words : (fs : List Fact) (cs : List ℕ) (q : Query) → to_query fs cs ≡ ok q → length (words_of atom_words q.atoms) ≤ 3 * total fact_size fs
query_words fs cs q e = query_measure (λ xs. length (words_of atom_words xs)) 2 words_measure fs cs q e
