-- Reading a flat rule goes forward by exactly the words of what it reads.
-- Assumes nothing.
use Prim.Native.Nat.{ℕ, suc, ◌+◌, ◌-◌, ◌≤◌}
use native.Mathlib.Omega.{arith}
use mathlib.Core.Path.{◌≡◌, refl, subst}
use mathlib.Core.Bool.{Bool, true, false, cond}
use mathlib.Core.List.{List, [], ◌∷◌}
use lib.ListN.{length, get_or, length-append}
use lib.Dec.{ltb, leb}
use borrow.Author.Tests.{ltb-true, leb-true}
use Rattle.rules.specs.Words.{is_literal_word, is_head_word, is_header_word, count_of, facts_of, actions_of, Code, a_let, a_set, a_delete, a_subsume, a_union, a_panic, a_call, an_expression, no_code}
use Rattle.rules.specs.Refusals.{ok, unfit, no_terms, not_two}
use Rattle.rules.specs.Signature.{Sig, heads}
use Rattle.rules.specs.Written.{Read, read_word, read_row}
use Rattle.rules.specs.Flat.{Atom, CoreAction, FlatRule, atom_words, action_words, words_of, is_target, is_term, read_term, AtomShape, is_pair, is_odd, is_table}
use Rattle.rules.specs.Flat.{is_empty, is_none, atom_shape, read_atom_shape, read_atom, Terms, read_terms, read_core_code, read_core_action, read_flat}
use Rattle.meaning.proofs.Sizes.{total}
use Rattle.meaning.proofs.Results.{refuse_ok, ok_inj, bind_ok, demand_ok}
use Rattle.meaning.proofs.ReadSizes.{Spans, SpansAll, CodeSpans, one_word, row_size, word_size, code_spans}

total_one : (ws : List ℕ) → total one_word ws ≡ length ws
total_one [] = refl
total_one (w ∷ ws) = omega (arith, total_one ws)

pub total_words : {A : Type 0} (f : A → List ℕ) (xs : List A) → total (λ x. length (f x)) xs ≡ length (words_of f xs)
total_words f [] = refl
total_words f (x ∷ xs) = omega (arith, total_words f xs, length-append (f x) (words_of f xs))

abbrev atom_size : Atom → ℕ
atom_size x = length (atom_words x)

abbrev core_size : CoreAction → ℕ
core_size x = length (action_words x)

module _ (s : Sig) (ws : List ℕ) where
  term_size : SpansAll one_word (length ws) (read_term s ws)
  term_size = word_size ws (is_term s)

  terms_row : (n p : ℕ) (r : Read (List ℕ)) → p ≤ length ws → read_row (read_term s ws) n p ≡ ok r → (r.at ≡ p + length r.value) × (r.at ≤ length ws)
  terms_row n p r l e =
      let k = row_size one_word (length ws) (read_term s ws) term_size n p r l e in
      (omega (arith, k.after, total_one r.value), k.inside)

  -- ---- atoms

  shape_size : (w p : ℕ) (r : Read Atom) (b : Bool) → ltb p (length ws) ≡ b → (sh : AtomShape)
      → read_atom_shape s ws (cond b sh is_none) w p ≡ ok r → Spans atom_size (length ws) p r
  shape_size w p r false t sh e = absurd (refuse_ok unfit p r e)
  shape_size w p r true t is_pair e =
      let i = ltb-true p (length ws) t in
      let x = bind_ok (read_term s ws (suc p)) _ r e in
      let y = bind_ok (read_term s ws x.0.at) _ r x.2 in
      let j = term_size (suc p) x.0 i x.1 in
      let k = term_size x.0.at y.0 j.inside y.1 in
      subst (Spans atom_size (length ws) p) (ok_inj _ _ y.2) (record { after = omega (arith, j.after, k.after); inside = k.inside })
  shape_size w p r true t is_table e =
      let i = ltb-true p (length ws) t in
      let x = bind_ok (read_row (read_term s ws) (count_of w - 1) (suc p)) _ r e in
      let y = bind_ok (read_term s ws x.0.at) _ r x.2 in
      let j = terms_row (count_of w - 1) (suc p) x.0 i x.1 in
      let k = term_size x.0.at y.0 j.1 y.1 in
      let n = length-append x.0.value (y.0.value ∷ []) in
      subst (Spans atom_size (length ws) p) (ok_inj _ _ y.2) (record { after = omega (arith, j.0, k.after, n); inside = k.inside })
  shape_size w p r true t is_odd e = absurd (refuse_ok not_two p r e)
  shape_size w p r true t is_empty e = absurd (refuse_ok no_terms p r e)
  shape_size w p r true t is_none e = absurd (refuse_ok unfit p r e)

  pub atom_size_lem : SpansAll atom_size (length ws) (read_atom s ws)
  atom_size_lem p r l e = shape_size (get_or ws p 0) p r (ltb p (length ws)) refl (atom_shape s (get_or ws p 0)) e

  -- ---- actions

  abbrev terms_size : Terms → ℕ
  terms_size c = 1 + length c.terms

  terms_size_lem : SpansAll terms_size (length ws) (read_terms s ws)
  terms_size_lem p r l e =
      let w = bind_ok (read_word ws (is_head_word (heads s)) p) _ r e in
      let ts = bind_ok (read_row (read_term s ws) (count_of w.0.value) w.0.at) _ r w.2 in
      let i = word_size ws (is_head_word (heads s)) p w.0 l w.1 in
      let j = terms_row (count_of w.0.value) w.0.at ts.0 i.inside ts.1 in
      subst (Spans terms_size (length ws) p) (ok_inj _ _ ts.2) (record { after = omega (arith, i.after, j.0); inside = j.1 })

  code_size : (p : ℕ) (c : Code) (q : ℕ) (r : Read CoreAction) → q ≤ length ws → read_core_code s ws p c q ≡ ok r → CodeSpans core_size (length ws) q r
  code_size p a_let q r l e =
      let x = bind_ok (read_word ws (is_target s) q) _ r e in
      let t = bind_ok (read_term s ws x.0.at) _ r x.2 in
      let i = word_size ws (is_target s) q x.0 l x.1 in
      let j = term_size x.0.at t.0 i.inside t.1 in
      subst (CodeSpans core_size (length ws) q) (ok_inj _ _ t.2) (omega (arith, i.after, j.after), j.inside)
  code_size p a_set q r l e =
      let x = bind_ok (read_terms s ws q) _ r e in
      let t = bind_ok (read_term s ws x.0.at) _ r x.2 in
      let i = terms_size_lem q x.0 l x.1 in
      let j = term_size x.0.at t.0 i.inside t.1 in
      let n = length-append x.0.value.terms (t.0.value ∷ []) in
      subst (CodeSpans core_size (length ws) q) (ok_inj _ _ t.2) (omega (arith, i.after, j.after, n), j.inside)
  code_size p a_delete q r l e =
      let x = bind_ok (read_terms s ws q) _ r e in
      let i = terms_size_lem q x.0 l x.1 in
      subst (CodeSpans core_size (length ws) q) (ok_inj _ _ x.2) (omega (arith, i.after), i.inside)
  code_size p a_subsume q r l e =
      let x = bind_ok (read_terms s ws q) _ r e in
      let i = terms_size_lem q x.0 l x.1 in
      subst (CodeSpans core_size (length ws) q) (ok_inj _ _ x.2) (omega (arith, i.after), i.inside)
  code_size p a_union q r l e =
      let x = bind_ok (read_term s ws q) _ r e in
      let t = bind_ok (read_term s ws x.0.at) _ r x.2 in
      let i = term_size q x.0 l x.1 in
      let j = term_size x.0.at t.0 i.inside t.1 in
      subst (CodeSpans core_size (length ws) q) (ok_inj _ _ t.2) (omega (arith, i.after, j.after), j.inside)
  code_size p a_panic q r l e =
      let x = bind_ok (read_word ws is_literal_word q) _ r e in
      let i = word_size ws is_literal_word q x.0 l x.1 in
      subst (CodeSpans core_size (length ws) q) (ok_inj _ _ x.2) (omega (arith, i.after), i.inside)
  code_size p a_call q r l e =
      let x = bind_ok (read_word ws (is_target s) q) _ r e in
      let t = bind_ok (read_terms s ws x.0.at) _ r x.2 in
      let i = word_size ws (is_target s) q x.0 l x.1 in
      let j = terms_size_lem x.0.at t.0 i.inside t.1 in
      subst (CodeSpans core_size (length ws) q) (ok_inj _ _ t.2) (omega (arith, i.after, j.after), j.inside)
  code_size p an_expression q r l e = absurd (refuse_ok unfit p r e)
  code_size p no_code q r l e = absurd (refuse_ok unfit p r e)

  pub core_action_size : SpansAll core_size (length ws) (read_core_action s ws)
  core_action_size = code_spans ws core_size (read_core_code s ws) (λ p q r e. refuse_ok unfit p r e) code_size

  abbrev FlatSize : FlatRule → Type 0
  FlatSize f = 1 + length (words_of atom_words f.atoms) + length (words_of action_words f.actions) ≡ length ws

  -- a flat rule has a header and the words of its atoms and actions
  pub flat_size : (f : FlatRule) → read_flat s ws ≡ ok f
      → 1 + length (words_of atom_words f.atoms) + length (words_of action_words f.actions) ≡ length ws
  flat_size f e =
      let w = bind_ok (read_word ws is_header_word 0) _ f e in
      let xs = bind_ok (read_row (read_atom s ws) (facts_of w.0.value) w.0.at) _ f w.2 in
      let ys = bind_ok (read_row (read_core_action s ws) (actions_of w.0.value) xs.0.at) _ f xs.2 in
      let i = word_size ws is_header_word 0 w.0 (omega arith) w.1 in
      let j = row_size atom_size (length ws) (read_atom s ws) atom_size_lem (facts_of w.0.value) w.0.at xs.0 i.inside xs.1 in
      let k = row_size core_size (length ws) (read_core_action s ws) core_action_size (actions_of w.0.value) xs.0.at ys.0 j.inside ys.1 in
      let d = demand_ok (leb (length ws) ys.0.at) unfit ys.0.at _ f ys.2 in
      let m = leb-true (length ws) ys.0.at d.0 in
      let a = total_words atom_words xs.0.value in
      let b = total_words action_words ys.0.value in
      subst FlatSize d.1 (omega (arith, i.after, j.after, k.after, k.inside))
