-- Which numbers each call can answer with: the promises of specs/Numbers.antt. Assumes nothing.
use Prim.Native.Nat.{ℕ, zero, suc, ◌+◌, ◌-◌, ◌/◌}
use mathlib.Core.Path.{◌≡◌, refl, subst}
use mathlib.Core.Bool.{Bool, true, false, cond, ◌&&◌}
use mathlib.Core.List.{List, [], ◌∷◌}
use mathlib.Core.Option.{Option, none, some}
use lib.ListN.{length, get_or}
use lib.Dec.{leb, ltb, eqb}
use Rattle.octets.specs.Words.{words}
use Rattle.rules.specs.Words.{limit12, limit16, max_depth, max_written, max_flat, scratch_words, signature_base, equality_word, within}
use Rattle.rules.specs.Words.{is_name_word, is_literal_word, is_head_word, is_header_word, count_of, facts_of, actions_of}
use Rattle.rules.specs.Words.{Code, a_let, a_set, a_delete, a_subsume, a_union, a_panic, a_call, an_expression, no_code}
use Rattle.rules.specs.Refusals.{Res, ok, refuse, ◌>>=◌, demand, bad_signature, few_counters, small_scratch, bad_length, unfit}
use Rattle.rules.specs.Refusals.{too_deep, unbound, already_defined, used_up, short_output, no_terms, not_two, ragged}
use Rattle.rules.specs.Signature.{Sig, heads, elem, payload_at, kinds_at, read_signature}
use Rattle.rules.specs.Written.{Expr, Exprs, leaf, call, end, ◌then◌, Fact, holds, equal, Action, let', set', delete', subsume', union', panic', expr'}
use Rattle.rules.specs.Written.{Rule, Read, Reader, Shape, is_leaf, is_call, is_bad, read_word, read_row, all_read, read_many, shape_at, read_shape, read_expr}
use Rattle.rules.specs.Written.{read_target, read_equal, read_holds, read_fact, read_code, code_at, read_action, read_written}
use Rattle.rules.specs.Flat.{CoreAction, Delete, Subsume, is_target, is_term, read_term, AtomShape, is_pair, is_odd, is_table, is_empty, is_none}
use Rattle.rules.specs.Flat.{atom_shape_at, read_atom_shape, read_atom, read_terms, read_core_code, read_core_action, read_flat}
use Rattle.rules.specs.ToQuery.{count, fresh, flatten, flatten_all, flatten_fact, to_query, body_vars}
use Rattle.rules.specs.ToCoreActions.{readable, lower_expr, lower_exprs, lower_set, lower_change, AsSet, union_as_set, lower_union, lower_let, lower_action, to_core_actions, to_core_rule}
use Rattle.rules.specs.RemoveDupVars.{settle}
use Rattle.rules.specs.FreeVars.{get_free_vars}
use Rattle.rules.specs.Calls.{Result, settled_result, lower_rule, length_fits, scratch_fits, output_fits, whole_words, slices_whole, lower_res, settle_res, free_vars_res}
use Rattle.meaning.specs.Numbers.{lower_numbers, settle_numbers, free_vars_numbers, LowerNumbers, SettleNumbers, FreeVarsNumbers}

module _ (P : ℕ → Type 0) where
  -- a refusal has a number with the property
  abbrev pub Among : {A : Type 0} → Res A → Type 0
  Among (ok a) = Unit {0}
  Among (refuse n p) = P n

  among_bind : {A B : Type 0} (m : Res A) (k : A → Res B) → Among m → ((a : A) → Among (k a)) → Among (◌>>=◌ m k)
  among_bind (ok a) k h f = f a
  among_bind (refuse n p) k h f = h

  among_demand : {A : Type 0} (b : Bool) (n p : ℕ) (x : A) → P n → Among (demand b n p x)
  among_demand true n p x h = tt
  among_demand false n p x h = h

  among_is : {A : Type 0} (m : Res A) (n p : ℕ) → Among m → m ≡ refuse n p → P n
  among_is m n p h e = subst Among e h

  -- ---- the signature

  module _ (one : P bad_signature) where
    payload_among : (ws : List ℕ) (low size p : ℕ) → Among (payload_at ws low size p)
    payload_among ws low size p = among_demand (ltb p (length ws) && within (signature_base + low) size (get_or ws p 0)) bad_signature p _ one

    kinds_among : (ws : List ℕ) (n p : ℕ) → Among (kinds_at ws n p)
    kinds_among ws zero p = tt
    kinds_among ws (suc n) p =
        among_bind (payload_at ws 0 3 p) _ (payload_among ws 0 3 p) (λ k. among_bind (kinds_at ws n (suc p)) _ (kinds_among ws n (suc p)) (λ ks. tt))

    pub signature_among : (ws : List ℕ) → Among (read_signature ws)
    signature_among ws =
        among_bind (payload_at ws 1 limit12 0) _ (payload_among ws 1 limit12 0)
        (λ h. among_bind (payload_at ws 0 (suc limit12) 1) _ (payload_among ws 0 (suc limit12) 1)
        (λ g. among_bind (payload_at ws 0 h 2) _ (payload_among ws 0 h 2)
        (λ v. among_bind (payload_at ws 0 2 3) _ (payload_among ws 0 2 3)
        (λ f. among_bind (kinds_at ws h 4) _ (kinds_among ws h 4)
        (λ ks. among_bind (demand (eqb (length ws) (4 + h)) bad_signature (4 + h) h) _ (among_demand (eqb (length ws) (4 + h)) bad_signature (4 + h) h one)
        (λ n. among_demand (eqb (get_or ks v 0) 2) bad_signature 2 _ one))))))

  -- ---- readers

  module _ (five : P unfit) where
    word_among : (ws : List ℕ) (fits : ℕ → Bool) (p : ℕ) → Among (read_word ws fits p)
    word_among ws fits p = among_demand (ltb p (length ws) && fits (get_or ws p 0)) unfit p _ five

    row_among : {A : Type 0} (one : Reader A) → ((p : ℕ) → Among (one p)) → (n p : ℕ) → Among (read_row one n p)
    row_among one h zero p = tt
    row_among one h (suc n) p = among_bind (one p) _ (h p) (λ x. among_bind (read_row one n x.at) _ (row_among one h n x.at) (λ xs. tt))

    all_read_among : {A : Type 0} (ws : List ℕ) (r : Read A) → Among (all_read ws r)
    all_read_among ws r = among_demand (leb (length ws) r.at) unfit r.at _ five

    -- ---- written rules

    module _ (six : P too_deep) (s : Sig) (ws : List ℕ) where
      many_among : (one : Reader Expr) → ((p : ℕ) → Among (one p)) → (n p : ℕ) → Among (read_many one n p)
      many_among one h zero p = tt
      many_among one h (suc n) p = among_bind (one p) _ (h p) (λ x. among_bind (read_many one n x.at) _ (many_among one h n x.at) (λ xs. tt))

      shape_among : (sh : Shape) (inside : Bool) (args : ℕ → Reader Exprs) → ((n p : ℕ) → Among (args n p)) → (w p : ℕ) → Among (read_shape sh inside args w p)
      shape_among is_bad inside args h w p = five
      shape_among is_leaf true args h w p = six
      shape_among is_call true args h w p = six
      shape_among is_leaf false args h w p = tt
      shape_among is_call false args h w p = among_bind (args (count_of w) (suc p)) _ (h (count_of w) (suc p)) (λ es. tt)

      expr_among : (d p : ℕ) → Among (read_expr s ws d p)
      expr_among zero p = shape_among (shape_at s ws p) true (λ n q. refuse too_deep q) (λ n q. six) (get_or ws p 0) p
      expr_among (suc d) p =
          shape_among (shape_at s ws p) false (λ n q. read_many (λ r. read_expr s ws d r) n q) (λ n q. many_among (λ r. read_expr s ws d r) (λ r. expr_among d r) n q) (get_or ws p 0) p

      pair_among : {A : Type 0} (p : ℕ) (f : Read Expr → Read Expr → Res A) → ((a b : Read Expr) → Among (f a b))
          → Among (◌>>=◌ (read_expr s ws max_depth p) (λ a. ◌>>=◌ (read_expr s ws max_depth a.at) (λ b. f a b)))
      pair_among p f h = among_bind (read_expr s ws max_depth p) _ (expr_among max_depth p) (λ a. among_bind (read_expr s ws max_depth a.at) _ (expr_among max_depth a.at) (λ b. h a b))

      target_among : (p : ℕ) → Among (read_target s ws p)
      target_among p =
          among_bind (read_word ws (is_head_word (heads s)) p) _ (word_among ws (is_head_word (heads s)) p)
          (λ w. among_bind (read_many (read_expr s ws max_depth) (count_of w.value) w.at) _ (many_among (read_expr s ws max_depth) (expr_among max_depth) (count_of w.value) w.at) (λ es. tt))

      fact_among : (p : ℕ) → Among (read_fact s ws p)
      fact_among p = go (ltb p (length ws) && eqb (get_or ws p 0) equality_word)
        where
          go : (b : Bool) → Among (cond b (read_equal s ws p) (read_holds s ws p))
          go true = pair_among (suc p) _ (λ a b. tt)
          go false = among_bind (read_expr s ws max_depth p) _ (expr_among max_depth p) (λ e. tt)

      code_among : (p : ℕ) (c : Code) (q : ℕ) → Among (read_code s ws p c q)
      code_among p a_let q =
          among_bind (read_word ws is_name_word q) _ (word_among ws is_name_word q) (λ x. among_bind (read_expr s ws max_depth x.at) _ (expr_among max_depth x.at) (λ e. tt))
      code_among p a_set q = among_bind (read_target s ws q) _ (target_among q) (λ t. among_bind (read_expr s ws max_depth t.at) _ (expr_among max_depth t.at) (λ e. tt))
      code_among p a_delete q = among_bind (read_target s ws q) _ (target_among q) (λ t. tt)
      code_among p a_subsume q = among_bind (read_target s ws q) _ (target_among q) (λ t. tt)
      code_among p a_union q = pair_among q _ (λ a b. tt)
      code_among p a_panic q = among_bind (read_word ws is_literal_word q) _ (word_among ws is_literal_word q) (λ l. tt)
      code_among p an_expression q = among_bind (read_expr s ws max_depth q) _ (expr_among max_depth q) (λ e. tt)
      code_among p a_call q = five
      code_among p no_code q = five

      pub written_among : Among (read_written s ws)
      written_among =
          among_bind (read_word ws is_header_word 0) _ (word_among ws is_header_word 0)
          (λ w. among_bind (read_row (read_fact s ws) (facts_of w.value) w.at) _ (row_among (read_fact s ws) fact_among (facts_of w.value) w.at)
          (λ fs. among_bind (read_row (read_action s ws) (actions_of w.value) fs.at) _ (row_among (read_action s ws) (λ p. code_among p (code_at ws p) (suc p)) (actions_of w.value) fs.at)
          (λ xs. all_read_among ws _)))

    -- ---- flat rules

    module _ (eleven : P no_terms) (twelve : P not_two) (s : Sig) (ws : List ℕ) where
      term_among : (p : ℕ) → Among (read_term s ws p)
      term_among p = word_among ws (is_term s) p

      -- a kind 3 word and its terms, or a row of terms, then one more
      terms_among : (n p : ℕ) → Among (read_row (read_term s ws) n p)
      terms_among = row_among (read_term s ws) term_among

      called_among : (p : ℕ) → Among (read_terms s ws p)
      called_among p =
          among_bind (read_word ws (is_head_word (heads s)) p) _ (word_among ws (is_head_word (heads s)) p)
          (λ w. among_bind (read_row (read_term s ws) (count_of w.value) w.at) _ (terms_among (count_of w.value) w.at) (λ ts. tt))

      atom_shape_among : (sh : AtomShape) (w p : ℕ) → Among (read_atom_shape s ws sh w p)
      atom_shape_among is_pair w p = among_bind (read_term s ws (suc p)) _ (term_among (suc p)) (λ a. among_bind (read_term s ws a.at) _ (term_among a.at) (λ b. tt))
      atom_shape_among is_table w p =
          among_bind (read_row (read_term s ws) (count_of w - 1) (suc p)) _ (terms_among (count_of w - 1) (suc p))
          (λ ts. among_bind (read_term s ws ts.at) _ (term_among ts.at) (λ t. tt))
      atom_shape_among is_odd w p = twelve
      atom_shape_among is_empty w p = eleven
      atom_shape_among is_none w p = five

      core_code_among : (p : ℕ) (c : Code) (q : ℕ) → Among (read_core_code s ws p c q)
      core_code_among p a_let q = among_bind (read_word ws (is_target s) q) _ (word_among ws (is_target s) q) (λ x. among_bind (read_term s ws x.at) _ (term_among x.at) (λ t. tt))
      core_code_among p a_set q = among_bind (read_terms s ws q) _ (called_among q) (λ c. among_bind (read_term s ws c.at) _ (term_among c.at) (λ v. tt))
      core_code_among p a_delete q = among_bind (read_terms s ws q) _ (called_among q) (λ c. tt)
      core_code_among p a_subsume q = among_bind (read_terms s ws q) _ (called_among q) (λ c. tt)
      core_code_among p a_union q = among_bind (read_term s ws q) _ (term_among q) (λ a. among_bind (read_term s ws a.at) _ (term_among a.at) (λ b. tt))
      core_code_among p a_panic q = among_bind (read_word ws is_literal_word q) _ (word_among ws is_literal_word q) (λ l. tt)
      core_code_among p a_call q = among_bind (read_word ws (is_target s) q) _ (word_among ws (is_target s) q) (λ x. among_bind (read_terms s ws x.at) _ (called_among x.at) (λ c. tt))
      core_code_among p an_expression q = five
      core_code_among p no_code q = five

      pub flat_among : Among (read_flat s ws)
      flat_among =
          among_bind (read_word ws is_header_word 0) _ (word_among ws is_header_word 0)
          (λ w. among_bind (read_row (read_atom s ws) (facts_of w.value) w.at) _
          (row_among (read_atom s ws) (λ p. atom_shape_among (atom_shape_at s ws p) (get_or ws p 0) p) (facts_of w.value) w.at)
          (λ fs. among_bind (read_row (read_core_action s ws) (actions_of w.value) fs.at) _
          (row_among (read_core_action s ws) (λ p. core_code_among p (code_at ws p) (suc p)) (actions_of w.value) fs.at)
          (λ xs. all_read_among ws _)))

  -- ---- lowering

  module _ (nine : P used_up) where
    fresh_among : (p h : ℕ) (cs : List ℕ) → Among (fresh p h cs)
    fresh_among p h cs = among_demand (ltb (count cs h) limit16) used_up p _ nine

    mutual
      flatten_among : (e : Expr) (cs : List ℕ) → Among (flatten e cs)
      flatten_among (leaf p w) cs = tt
      flatten_among (call p h es) cs = among_bind (fresh p h cs) _ (fresh_among p h cs) (λ f. among_bind (flatten_all es f.next) _ (flattens_among es f.next) (λ r. tt))

      flattens_among : (es : Exprs) (cs : List ℕ) → Among (flatten_all es cs)
      flattens_among end cs = tt
      flattens_among (e then es) cs = among_bind (flatten e cs) _ (flatten_among e cs) (λ r. among_bind (flatten_all es r.next) _ (flattens_among es r.next) (λ q. tt))

    flatten_fact_among : (f : Fact) (cs : List ℕ) → Among (flatten_fact f cs)
    flatten_fact_among (holds e) cs = among_bind (flatten e cs) _ (flatten_among e cs) (λ r. tt)
    flatten_fact_among (equal p a b) cs = among_bind (flatten a cs) _ (flatten_among a cs) (λ r. among_bind (flatten b r.next) _ (flatten_among b r.next) (λ q. tt))

    query_among : (fs : List Fact) (cs : List ℕ) → Among (to_query fs cs)
    query_among [] cs = tt
    query_among (f ∷ fs) cs = among_bind (flatten_fact f cs) _ (flatten_fact_among f cs) (λ r. among_bind (to_query fs r.next) _ (query_among fs r.next) (λ q. tt))

    module _ (seven : P unbound) (eight : P already_defined) (s : Sig) where
      mutual
        lower_among : (bound : List ℕ) (e : Expr) (cs : List ℕ) → Among (lower_expr s bound e cs)
        lower_among bound (leaf p w) cs = among_demand (readable s bound w) unbound p _ seven
        lower_among bound (call p h es) cs =
            among_bind (lower_exprs s bound es cs) _ (lowers_among bound es cs) (λ r. among_bind (fresh p h r.next) _ (fresh_among p h r.next) (λ f. tt))

        lowers_among : (bound : List ℕ) (es : Exprs) (cs : List ℕ) → Among (lower_exprs s bound es cs)
        lowers_among bound end cs = tt
        lowers_among bound (e then es) cs =
            among_bind (lower_expr s bound e cs) _ (lower_among bound e cs) (λ r. among_bind (lower_exprs s bound es r.next) _ (lowers_among bound es r.next) (λ q. tt))

      set_among : (bound : List ℕ) (p h : ℕ) (es : Exprs) (e : Expr) (cs : List ℕ) → Among (lower_set s bound p h es e cs)
      set_among bound p h es e cs =
          among_bind (lower_exprs s bound es cs) _ (lowers_among bound es cs)
          (λ r. among_bind (lower_expr s bound e r.next) _ (lower_among bound e r.next) (λ q. among_bind (fresh p h q.next) _ (fresh_among p h q.next) (λ f. tt)))

      change_among : (bound : List ℕ) (change : ℕ → List ℕ → CoreAction) (p h : ℕ) (es : Exprs) (cs : List ℕ) → Among (lower_change s bound change p h es cs)
      change_among bound change p h es cs =
          among_bind (lower_exprs s bound es cs) _ (lowers_among bound es cs) (λ r. among_bind (fresh p h r.next) _ (fresh_among p h r.next) (λ f. tt))

      union_among : (bound : List ℕ) (o : Option AsSet) (a b : Expr) (cs : List ℕ) → Among (lower_union s bound o a b cs)
      union_among bound (some u) a b cs = set_among bound u.place u.head u.args u.value cs
      union_among bound none a b cs =
          among_bind (lower_expr s bound a cs) _ (lower_among bound a cs) (λ r. among_bind (lower_expr s bound b r.next) _ (lower_among bound b r.next) (λ q. tt))

      let_among : (c : Bool) (bound : List ℕ) (p x : ℕ) (e : Expr) (cs : List ℕ) → Among (lower_let c s bound p x e cs)
      let_among true bound p x e cs = eight
      let_among false bound p x e cs = among_bind (lower_expr s bound e cs) _ (lower_among bound e cs) (λ r. tt)

      action_among : (bound : List ℕ) (a : Action) (cs : List ℕ) → Among (lower_action s bound a cs)
      action_among bound (let' p x e) cs = let_among (elem x bound) bound p x e cs
      action_among bound (set' p h es e) cs = set_among bound p h es e cs
      action_among bound (delete' p h es) cs = change_among bound Delete p h es cs
      action_among bound (subsume' p h es) cs = change_among bound Subsume p h es cs
      action_among bound (union' a b) cs = union_among bound (union_as_set s a b) a b cs
      action_among bound (panic' l) cs = tt
      action_among bound (expr' e) cs = among_bind (lower_expr s bound e cs) _ (lower_among bound e cs) (λ r. tt)

      actions_among : (bound : List ℕ) (xs : List Action) (cs : List ℕ) → Among (to_core_actions s bound xs cs)
      actions_among bound [] cs = tt
      actions_among bound (a ∷ xs) cs =
          among_bind (lower_action s bound a cs) _ (action_among bound a cs) (λ r. among_bind (to_core_actions s r.bound xs r.next) _ (actions_among r.bound xs r.next) (λ q. tt))

      pub rule_among : (r : Rule) (cs : List ℕ) → Among (lower_rule s r cs)
      rule_among r cs =
          among_bind (to_core_rule s r cs) _
          (among_bind (to_query r.facts cs) _ (query_among r.facts cs)
          (λ q. among_bind (to_core_actions s (body_vars s q.atoms) r.actions q.next) _ (actions_among (body_vars s q.atoms) r.actions q.next) (λ d. tt)))
          (λ c. tt)

  -- ---- the tests around them

  length_among : P bad_length → (most : ℕ) (ws : List ℕ) → Among (length_fits most ws)
  length_among h most ws = among_demand (leb 1 (length ws) && leb (length ws) most) bad_length 0 _ h

  scratch_among : P small_scratch → (n : ℕ) → Among (scratch_fits n)
  scratch_among h n = among_demand (leb scratch_words n) small_scratch 0 n h

  output_among : P short_output → (room : ℕ) (r : Result) → Among (output_fits room r)
  output_among h room r = among_demand (leb (length r.words) room) short_output (length r.words) r h

  whole_among : P ragged → (ns : List ℕ) → Among (slices_whole ns)
  whole_among h ns = among_demand (whole_words ns) ragged 0 ns h

-- ---- the calls

abbrev OneOf : List ℕ → ℕ → Type 0
OneOf ns n = elem n ns ≡ true

pub lower_numbers_lem : LowerNumbers
lower_numbers_lem signature rule counters output scratch n p e =
    let P = OneOf lower_numbers in
    among_is P (lower_res signature rule counters output scratch) n p
    (among_bind P (slices_whole (length signature ∷ length rule ∷ length counters ∷ length output ∷ scratch ∷ [])) _
    (whole_among P refl (length signature ∷ length rule ∷ length counters ∷ length output ∷ scratch ∷ []))
    (λ ns. among_bind P (read_signature (words signature)) _ (signature_among P refl (words signature))
    (λ s. among_bind P (demand (leb (heads s) (length (words counters))) few_counters 0 (words counters)) _
    (among_demand P (leb (heads s) (length (words counters))) few_counters 0 (words counters) refl)
    (λ c. among_bind P (scratch_fits (scratch / 4)) _ (scratch_among P refl (scratch / 4))
    (λ k. among_bind P (length_fits max_written (words rule)) _ (length_among P refl max_written (words rule))
    (λ l. among_bind P (read_written s (words rule)) _ (written_among P refl refl s (words rule))
    (λ r. among_bind P (lower_rule s r (words counters)) _ (rule_among P refl refl refl s r (words counters)) (λ o. output_among P refl (length output / 4) o))))))))
    e

pub settle_numbers_lem : SettleNumbers
settle_numbers_lem signature rule output scratch n p e =
    let P = OneOf settle_numbers in
    among_is P (settle_res signature rule output scratch) n p
    (among_bind P (slices_whole (length signature ∷ length rule ∷ length output ∷ scratch ∷ [])) _ (whole_among P refl (length signature ∷ length rule ∷ length output ∷ scratch ∷ []))
    (λ ns. among_bind P (read_signature (words signature)) _ (signature_among P refl (words signature))
    (λ s. among_bind P (scratch_fits (scratch / 4)) _ (scratch_among P refl (scratch / 4))
    (λ k. among_bind P (length_fits max_flat (words rule)) _ (length_among P refl max_flat (words rule))
    (λ l. among_bind P (read_flat s (words rule)) _ (flat_among P refl refl refl s (words rule))
    (λ f. output_among P refl (length output / 4) (settled_result (settle s f.atoms) f.actions [])))))))
    e

pub free_vars_numbers_lem : FreeVarsNumbers
free_vars_numbers_lem signature rule output n p e =
    let P = OneOf free_vars_numbers in
    among_is P (free_vars_res signature rule output) n p
    (among_bind P (slices_whole (length signature ∷ length rule ∷ length output ∷ [])) _ (whole_among P refl (length signature ∷ length rule ∷ length output ∷ []))
    (λ ns. among_bind P (read_signature (words signature)) _ (signature_among P refl (words signature))
    (λ s. among_bind P (length_fits max_flat (words rule)) _ (length_among P refl max_flat (words rule))
    (λ l. among_bind P (read_flat s (words rule)) _ (flat_among P refl refl refl s (words rule))
    (λ f. output_among P refl (length output / 4) (record { words = get_free_vars s f.actions; replacements = 0; passes = 0; counters = [] }))))))
    e
