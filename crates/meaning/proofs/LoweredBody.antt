-- The settled body of a written rule has, with its bindings, at most four words for each word of the facts: the outputs of its flat atoms are fresh
-- variables, no two of them the same.
-- Assumes nothing.
use Prim.Native.Nat.{ℕ, ◌+◌, ◌*◌, ◌≤◌}
use native.Mathlib.Omega.{arith}
use mathlib.Core.Path.{◌≡◌, refl, ap₂, subst}
use mathlib.Core.Bool.{Bool, true, false, ◌||◌}
use mathlib.Core.List.{List, [], ◌∷◌, ◌++◌}
use lib.ListN.{length}
use lib.Dec.{leb}
use borrow.Author.Tests.{ne_eqb, leb-true, leb-false}
use Rattle.rules.specs.Words.{name_base}
use Rattle.rules.specs.Refusals.{ok}
use Rattle.rules.specs.Signature.{Sig, is_var, is_fresh, same_term, elem}
use Rattle.rules.specs.Written.{Rule, read_written}
use Rattle.rules.specs.Flat.{Tab, Atom, eqn, tab, tab_words, words_of}
use Rattle.rules.specs.ToQuery.{to_query, body_vars}
use Rattle.rules.specs.ToCoreActions.{CoreRule, to_core_actions, to_core_rule}
use Rattle.rules.specs.RemoveDupVars.{settle}
use Rattle.meaning.specs.Meaning.{All}
use Rattle.meaning.specs.FreshVars.{Distinct, made_by_atoms, made_by_actions}
use Rattle.meaning.proofs.Sizes.{fact_size, total}
use Rattle.meaning.specs.Weight.{unlike, weight}
use Rattle.meaning.proofs.Lists.{or_left, all_left, all_map}
use Rattle.meaning.proofs.Results.{ok_inj, bind_ok}
use Rattle.meaning.proofs.FreshVars.{fresh_are_new}
use Rattle.meaning.proofs.DistinctWords.{NoDup}
use Rattle.meaning.proofs.CanonicalizeEnds.{unlike_small}
use Rattle.meaning.proofs.SmallAtoms.{is_small, cons_if, small_outs_in}
use Rattle.meaning.proofs.SmallAtomsMerged.{settle_size_small}
use Rattle.meaning.proofs.BodySizes.{Measure, query_measure}

-- ---- the weight that small atoms don't use

abbrev lean_tab : (small : Bool) → Tab → ℕ
lean_tab true t = 3
lean_tab false t = 2 + length t.ins

abbrev lean_weight : List Atom → ℕ
lean_weight [] = 0
lean_weight (eqn p a b ∷ xs) = 4 * unlike (same_term a b) + lean_weight xs
lean_weight (tab t ∷ xs) = lean_tab (is_small t) t + lean_weight xs

lean_weight_lem : (xs : List Atom) → lean_weight xs + length (small_outs_in xs) ≡ weight xs
lean_weight_lem [] = refl
lean_weight_lem (eqn p a b ∷ xs) = omega (arith, lean_weight_lem xs)
lean_weight_lem (tab t ∷ xs) = go (is_small t) refl (lean_weight_lem xs)
  where
    go : (c : Bool) → is_small t ≡ c → lean_weight xs + length (small_outs_in xs) ≡ weight xs
        → lean_tab c t + lean_weight xs + length (cons_if c t.out (small_outs_in xs)) ≡ weight (tab t ∷ xs)
    go true e ih = omega (arith, leb-true (length t.ins) 1 e)
    go false e ih = omega (arith, leb-false (length t.ins) 1 e)

lean_measure : Measure lean_weight 3
lean_measure = record { none = refl; both = both; table = table; equality = λ p a b. omega (arith, unlike_small (same_term a b)) }
  where
    both : (xs ys : List Atom) → lean_weight (xs ++ ys) ≡ lean_weight xs + lean_weight ys
    both [] ys = omega arith
    both (eqn p a b ∷ xs) ys = omega (arith, both xs ys)
    both (tab t ∷ xs) ys = omega (arith, both xs ys)

    one : (c : Bool) (t : Tab) → lean_tab c t ≤ 3 + length t.ins
    one true t = omega arith
    one false t = omega arith

    table : (t : Tab) → lean_weight (tab t ∷ []) ≤ 3 + length t.ins
    table t = omega (arith, one (is_small t) t)

-- ---- the outputs of flat atoms

small_all : (P : ℕ → Type 0) (xs : List Atom) → All P (made_by_atoms xs) → All P (small_outs_in xs)
small_all P [] h = tt
small_all P (eqn p a b ∷ xs) h = small_all P xs h
small_all P (tab t ∷ xs) h = go (is_small t) (small_all P xs h.1)
  where
    go : (c : Bool) → All P (small_outs_in xs) → All P (cons_if c t.out (small_outs_in xs))
    go true ih = (h.0, ih)
    go false ih = ih

absent : (w : ℕ) (ws : List ℕ) → All (λ (y : ℕ). w ≡ y → ⊥) ws → elem w ws ≡ false
absent w [] h = refl
absent w (y ∷ ws) h = ap₂ ◌||◌ (ne_eqb w y h.0) (absent w ws h.1)

small_distinct : (xs : List Atom) → Distinct (made_by_atoms xs) → NoDup (small_outs_in xs)
small_distinct [] h = tt
small_distinct (eqn p a b ∷ xs) h = small_distinct xs h
small_distinct (tab t ∷ xs) h = go (is_small t) (small_distinct xs h.1)
  where
    go : (c : Bool) → NoDup (small_outs_in xs) → NoDup (cons_if c t.out (small_outs_in xs))
    go true ih = (absent t.out (small_outs_in xs) (small_all (λ (y : ℕ). t.out ≡ y → ⊥) xs h.0), ih)
    go false ih = ih

distinct_left : (xs ys : List ℕ) → Distinct (xs ++ ys) → Distinct xs
distinct_left [] ys h = tt
distinct_left (x ∷ xs) ys h = (all_left (λ (y : ℕ). x ≡ y → ⊥) xs ys h.0, distinct_left xs ys h.1)

-- ---- a written rule

body_lean : (s : Sig) (r : Rule) (cs : List ℕ) (c : CoreRule) → to_core_rule s r cs ≡ ok c → lean_weight c.body ≤ 4 * total fact_size r.facts
body_lean s r cs c e =
    let q = bind_ok (to_query r.facts cs) _ c e in
    let d = bind_ok (to_core_actions s (body_vars s q.0.atoms) r.actions q.0.next) _ c q.2 in
    subst (λ (x : CoreRule). lean_weight x.body ≤ 4 * total fact_size r.facts) (ok_inj _ _ d.2)
    (query_measure lean_weight 3 lean_measure r.facts cs q.0 q.1)

pub lowered_body_size : (s : Sig) (ws cs : List ℕ) (r : Rule) (c : CoreRule) → read_written s ws ≡ ok r → to_core_rule s r cs ≡ ok c
    → length (words_of tab_words (settle s c.body).tabs) + 3 * length (settle s c.body).repls ≤ 4 * total fact_size r.facts
lowered_body_size s ws cs r c read e =
    let new = fresh_are_new s ws cs r c read e in
    let once = small_distinct c.body (distinct_left (made_by_atoms c.body) (made_by_actions c.head) new.0) in
    let fresh = small_all (λ (w : ℕ). is_fresh w ≡ true) c.body (all_left (λ (w : ℕ). is_fresh w ≡ true) (made_by_atoms c.body) (made_by_actions c.head) new.1) in
    let vars =
    all_map (λ (w : ℕ). is_fresh w ≡ true) (λ (w : ℕ). is_var s w ≡ true) (λ w h. or_left (is_fresh w) (leb (name_base + s.globals) w) h) (small_outs_in c.body) fresh in
    omega (arith, settle_size_small s c.body once vars, lean_weight_lem c.body, body_lean s r cs c e)
