-- In one lowering all fresh variables are distinct, and none is a written name: the promises of specs/FreshVars.antt. Assumes nothing.
use Prim.Native.Nat.{ℕ, ◌≤◌, ◌<◌}
use native.Mathlib.Nat.{le_refl, le_trans}
use native.Mathlib.Omega.{arith}
use mathlib.Core.Path.{◌≡◌, refl, sym, ◌∙◌, ap, subst}
use mathlib.Core.Bool.{Bool, true, false, ◌||◌}
use mathlib.Core.List.{List, [], ◌∷◌, ◌++◌, append-nil}
use mathlib.Core.Option.{Option, none, some}
use Rattle.rules.specs.Words.{limit16, fresh_word, is_name_word, is_literal_word}
use Rattle.rules.specs.Refusals.{ok, unbound, already_defined}
use Rattle.rules.specs.Signature.{Sig, is_fresh, elem}
use Rattle.rules.specs.Written.{Expr, Exprs, leaf, call, end, ◌then◌, Fact, holds, equal, Action, let', set', delete', subsume', union', panic', expr', Rule}
use Rattle.rules.specs.Flat.{Atom, eqn, tab, CoreAction, Let, Set, Delete, Subsume, Union, Panic, Call}
use Rattle.rules.specs.ToQuery.{count, Fresh, fresh, Flat, Flats, flatten, flatten_all, Query, flatten_fact, to_query, body_vars}
use Rattle.rules.specs.ToCoreActions.{readable, Low, Lows, lower_expr, lower_exprs, Done, lower_set, lower_change, AsSet, union_as_set}
use Rattle.rules.specs.ToCoreActions.{lower_union, lower_let, lower_action, to_core_actions, CoreRule, to_core_rule}
use Rattle.meaning.specs.Meaning.{All}
use Rattle.meaning.specs.FreshVars.{Distinct, made_by_atoms, made_by_actions, made, leaves, leaves_all, fact_leaves, action_leaves, PairByWord, FreshAreNew}
use Rattle.meaning.proofs.Lists.{all_append, all_map, or_right}
use Rattle.meaning.proofs.Results.{bind_ok, ok_inj, refuse_ok, demand_ok}
use Rattle.meaning.proofs.Fresh.{Grows, Took, took, fresh_inj, fresh_is}
use Rattle.meaning.proofs.Reading.{Formed, FormedAll, FormedFact, FormedAction, leaf_plain, written_formed}

pub pair_by_word : PairByWord
pair_by_word = fresh_inj

-- ---- lists of variables taken between two states of the counters

-- v is the fresh variable of a head and a count that was still to come at cs and is used up at ds
pub record Between (cs ds : List ℕ) (v : ℕ) : Type 0 where
  pub head : ℕ
  pub number : ℕ
  pub is_it : v ≡ fresh_word head number
  pub after : count cs head ≤ number
  pub before : number < count ds head
  pub small : number < limit16

pub record Takes (cs ds : List ℕ) (vs : List ℕ) : Type 0 where
  pub grows : Grows cs ds
  pub each : All (Between cs ds) vs
  pub apart : Distinct vs

between_wide : (bs cs ds es : List ℕ) → Grows bs cs → Grows ds es → (v : ℕ) → Between cs ds v → Between bs es v
between_wide bs cs ds es g k v b =
    record {
      head = b.head;
      number = b.number;
      is_it = b.is_it;
      after = le_trans (g b.head) b.after;
      before = le_trans b.before (k b.head);
      small = b.small;
    }

-- what is taken before ds is none of what is taken after it
between_apart : (cs ds es : List ℕ) (u v : ℕ) → Between cs ds u → Between ds es v → u ≡ v → ⊥
between_apart cs ds es u v a b e =
    let p = fresh_inj a.head a.number b.head b.number a.small b.small (sym a.is_it ∙ e ∙ b.is_it) in
    let l : b.number < count ds b.head = subst (λ (h : ℕ). b.number < count ds h) p.0 (subst (λ (n : ℕ). n < count ds a.head) p.1 a.before) in
    let m = b.after in
    omega arith

distinct_append : (xs ys : List ℕ) → Distinct xs → Distinct ys → All (λ (x : ℕ). All (λ (y : ℕ). x ≡ y → ⊥) ys) xs → Distinct (xs ++ ys)
distinct_append [] ys p q a = q
distinct_append (x ∷ xs) ys p q a = (all_append (λ (y : ℕ). x ≡ y → ⊥) xs ys p.0 a.0, distinct_append xs ys p.1 q a.1)

apart_all : (P Q : ℕ → Type 0) → ((x y : ℕ) → P x → Q y → x ≡ y → ⊥) → (xs ys : List ℕ) → All P xs → All Q ys → All (λ (x : ℕ). All (λ (y : ℕ). x ≡ y → ⊥) ys) xs
apart_all P Q f xs ys h k = all_map P _ (λ x p. all_map Q _ (λ y q. f x y p q) ys k) xs h

module _ (cs ds es : List ℕ) (us vs : List ℕ) (a : Takes cs ds us) (b : Takes ds es vs) where
  first_wide : All (Between cs es) us
  first_wide = all_map _ _ (between_wide cs cs ds es (λ h. le_refl _) b.grows) us a.each

  second_wide : All (Between cs es) vs
  second_wide = all_map _ _ (between_wide cs ds es es a.grows (λ h. le_refl _)) vs b.each

  grow_both : Grows cs es
  grow_both h = le_trans (a.grows h) (b.grows h)

  pub takes_then : Takes cs es (us ++ vs)
  takes_then =
      record {
        grows = grow_both;
        each = all_append (Between cs es) us vs first_wide second_wide;
        apart = distinct_append us vs a.apart b.apart (apart_all (Between cs ds) (Between ds es) (λ x y. between_apart cs ds es x y) us vs a.each b.each);
      }

  -- a call of a fact takes its variable before its arguments do, and its atom stands behind theirs
  pub takes_swap : Takes cs es (vs ++ us)
  takes_swap =
      record {
        grows = grow_both;
        each = all_append (Between cs es) vs us second_wide first_wide;
        apart =
            distinct_append vs us b.apart a.apart
            (apart_all (Between ds es) (Between cs ds) (λ y x q p e. between_apart cs ds es x y p q (sym e)) vs us b.each a.each);
      }

takes_none : (cs : List ℕ) → Takes cs cs []
takes_none cs = record { grows = λ h. le_refl _; each = tt; apart = tt }

-- a count that is used up and binds nothing
takes_extra : (cs ds es vs : List ℕ) → Takes cs ds vs → Grows ds es → Takes cs es vs
takes_extra cs ds es vs a g =
    record { grows = λ h. le_trans (a.grows h) (g h); each = all_map _ _ (between_wide cs cs ds es (λ h. le_refl _) g) vs a.each; apart = a.apart }

takes_one : (h : ℕ) (cs : List ℕ) (f : Fresh) → Took h cs f → Takes cs f.next (f.var ∷ [])
takes_one h cs f t =
    record {
      grows = t.grows;
      each =
          (record { head = h; number = count cs h; is_it = t.is_it; after = le_refl _; before = let n = t.next in omega arith; small = t.small }, tt);
      apart = (tt, tt);
    }

-- ---- what is made in a row is made by each

atoms_row : (xs ys : List Atom) → made_by_atoms (xs ++ ys) ≡ made_by_atoms xs ++ made_by_atoms ys
atoms_row [] ys = refl
atoms_row (eqn p a b ∷ xs) ys = atoms_row xs ys
atoms_row (tab t ∷ xs) ys = ap (λ (l : List ℕ). t.out ∷ l) (atoms_row xs ys)

actions_row : (xs ys : List CoreAction) → made_by_actions (xs ++ ys) ≡ made_by_actions xs ++ made_by_actions ys
actions_row [] ys = refl
actions_row (Let x t ∷ xs) ys = actions_row xs ys
actions_row (Set h ts v ∷ xs) ys = actions_row xs ys
actions_row (Delete h ts ∷ xs) ys = actions_row xs ys
actions_row (Subsume h ts ∷ xs) ys = actions_row xs ys
actions_row (Union a b ∷ xs) ys = actions_row xs ys
actions_row (Panic l ∷ xs) ys = actions_row xs ys
actions_row (Call x h ts ∷ xs) ys = ap (λ (l : List ℕ). x ∷ l) (actions_row xs ys)

-- behind others, one that makes nothing
actions_silent : (xs : List CoreAction) (a : CoreAction) → made_by_actions (a ∷ []) ≡ [] → made_by_actions (xs ++ a ∷ []) ≡ made_by_actions xs
actions_silent xs a e = actions_row xs (a ∷ []) ∙ ap (λ (l : List ℕ). made_by_actions xs ++ l) e ∙ append-nil (made_by_actions xs)

-- ---- the body

mutual
  flatten_takes : (e : Expr) (cs : List ℕ) (r : Flat) → flatten e cs ≡ ok r → Takes cs r.next (made_by_atoms r.atoms)
  flatten_takes (leaf p w) cs r e = subst (λ (x : Flat). Takes cs x.next (made_by_atoms x.atoms)) (ok_inj _ _ e) (takes_none cs)
  flatten_takes (call p h es) cs r e =
      let f = bind_ok (fresh p h cs) _ r e in
      let q = bind_ok (flatten_all es f.0.next) _ r f.2 in
      subst (λ (x : Flat). Takes cs x.next (made_by_atoms x.atoms)) (ok_inj _ _ q.2)
      (subst (λ (l : List ℕ). Takes cs q.0.next l) (sym (atoms_row q.0.atoms _))
      (takes_swap cs f.0.next q.0.next (f.0.var ∷ []) (made_by_atoms q.0.atoms) (takes_one h cs f.0 (took p h cs f.0 f.1)) (flattens_take es f.0.next q.0 q.1)))

  flattens_take : (es : Exprs) (cs : List ℕ) (r : Flats) → flatten_all es cs ≡ ok r → Takes cs r.next (made_by_atoms r.atoms)
  flattens_take end cs r e = subst (λ (x : Flats). Takes cs x.next (made_by_atoms x.atoms)) (ok_inj _ _ e) (takes_none cs)
  flattens_take (x then es) cs r e =
      let a = bind_ok (flatten x cs) _ r e in
      let b = bind_ok (flatten_all es a.0.next) _ r a.2 in
      subst (λ (y : Flats). Takes cs y.next (made_by_atoms y.atoms)) (ok_inj _ _ b.2)
      (subst (λ (l : List ℕ). Takes cs b.0.next l) (sym (atoms_row a.0.atoms b.0.atoms))
      (takes_then cs a.0.next b.0.next _ _ (flatten_takes x cs a.0 a.1) (flattens_take es a.0.next b.0 b.1)))

fact_takes : (f : Fact) (cs : List ℕ) (q : Query) → flatten_fact f cs ≡ ok q → Takes cs q.next (made_by_atoms q.atoms)
fact_takes (holds e) cs q k =
    let a = bind_ok (flatten e cs) _ q k in
    subst (λ (x : Query). Takes cs x.next (made_by_atoms x.atoms)) (ok_inj _ _ a.2) (flatten_takes e cs a.0 a.1)
fact_takes (equal p x y) cs q k =
    let a = bind_ok (flatten x cs) _ q k in
    let b = bind_ok (flatten y a.0.next) _ q a.2 in
    let both = a.0.atoms ++ b.0.atoms in
    subst (λ (z : Query). Takes cs z.next (made_by_atoms z.atoms)) (ok_inj _ _ b.2)
    (subst (λ (l : List ℕ). Takes cs b.0.next l)
    (sym (atoms_row both (eqn p a.0.term b.0.term ∷ []) ∙ append-nil (made_by_atoms both) ∙ atoms_row a.0.atoms b.0.atoms))
    (takes_then cs a.0.next b.0.next _ _ (flatten_takes x cs a.0 a.1) (flatten_takes y a.0.next b.0 b.1)))

query_takes : (fs : List Fact) (cs : List ℕ) (q : Query) → to_query fs cs ≡ ok q → Takes cs q.next (made_by_atoms q.atoms)
query_takes [] cs q k = subst (λ (x : Query). Takes cs x.next (made_by_atoms x.atoms)) (ok_inj _ _ k) (takes_none cs)
query_takes (f ∷ fs) cs q k =
    let a = bind_ok (flatten_fact f cs) _ q k in
    let b = bind_ok (to_query fs a.0.next) _ q a.2 in
    subst (λ (x : Query). Takes cs x.next (made_by_atoms x.atoms)) (ok_inj _ _ b.2)
    (subst (λ (l : List ℕ). Takes cs b.0.next l) (sym (atoms_row a.0.atoms b.0.atoms))
    (takes_then cs a.0.next b.0.next _ _ (fact_takes f cs a.0 a.1) (query_takes fs a.0.next b.0 b.1)))

-- ---- the head

module _ (s : Sig) (bound : List ℕ) where
  mutual
    lower_takes : (e : Expr) (cs : List ℕ) (r : Low) → lower_expr s bound e cs ≡ ok r → Takes cs r.next (made_by_actions r.acts)
    lower_takes (leaf p w) cs r e =
        subst (λ (x : Low). Takes cs x.next (made_by_actions x.acts)) (demand_ok (readable s bound w) unbound p _ r e).1 (takes_none cs)
    lower_takes (call p h es) cs r e =
        let q = bind_ok (lower_exprs s bound es cs) _ r e in
        let f = bind_ok (fresh p h q.0.next) _ r q.2 in
        subst (λ (x : Low). Takes cs x.next (made_by_actions x.acts)) (ok_inj _ _ f.2)
        (subst (λ (l : List ℕ). Takes cs f.0.next l) (sym (actions_row q.0.acts _))
        (takes_then cs q.0.next f.0.next (made_by_actions q.0.acts) (f.0.var ∷ []) (lowers_take es cs q.0 q.1)
        (takes_one h q.0.next f.0 (took p h q.0.next f.0 f.1))))

    lowers_take : (es : Exprs) (cs : List ℕ) (r : Lows) → lower_exprs s bound es cs ≡ ok r → Takes cs r.next (made_by_actions r.acts)
    lowers_take end cs r e = subst (λ (x : Lows). Takes cs x.next (made_by_actions x.acts)) (ok_inj _ _ e) (takes_none cs)
    lowers_take (x then es) cs r e =
        let a = bind_ok (lower_expr s bound x cs) _ r e in
        let b = bind_ok (lower_exprs s bound es a.0.next) _ r a.2 in
        subst (λ (y : Lows). Takes cs y.next (made_by_actions y.acts)) (ok_inj _ _ b.2)
        (subst (λ (l : List ℕ). Takes cs b.0.next l) (sym (actions_row a.0.acts b.0.acts))
        (takes_then cs a.0.next b.0.next _ _ (lower_takes x cs a.0 a.1) (lowers_take es a.0.next b.0 b.1)))

  abbrev TakesActs : List ℕ → Done → Type 0
  TakesActs cs d = Takes cs d.next (made_by_actions d.acts)

  set_takes : (p h : ℕ) (es : Exprs) (e : Expr) (cs : List ℕ) (d : Done) → lower_set s bound p h es e cs ≡ ok d → TakesActs cs d
  set_takes p h es e cs d k =
      let r = bind_ok (lower_exprs s bound es cs) _ d k in
      let q = bind_ok (lower_expr s bound e r.0.next) _ d r.2 in
      let f = bind_ok (fresh p h q.0.next) _ d q.2 in
      let both = r.0.acts ++ q.0.acts in
      subst (TakesActs cs) (ok_inj _ _ f.2)
      (subst (λ (l : List ℕ). Takes cs f.0.next l) (sym (actions_silent both (Set h r.0.terms q.0.term) refl ∙ actions_row r.0.acts q.0.acts))
      (takes_extra cs q.0.next f.0.next _
      (takes_then cs r.0.next q.0.next _ _ (lowers_take es cs r.0 r.1) (lower_takes e r.0.next q.0 q.1))
      (took p h q.0.next f.0 f.1).grows))

  change_takes : (change : ℕ → List ℕ → CoreAction) → ((h : ℕ) (ts : List ℕ) → made_by_actions (change h ts ∷ []) ≡ [])
      → (p h : ℕ) (es : Exprs) (cs : List ℕ) (d : Done) → lower_change s bound change p h es cs ≡ ok d → TakesActs cs d
  change_takes change silent p h es cs d k =
      let r = bind_ok (lower_exprs s bound es cs) _ d k in
      let f = bind_ok (fresh p h r.0.next) _ d r.2 in
      subst (TakesActs cs) (ok_inj _ _ f.2)
      (subst (λ (l : List ℕ). Takes cs f.0.next l) (sym (actions_silent r.0.acts (change h r.0.terms) (silent h r.0.terms)))
      (takes_extra cs r.0.next f.0.next _ (lowers_take es cs r.0 r.1) (took p h r.0.next f.0 f.1).grows))

  union_takes : (a b : Expr) (o : Option AsSet) (cs : List ℕ) (d : Done) → lower_union s bound o a b cs ≡ ok d → TakesActs cs d
  union_takes a b (some u) cs d k = set_takes u.place u.head u.args u.value cs d k
  union_takes a b none cs d k =
      let r = bind_ok (lower_expr s bound a cs) _ d k in
      let q = bind_ok (lower_expr s bound b r.0.next) _ d r.2 in
      let both = r.0.acts ++ q.0.acts in
      subst (TakesActs cs) (ok_inj _ _ q.2)
      (subst (λ (l : List ℕ). Takes cs q.0.next l) (sym (actions_silent both (Union r.0.term q.0.term) refl ∙ actions_row r.0.acts q.0.acts))
      (takes_then cs r.0.next q.0.next _ _ (lower_takes a cs r.0 r.1) (lower_takes b r.0.next q.0 q.1)))

  let_takes : (b : Bool) (p x : ℕ) (e : Expr) (cs : List ℕ) (d : Done) → lower_let b s bound p x e cs ≡ ok d → TakesActs cs d
  let_takes true p x e cs d k = absurd (refuse_ok already_defined p d k)
  let_takes false p x e cs d k =
      let r = bind_ok (lower_expr s bound e cs) _ d k in
      subst (TakesActs cs) (ok_inj _ _ r.2)
      (subst (λ (l : List ℕ). Takes cs r.0.next l) (sym (actions_silent r.0.acts (Let x r.0.term) refl)) (lower_takes e cs r.0 r.1))

  action_takes : (a : Action) (cs : List ℕ) (d : Done) → lower_action s bound a cs ≡ ok d → TakesActs cs d
  action_takes (let' p x e) cs d k = let_takes (elem x bound) p x e cs d k
  action_takes (set' p h es e) cs d k = set_takes p h es e cs d k
  action_takes (delete' p h es) cs d k = change_takes Delete (λ h ts. refl) p h es cs d k
  action_takes (subsume' p h es) cs d k = change_takes Subsume (λ h ts. refl) p h es cs d k
  action_takes (union' a b) cs d k = union_takes a b (union_as_set s a b) cs d k
  action_takes (panic' l) cs d k = subst (TakesActs cs) (ok_inj _ _ k) (takes_none cs)
  action_takes (expr' e) cs d k =
      let r = bind_ok (lower_expr s bound e cs) _ d k in
      subst (TakesActs cs) (ok_inj _ _ r.2) (lower_takes e cs r.0 r.1)

actions_take : (s : Sig) (xs : List Action) (bound cs : List ℕ) (d : Done) → to_core_actions s bound xs cs ≡ ok d → Takes cs d.next (made_by_actions d.acts)
actions_take s [] bound cs d k = subst (λ (x : Done). Takes cs x.next (made_by_actions x.acts)) (ok_inj _ _ k) (takes_none cs)
actions_take s (a ∷ xs) bound cs d k =
    let r = bind_ok (lower_action s bound a cs) _ d k in
    let q = bind_ok (to_core_actions s r.0.bound xs r.0.next) _ d r.2 in
    subst (λ (x : Done). Takes cs x.next (made_by_actions x.acts)) (ok_inj _ _ q.2)
    (subst (λ (l : List ℕ). Takes cs q.0.next l) (sym (actions_row r.0.acts q.0.acts))
    (takes_then cs r.0.next q.0.next _ _ (action_takes s bound a cs r.0 r.1) (actions_take s xs r.0.bound r.0.next q.0 q.1)))

rule_takes : (s : Sig) (r : Rule) (cs : List ℕ) (c : CoreRule) → to_core_rule s r cs ≡ ok c → Takes cs c.next (made c)
rule_takes s r cs c k =
    let q = bind_ok (to_query r.facts cs) _ c k in
    let d = bind_ok (to_core_actions s (body_vars s q.0.atoms) r.actions q.0.next) _ c q.2 in
    subst (λ (x : CoreRule). Takes cs x.next (made x)) (ok_inj _ _ d.2)
    (takes_then cs q.0.next d.0.next _ _ (query_takes r.facts cs q.0 q.1) (actions_take s r.actions _ q.0.next d.0 d.1))

-- ---- what is written is no fresh variable

module _ (s : Sig) (n : ℕ) where
  abbrev Old : ℕ → Type 0
  Old w = is_fresh w ≡ false

  mutual
    leaves_old : (e : Expr) → Formed s n e → All Old (leaves e)
    leaves_old (leaf p w) h = (leaf_plain w h, tt)
    leaves_old (call p g es) h = all_leaves_old es h.args

    all_leaves_old : (es : Exprs) → FormedAll s n es → All Old (leaves_all es)
    all_leaves_old end h = tt
    all_leaves_old (e then es) h = all_append Old (leaves e) (leaves_all es) (leaves_old e h.0) (all_leaves_old es h.1)

  fact_old : (f : Fact) → FormedFact s n f → All Old (fact_leaves f)
  fact_old (holds e) h = leaves_old e h
  fact_old (equal p a b) h = all_append Old (leaves a) (leaves b) (leaves_old a h.0) (leaves_old b h.1)

  action_old : (a : Action) → FormedAction s n a → All Old (action_leaves a)
  action_old (let' p x e) h = (leaf_plain x (ap (λ (b : Bool). b || is_literal_word x) h.0), leaves_old e h.1)
  action_old (set' p g es e) h = all_append Old (leaves_all es) (leaves e) (all_leaves_old es h.0.args) (leaves_old e h.1)
  action_old (delete' p g es) h = all_leaves_old es h.args
  action_old (subsume' p g es) h = all_leaves_old es h.args
  action_old (union' a b) h = all_append Old (leaves a) (leaves b) (leaves_old a h.0) (leaves_old b h.1)
  action_old (panic' l) h = (leaf_plain l (or_right (is_name_word l) (is_literal_word l) h), tt)
  action_old (expr' e) h = leaves_old e h

pub fresh_are_new : FreshAreNew
fresh_are_new s ws cs r c k e =
    let t = rule_takes s r cs c e in
    let f = written_formed s ws r k in (
      t.apart,
      all_map _ _ (λ v b. ap is_fresh b.is_it ∙ fresh_is b.head b.number) (made c) t.each,
      all_map _ _ (fact_old s _) r.facts f.facts,
      all_map _ _ (action_old s _) r.actions f.actions,
    )
