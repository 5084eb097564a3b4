-- Lowering changes counters only where it takes fresh variables, and takes them only of heads of the signature. So what each of these takings keeps,
-- a lowering keeps; and each keeps the counters past the heads. Assumes nothing.
use Prim.Native.Nat.{ℕ, ◌≤◌, ◌<◌}
use native.Mathlib.Omega.{arith}
use mathlib.Core.Path.{◌≡◌, refl, ◌∙◌, subst}
use mathlib.Core.Bool.{Bool, true, false}
use mathlib.Core.List.{List, [], ◌∷◌}
use mathlib.Core.Option.{Option, none, some}
use lib.ListN.{length, get_or, length-set}
use lib.Seq.{get_or-set_other}
use lib.Dec.{ltb}
use Rattle.rules.specs.Words.{limit16}
use Rattle.rules.specs.Refusals.{ok, used_up, unbound, already_defined}
use Rattle.rules.specs.Signature.{Sig, heads, elem}
use Rattle.rules.specs.Written.{Expr, Exprs, leaf, call, end, ◌then◌, Fact, holds, equal, Action, let', set', delete', subsume', union', panic', expr', Rule}
use Rattle.rules.specs.Flat.{CoreAction, Delete, Subsume}
use Rattle.rules.specs.ToQuery.{count, Fresh, fresh, Flat, Flats, flatten, flatten_all, Query, flatten_fact, to_query, body_vars}
use Rattle.rules.specs.ToCoreActions.{readable, Low, Lows, lower_expr, lower_exprs, Done, lower_set, lower_change, AsSet, union_as_set, lower_union, lower_let, lower_action, to_core_actions}
use Rattle.rules.specs.ToCoreActions.{CoreRule, to_core_rule}
use Rattle.rules.specs.Calls.{Result}
use Rattle.meaning.specs.Meaning.{All}
use Rattle.meaning.specs.Bounds.{CountersPastHeads}
use Rattle.meaning.proofs.Results.{bind_ok, ok_inj, refuse_ok, demand_ok}
use Rattle.meaning.proofs.Reading.{Formed, FormedAll, FormedCall, FormedFact, FormedAction, FormedRule, as_set_formed, written_formed}
use Rattle.meaning.proofs.ResultBounds.{lower_inverse}

-- ---- what each taking of a fresh variable keeps

-- a relation of counters before and after that takings of the signature's heads keep
pub record Kept (s : Sig) (R : List ℕ → List ℕ → Type 0) : Type 0 where
  pub none' : (cs : List ℕ) → R cs cs
  pub then' : (cs ds es : List ℕ) → R cs ds → R ds es → R cs es
  pub one : (p h : ℕ) (cs : List ℕ) (f : Fresh) → h < heads s → fresh p h cs ≡ ok f → R cs f.next

module _ (s : Sig) (n : ℕ) (R : List ℕ → List ℕ → Type 0) (k : Kept s R) where
  -- ---- the body

  mutual
    flatten_kept : (e : Expr) → Formed s n e → (cs : List ℕ) (r : Flat) → flatten e cs ≡ ok r → R cs r.next
    flatten_kept (leaf p w) h cs r e = subst (λ (x : Flat). R cs x.next) (ok_inj _ _ e) (k.none' cs)
    flatten_kept (call p h es) g cs r e =
        let f = bind_ok (fresh p h cs) _ r e in
        let a = bind_ok (flatten_all es f.0.next) _ r f.2 in
        subst (λ (x : Flat). R cs x.next) (ok_inj _ _ a.2)
        (k.then' cs _ _ (k.one p h cs f.0 g.head f.1) (flatten_all_kept es g.args f.0.next a.0 a.1))

    flatten_all_kept : (es : Exprs) → FormedAll s n es → (cs : List ℕ) (r : Flats) → flatten_all es cs ≡ ok r → R cs r.next
    flatten_all_kept end h cs r e = subst (λ (x : Flats). R cs x.next) (ok_inj _ _ e) (k.none' cs)
    flatten_all_kept (x then es) h cs r e =
        let a = bind_ok (flatten x cs) _ r e in
        let b = bind_ok (flatten_all es a.0.next) _ r a.2 in
        subst (λ (y : Flats). R cs y.next) (ok_inj _ _ b.2)
        (k.then' cs _ _ (flatten_kept x h.0 cs a.0 a.1) (flatten_all_kept es h.1 a.0.next b.0 b.1))

  fact_kept : (f : Fact) → FormedFact s n f → (cs : List ℕ) (q : Query) → flatten_fact f cs ≡ ok q → R cs q.next
  fact_kept (holds e) h cs q eq =
      let a = bind_ok (flatten e cs) _ q eq in
      subst (λ (x : Query). R cs x.next) (ok_inj _ _ a.2) (flatten_kept e h cs a.0 a.1)
  fact_kept (equal p x y) h cs q eq =
      let a = bind_ok (flatten x cs) _ q eq in
      let b = bind_ok (flatten y a.0.next) _ q a.2 in
      subst (λ (z : Query). R cs z.next) (ok_inj _ _ b.2)
      (k.then' cs _ _ (flatten_kept x h.0 cs a.0 a.1) (flatten_kept y h.1 a.0.next b.0 b.1))

  query_kept : (fs : List Fact) → All (FormedFact s n) fs → (cs : List ℕ) (q : Query) → to_query fs cs ≡ ok q → R cs q.next
  query_kept [] h cs q e = subst (λ (x : Query). R cs x.next) (ok_inj _ _ e) (k.none' cs)
  query_kept (f ∷ fs) h cs q e =
      let a = bind_ok (flatten_fact f cs) _ q e in
      let b = bind_ok (to_query fs a.0.next) _ q a.2 in
      subst (λ (x : Query). R cs x.next) (ok_inj _ _ b.2)
      (k.then' cs _ _ (fact_kept f h.0 cs a.0 a.1) (query_kept fs h.1 a.0.next b.0 b.1))

  -- ---- the head

  module _ (bound : List ℕ) where
    mutual
      lower_kept : (e : Expr) → Formed s n e → (cs : List ℕ) (r : Low) → lower_expr s bound e cs ≡ ok r → R cs r.next
      lower_kept (leaf p w) h cs r e =
          subst (λ (x : Low). R cs x.next) (demand_ok (readable s bound w) unbound p _ r e).1 (k.none' cs)
      lower_kept (call p h es) g cs r e =
          let a = bind_ok (lower_exprs s bound es cs) _ r e in
          let f = bind_ok (fresh p h a.0.next) _ r a.2 in
          subst (λ (x : Low). R cs x.next) (ok_inj _ _ f.2)
          (k.then' cs _ _ (lowers_kept es g.args cs a.0 a.1) (k.one p h a.0.next f.0 g.head f.1))

      lowers_kept : (es : Exprs) → FormedAll s n es → (cs : List ℕ) (r : Lows) → lower_exprs s bound es cs ≡ ok r → R cs r.next
      lowers_kept end h cs r e = subst (λ (x : Lows). R cs x.next) (ok_inj _ _ e) (k.none' cs)
      lowers_kept (x then es) h cs r e =
          let a = bind_ok (lower_expr s bound x cs) _ r e in
          let b = bind_ok (lower_exprs s bound es a.0.next) _ r a.2 in
          subst (λ (y : Lows). R cs y.next) (ok_inj _ _ b.2)
          (k.then' cs _ _ (lower_kept x h.0 cs a.0 a.1) (lowers_kept es h.1 a.0.next b.0 b.1))

    set_kept : (p h : ℕ) (es : Exprs) (e : Expr) → FormedCall s n h es (FormedAll s n es) → Formed s n e → (cs : List ℕ) (d : Done)
        → lower_set s bound p h es e cs ≡ ok d → R cs d.next
    set_kept p h es e g ge cs d eq =
        let r = bind_ok (lower_exprs s bound es cs) _ d eq in
        let q = bind_ok (lower_expr s bound e r.0.next) _ d r.2 in
        let f = bind_ok (fresh p h q.0.next) _ d q.2 in
        subst (λ (x : Done). R cs x.next) (ok_inj _ _ f.2)
        (k.then' cs _ _ (lowers_kept es g.args cs r.0 r.1)
        (k.then' r.0.next _ _ (lower_kept e ge r.0.next q.0 q.1) (k.one p h q.0.next f.0 g.head f.1)))

    change_kept : (change : ℕ → List ℕ → CoreAction) (p h : ℕ) (es : Exprs) → FormedCall s n h es (FormedAll s n es) → (cs : List ℕ) (d : Done)
        → lower_change s bound change p h es cs ≡ ok d → R cs d.next
    change_kept change p h es g cs d eq =
        let r = bind_ok (lower_exprs s bound es cs) _ d eq in
        let f = bind_ok (fresh p h r.0.next) _ d r.2 in
        subst (λ (x : Done). R cs x.next) (ok_inj _ _ f.2)
        (k.then' cs _ _ (lowers_kept es g.args cs r.0 r.1) (k.one p h r.0.next f.0 g.head f.1))

    union_kept : (a b : Expr) → Formed s n a → Formed s n b → (o : Option AsSet) → union_as_set s a b ≡ o → (cs : List ℕ) (d : Done)
        → lower_union s bound o a b cs ≡ ok d → R cs d.next
    union_kept a b fa fb (some u) e cs d eq =
        let f = as_set_formed s n a b fa fb u e in
        set_kept u.place u.head u.args u.value f.0 f.1 cs d eq
    union_kept a b fa fb none e cs d eq =
        let r = bind_ok (lower_expr s bound a cs) _ d eq in
        let q = bind_ok (lower_expr s bound b r.0.next) _ d r.2 in
        subst (λ (x : Done). R cs x.next) (ok_inj _ _ q.2)
        (k.then' cs _ _ (lower_kept a fa cs r.0 r.1) (lower_kept b fb r.0.next q.0 q.1))

    let_kept : (b : Bool) (p x : ℕ) (e : Expr) → Formed s n e → (cs : List ℕ) (d : Done) → lower_let b s bound p x e cs ≡ ok d → R cs d.next
    let_kept true p x e h cs d eq = absurd (refuse_ok already_defined p d eq)
    let_kept false p x e h cs d eq =
        let r = bind_ok (lower_expr s bound e cs) _ d eq in
        subst (λ (y : Done). R cs y.next) (ok_inj _ _ r.2) (lower_kept e h cs r.0 r.1)

    action_kept : (a : Action) → FormedAction s n a → (cs : List ℕ) (d : Done) → lower_action s bound a cs ≡ ok d → R cs d.next
    action_kept (let' p x e) h cs d eq = let_kept (elem x bound) p x e h.1 cs d eq
    action_kept (set' p g es e) h cs d eq = set_kept p g es e h.0 h.1 cs d eq
    action_kept (delete' p g es) h cs d eq = change_kept Delete p g es h cs d eq
    action_kept (subsume' p g es) h cs d eq = change_kept Subsume p g es h cs d eq
    action_kept (union' a b) h cs d eq = union_kept a b h.0 h.1 (union_as_set s a b) refl cs d eq
    action_kept (panic' l) h cs d eq = subst (λ (x : Done). R cs x.next) (ok_inj _ _ eq) (k.none' cs)
    action_kept (expr' e) h cs d eq =
        let r = bind_ok (lower_expr s bound e cs) _ d eq in
        subst (λ (x : Done). R cs x.next) (ok_inj _ _ r.2) (lower_kept e h cs r.0 r.1)

  actions_kept : (xs : List Action) → All (FormedAction s n) xs → (bound cs : List ℕ) (d : Done) → to_core_actions s bound xs cs ≡ ok d → R cs d.next
  actions_kept [] h bound cs d eq = subst (λ (x : Done). R cs x.next) (ok_inj _ _ eq) (k.none' cs)
  actions_kept (a ∷ xs) h bound cs d eq =
      let r = bind_ok (lower_action s bound a cs) _ d eq in
      let q = bind_ok (to_core_actions s r.0.bound xs r.0.next) _ d r.2 in
      subst (λ (x : Done). R cs x.next) (ok_inj _ _ q.2)
      (k.then' cs _ _ (action_kept bound a h.0 cs r.0 r.1) (actions_kept xs h.1 r.0.bound r.0.next q.0 q.1))

  pub rule_kept : (r : Rule) → FormedRule s n r → (cs : List ℕ) (c : CoreRule) → to_core_rule s r cs ≡ ok c → R cs c.next
  rule_kept r h cs c e =
      let q = bind_ok (to_query r.facts cs) _ c e in
      let d = bind_ok (to_core_actions s (body_vars s q.0.atoms) r.actions q.0.next) _ c q.2 in
      subst (λ (x : CoreRule). R cs x.next) (ok_inj _ _ d.2)
      (k.then' cs _ _ (query_kept r.facts h.facts cs q.0 q.1)
      (actions_kept r.actions h.actions (body_vars s q.0.atoms) q.0.next d.0 d.1))

-- ---- the counters past the heads

module _ (s : Sig) where
  abbrev Past : List ℕ → List ℕ → Type 0
  Past cs ds = (length ds ≡ length cs) × ((h : ℕ) → heads s ≤ h → get_or ds h 0 ≡ get_or cs h 0)

  past : Kept s Past
  past =
      record {
        none' = λ cs. (refl, λ h l. refl);
        then' = λ cs ds es a b. (b.0 ∙ a.0, λ h l. b.1 h l ∙ a.1 h l);
        one = λ p h cs f small e. go p h cs f small e;
      }
    where
      go : (p h : ℕ) (cs : List ℕ) (f : Fresh) → h < heads s → fresh p h cs ≡ ok f → Past cs f.next
      go p h cs f small e =
          subst (λ (x : Fresh). Past cs x.next) (demand_ok (ltb (count cs h) limit16) used_up p _ f e).1
          (length-set cs h _, λ g l. get_or-set_other cs h g _ 0 (λ q. omega arith))

pub counters_past_heads : CountersPastHeads
counters_past_heads signature rule counters room scratch o e =
    let w = lower_inverse signature rule counters room scratch o e in
    let s = w.sig in
    let formed = written_formed s rule w.tree w.read in
    let h =
    subst (λ (x : Result). Past s counters x.counters) w.gives
    (rule_kept s (length rule) (Past s) (past s) w.tree formed counters w.core w.lowers) in
    (s, w.reads, h.0, h.1)
