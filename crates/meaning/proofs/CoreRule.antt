-- Lowering keeps the meaning of a rule, on trees: what demand 3 says before any word is read or written. Assumes nothing.
use Prim.Native.Nat.{ℕ, ◌+◌}
use mathlib.Core.Path.{◌≡◌, refl, sym, ◌∙◌, ap, subst, fun_ext}
use mathlib.Core.Logic.{◌↔◌}
use mathlib.Core.Bool.{Bool, true, false, cond, ◌||◌}
use mathlib.Core.List.{List, [], ◌++◌}
use lib.Dec.{leb}
use Rattle.rules.specs.Words.{name_base}
use Rattle.rules.specs.Refusals.{ok}
use Rattle.rules.specs.Signature.{Sig, is_fresh}
use Rattle.rules.specs.Written.{Rule}
use Rattle.rules.specs.ToQuery.{Query, to_query, body_vars}
use Rattle.rules.specs.ToCoreActions.{Done, to_core_actions, CoreRule, to_core_rule}
use Rattle.rules.specs.Canonicalize.{bindings}
use Rattle.rules.specs.RemoveDupVars.{settle}
use Rattle.meaning.specs.Meaning.{World, ValueEq, All, val, FactHolds, Answers, Run, run_actions, run_core_actions}
use Rattle.meaning.specs.Demand3.{join, OneChoice}
use Rattle.meaning.proofs.Results.{bind_ok, ok_inj}
use Rattle.meaning.proofs.Query.{PlainFact, AgreePlain, Same, facts_agree, GoodQ, good_query, before_plain}
use Rattle.meaning.proofs.Terms.{all_terms_map}
use Rattle.meaning.proofs.CoreActions.{PlainAction, actions_alike, bindings_run, run_append}
use Rattle.meaning.proofs.Settling.{SettledHolds, settle_law}

-- no fresh variable is written
pub record PlainRule (r : Rule) : Type 0 where
  pub facts : All PlainFact r.facts
  pub actions : All PlainAction r.actions

-- what demand 3 says, of the parts that lowering makes: the flat body, the atoms it settles to, the replacements and the head
pub record Keeps {D : Type 0} (s : Sig) (W : World D) (r : Rule) (c : CoreRule) : Type 0 where
  pub matches : (ρ : ℕ → D) → All (FactHolds s W ρ) r.facts ↔ ((φ : ℕ → D) × SettledHolds s W (join ρ φ) (settle s c.body))
  pub unique : (ρ φ ψ : ℕ → D) → SettledHolds s W (join ρ φ) (settle s c.body) → SettledHolds s W (join ρ ψ) (settle s c.body) → OneChoice φ ψ c.body
  pub events : (ρ φ : ℕ → D) → SettledHolds s W (join ρ φ) (settle s c.body) → (ans : Answers D)
      → (run_core_actions s W ans (bindings (settle s c.body).repls ++ c.head) (record { env = join ρ φ; trace = [] })).trace
      ≡ (run_actions s W ans r.actions (record { env = ρ; trace = [] })).trace

module _ {D : Type 0} (ρ φ : ℕ → D) where
  join_plain : AgreePlain ρ (join ρ φ)
  join_plain w n = ap (λ (b : Bool). cond b (φ w) (ρ w)) (sym n)

  join_fresh : (s : Sig) (W : World D) (w : ℕ) → is_fresh w ≡ true → val s W (join ρ φ) w ≡ φ w
  join_fresh s W w e = ap (λ (b : Bool). cond (b || leb (name_base + s.globals) w) (cond b (φ w) (ρ w)) (W.fixed w)) e

-- values that agree with ρ on names are ρ joined with themselves
join_self : {D : Type 0} (ρ τ : ℕ → D) → AgreePlain ρ τ → τ ≡ join ρ τ
join_self ρ τ a = fun_ext (λ w. go w (is_fresh w) refl)
  where
    go : (w : ℕ) (b : Bool) → is_fresh w ≡ b → τ w ≡ cond b (τ w) (ρ w)
    go w true e = refl
    go w false e = sym (a w e)

module _ {D : Type 0} (s : Sig) (W : World D) (eqs : ValueEq D s W) (r : Rule) (pl : PlainRule r) where
  keeps : (cs : List ℕ) (q : Query) → GoodQ s W (λ σ. All (FactHolds s W σ) r.facts) cs q
      → (bound : List ℕ) (d : Done) → to_core_actions s bound r.actions q.next ≡ ok d
      → Keeps s W r (record { body = q.atoms; head = d.acts; next = d.next })
  keeps cs q g bound d k =
      record {
        matches = λ ρ. (
          λ h.
              let t = g.complete ρ h in (
                t.0,
                subst (λ (σ : ℕ → D). SettledHolds s W σ (settle s q.atoms))
                    (join_self ρ t.0 (before_plain cs ρ t.0 t.1)) ((settle_law s W t.0 eqs q.atoms).0 t.2),
              ),
          λ h.
              facts_agree s W (join ρ h.0) ρ (λ w n. sym (join_plain ρ h.0 w n)) r.facts pl.facts
              (g.sound (join ρ h.0) ((settle_law s W (join ρ h.0) eqs q.atoms).1 h.1)),
        );
        unique = λ ρ φ ψ h k.
            all_terms_map (Same s W (join ρ φ) (join ρ ψ)) (λ (w : ℕ). is_fresh w ≡ true → φ w ≡ ψ w)
            (λ w e f. sym (join_fresh ρ φ s W w f) ∙ e ∙ join_fresh ρ ψ s W w f) q.atoms
            (g.unique (join ρ φ) (join ρ ψ) (λ w n. sym (join_plain ρ φ w n) ∙ join_plain ρ ψ w n)
            ((settle_law s W (join ρ φ) eqs q.atoms).1 h) ((settle_law s W (join ρ ψ) eqs q.atoms).1 k));
        events = λ ρ φ h ans.
            let m : Run D = record { env = join ρ φ; trace = [] } in
            let rs = (settle s q.atoms).repls in
            ap (λ (x : Run D). x.trace) (run_append s W ans (bindings rs) d.acts m ∙ ap (λ (x : Run D). run_core_actions s W ans d.acts x) (bindings_run s W ans rs (join ρ φ) [] h.1))
            ∙ (actions_alike s W ans r.actions pl.actions bound q.next d k (record { env = ρ; trace = [] }) m
            (record { names = join_plain ρ φ; events = refl })).events;
      }

  pub core_rule_keeps : (cs : List ℕ) (c : CoreRule) → to_core_rule s r cs ≡ ok c → Keeps s W r c
  core_rule_keeps cs c k =
      let q = bind_ok (to_query r.facts cs) _ c k in
      let d = bind_ok (to_core_actions s (body_vars s q.0.atoms) r.actions q.0.next) _ c q.2 in
      subst (λ (x : CoreRule). Keeps s W r x) (ok_inj _ _ d.2)
      (keeps cs q.0 (good_query s W r.facts pl.facts cs q.0 q.1) (body_vars s q.0.atoms) d.0 d.1)
