-- Demand 3, proved: the statement of specs/Demand3.antt. Assumes nothing beyond what the statement supposes.
use Prim.Native.Nat.{ℕ, suc, ◌+◌, ◌≤◌, ◌<◌}
use native.Mathlib.Omega.{arith}
use mathlib.Core.Path.{◌≡◌, refl, sym, ◌∙◌, ap, ap₂, subst, transport, transport⁻¹}
use mathlib.Core.List.{List, [], ◌∷◌, ◌++◌}
use mathlib.Core.Option.{none-ne-some}
use lib.ListN.{length}
use lib.Seq.{take_at}
use Rattle.rules.specs.Words.{limit12, limit16, max_written}
use Rattle.rules.specs.Refusals.{ok}
use Rattle.rules.specs.Signature.{Sig}
use Rattle.rules.specs.Written.{Rule, read_written, Expr, Exprs, leaf, call, end, ◌then◌, Fact, holds, equal, Action, let', set', delete', subsume', union', panic', expr'}
use Rattle.rules.specs.Flat.{Tab, Atom, tab, CoreAction, FlatRule, tab_words, encode, read_flat}
use Rattle.rules.specs.ToQuery.{Query, to_query, terms_of, body_vars}
use Rattle.rules.specs.ToCoreActions.{CoreRule, to_core_actions, to_core_rule}
use Rattle.rules.specs.Canonicalize.{Replacement, bindings}
use Rattle.rules.specs.RemoveDupVars.{Settled, settle}
use Rattle.rules.specs.Calls.{Result, lower_words}
use Rattle.meaning.specs.Meaning.{World, ValueEq, All, TabHolds, AtomHolds}
use Rattle.meaning.specs.Demand3.{join, BindingHolds, Meets, FreshOf, binding_terms, Faithful, Demand3, Stable, ValueEqWorded, Demand3Worded}
use Rattle.meaning.proofs.Lists.{all_append, all_map}
use Rattle.meaning.proofs.Results.{bind_ok, ok_inj}
use Rattle.meaning.proofs.Reading.{Formed, FormedAll, FormedFact, FormedAction, FormedRule, leaf_plain, written_formed}
use Rattle.meaning.proofs.SignatureLaws.{SoundSignature, signature_sound}
use Rattle.meaning.proofs.Query.{Plain, Plains, PlainFact}
use Rattle.meaning.proofs.CoreActions.{PlainAction}
use Rattle.meaning.proofs.Settling.{Bound, SettledHolds}
use Rattle.meaning.proofs.CoreRule.{PlainRule, Keeps, core_rule_keeps}
use Rattle.meaning.proofs.Encoded.{placed, tab_at, FitTab, FitAction, reads_back}
use Rattle.meaning.proofs.Fits.{FitAtom, query_fits, actions_fit, settle_fits, bindings_fit}
use Rattle.meaning.proofs.ResultBounds.{Lowered, lower_inverse, lowered_counts}
use Rattle.meaning.proofs.WordLaws.{length_bindings}
use Rattle.meaning.proofs.SettledTerms.{Ends, settled_fresh}
use Rattle.meaning.proofs.Terms.{AllTerms, AllTabTerms}

-- ---- no fresh variable is written

module _ (s : Sig) (n : ℕ) where
  mutual
    plain : (e : Expr) → Formed s n e → Plain e
    plain (leaf p w) h = leaf_plain w h
    plain (call p g es) h = plains es h.args

    plains : (es : Exprs) → FormedAll s n es → Plains es
    plains end h = tt
    plains (e then es) h = (plain e h.0, plains es h.1)

  plain_fact : (f : Fact) → FormedFact s n f → PlainFact f
  plain_fact (holds e) h = plain e h
  plain_fact (equal p a b) h = (plain a h.0, plain b h.1)

  plain_action : (a : Action) → FormedAction s n a → PlainAction a
  plain_action (let' p x e) h = plain e h.1
  plain_action (set' p g es e) h = (plains es h.0.args, plain e h.1)
  plain_action (delete' p g es) h = plains es h.args
  plain_action (subsume' p g es) h = plains es h.args
  plain_action (union' a b) h = (plain a h.0, plain b h.1)
  plain_action (panic' l) h = tt
  plain_action (expr' e) h = plain e h

  plain_rule : (r : Rule) → FormedRule s n r → PlainRule r
  plain_rule r h =
      record {
        facts = all_map (FormedFact s n) PlainFact plain_fact r.facts h.facts;
        actions = all_map (FormedAction s n) PlainAction plain_action r.actions h.actions;
      }

-- ---- the lowered rule, as it is read back, is met just where its parts are

module _ {D : Type 0} (s : Sig) (W : World D) (σ : ℕ → D) where
  placed_hold : (p : ℕ) (ts : List Tab) → All (AtomHolds s W σ) (placed tab_words tab_at p ts) ≡ All (TabHolds s W σ) ts
  placed_hold p [] = refl
  placed_hold p (t ∷ ts) = ap (λ (X : Type 0). TabHolds s W σ t × X) (placed_hold (p + length (tab_words t)) ts)

  bindings_hold : (rs : List Replacement) → All (BindingHolds s W σ) (bindings rs) ≡ All (Bound s W σ) rs
  bindings_hold [] = refl
  bindings_hold (r ∷ rs) = ap (λ (X : Type 0). Bound s W σ r × X) (bindings_hold rs)

  meets_is : (b : Settled) (head : List CoreAction)
      → Meets s W (record { atoms = placed tab_words tab_at 1 b.tabs; actions = bindings b.repls ++ head }) (length b.repls) σ ≡ SettledHolds s W σ b
  meets_is b head =
      ap₂ (λ (X Y : Type 0). X × Y) (placed_hold 1 b.tabs)
      (ap (All (BindingHolds s W σ)) (take_at (bindings b.repls) head (length b.repls) (length_bindings b.repls)) ∙ bindings_hold b.repls)

-- and its terms are those of its parts
module _ (P : ℕ → Type 0) where
  placed_terms : (p : ℕ) (ts : List Tab) → AllTerms P (placed tab_words tab_at p ts) ≡ AllTabTerms P ts
  placed_terms p [] = refl
  placed_terms p (t ∷ ts) = ap (λ (X : Type 0). All P (terms_of (tab t)) × X) (placed_terms (p + length (tab_words t)) ts)

  bindings_terms : (rs : List Replacement) → All (Ends P) rs → All (λ (b : CoreAction). All P (binding_terms b)) (bindings rs)
  bindings_terms [] h = tt
  bindings_terms (r ∷ rs) h = ((h.0.0, (h.0.1, tt)), bindings_terms rs h.1)

module _ {D : Type 0} (s : Sig) (W : World D) (r : Rule) (c : CoreRule) (k : Keeps s W r c) where
  abbrev settled_body : Settled
  settled_body = settle s c.body

  abbrev read_back : FlatRule
  read_back = record { atoms = placed tab_words tab_at 1 settled_body.tabs; actions = bindings settled_body.repls ++ c.head }

  parts_met : (σ : ℕ → D) → Meets s W read_back (length settled_body.repls) σ → SettledHolds s W σ settled_body
  parts_met σ h = transport (meets_is s W σ settled_body c.head) h

  pub faithful : Faithful s W r c.body read_back (length settled_body.repls)
  faithful =
      let own = settled_fresh s c.body in
      let first = take_at (bindings settled_body.repls) c.head (length settled_body.repls) (length_bindings settled_body.repls) in
      record {
        chosen = (
          transport⁻¹ (placed_terms (FreshOf s c.body) 1 settled_body.tabs) own.0,
          transport⁻¹ (ap (All (λ (b : CoreAction). All (FreshOf s c.body) (binding_terms b))) first) (bindings_terms (FreshOf s c.body) settled_body.repls own.1),
        );
        matches = λ ρ. (
          λ h. let t = (k.matches ρ).0 h in (t.0, transport⁻¹ (meets_is s W (join ρ t.0) settled_body c.head) t.1),
          λ h. (k.matches ρ).1 (h.0, parts_met (join ρ h.0) h.1),
        );
        unique = λ ρ φ ψ h j. k.unique ρ φ ψ (parts_met (join ρ φ) h) (parts_met (join ρ ψ) j);
        events = λ ρ φ h answers. k.events ρ φ (parts_met (join ρ φ) h) answers;
      }

-- ---- the theorem

-- what a written rule is lowered to is well formed
pub record CoreFits (s : Sig) (r : Rule) (counters : List ℕ) (c : CoreRule) : Type 0 where
  pub query : Query
  pub flattens : to_query r.facts counters ≡ ok query
  pub same : c.body ≡ query.atoms
  pub atoms : All (FitAtom s) c.body
  pub acts : All (FitAction s) c.head

core_fits : (s : Sig) (rule counters : List ℕ) → length rule ≤ max_written → (r : Rule) → read_written s rule ≡ ok r → (c : CoreRule) → to_core_rule s r counters ≡ ok c
    → CoreFits s r counters c
core_fits s rule counters short r read c e =
    let formed = written_formed s rule r read in
    let small : suc (length rule) < limit16 = omega arith in
    let q = bind_ok (to_query r.facts counters) _ c e in
    let bound = body_vars s q.0.atoms in
    let d = bind_ok (to_core_actions s bound r.actions q.0.next) _ c q.2 in
    subst (λ (x : CoreRule). CoreFits s r counters x) (ok_inj _ _ d.2)
    (record {
      query = q.0;
      flattens = q.1;
      same = refl;
      atoms = query_fits s (length rule) small r.facts formed.facts counters q.0 q.1;
      acts = actions_fit s (length rule) small r.actions formed.actions bound q.0.next d.0 d.1;
    })

-- an accepted result: the words of a settled body and a head that are well formed
pub record Accepted (signature rule counters : List ℕ) (o : Result) : Type 0 where
  pub from : Lowered signature rule counters o
  pub fits : CoreFits from.sig from.tree counters from.core
  pub sound : SoundSignature from.sig
  pub tabs : All (FitTab from.sig) (settle from.sig from.core.body).tabs
  pub acts : All (FitAction from.sig) (bindings (settle from.sig from.core.body).repls ++ from.core.head)
  pub few : length (settle from.sig from.core.body).tabs < limit12
  pub some : length (bindings (settle from.sig from.core.body).repls ++ from.core.head) < limit12

pub accepted : (signature rule counters : List ℕ) (room scratch : ℕ) (o : Result) → lower_words signature rule counters room scratch ≡ ok o → Accepted signature rule counters o
accepted signature rule counters room scratch o e =
    let w = lower_inverse signature rule counters room scratch o e in
    let c = w.core in
    let b = settle w.sig c.body in
    let f = core_fits w.sig rule counters w.short w.tree w.read c w.lowers in
    let counts = lowered_counts w.sig rule counters w.tree c w.read w.lowers w.short in
    let sound = signature_sound signature w.sig w.reads in
    let fit = settle_fits w.sig sound.value_eq_known c.body f.atoms in
    record {
      from = w;
      fits = f;
      sound = sound;
      tabs = fit.tabs;
      acts = all_append (FitAction w.sig) (bindings b.repls) c.head (bindings_fit w.sig b.repls fit.repls) f.acts;
      few = counts.0;
      some = counts.1;
    }

pub demand3 : Demand3
demand3 signature rule counters room scratch o e =
    let a = accepted signature rule counters room scratch o e in
    let w = a.from in
    let s = w.sig in
    let c = w.core in
    let b = settle s c.body in
    let flat : FlatRule = record { atoms = placed tab_words tab_at 1 b.tabs; actions = bindings b.repls ++ c.head } in
    let back : read_flat s (encode b.tabs (bindings b.repls ++ c.head)) ≡ ok flat = reads_back s b.tabs (bindings b.repls ++ c.head) a.tabs a.acts a.few a.some in (
      record {
        sig = s;
        written = w.tree;
        query = a.fits.query;
        lowered = flat;
        reads_signature = w.reads;
        reads_written = w.read;
        flattens = a.fits.flattens;
        reads_lowered = subst (λ (x : Result). read_flat s x.words ≡ ok flat) w.gives back;
      },
      λ D W eqs.
          subst (λ (xs : List Atom). Faithful s W w.tree xs flat o.replacements) a.fits.same
          (subst (λ (n : ℕ). Faithful s W w.tree c.body flat n) (ap (λ (x : Result). x.replacements) w.gives)
          (faithful s W w.tree c
          (core_rule_keeps s W eqs w.tree (plain_rule s (length rule) w.tree (written_formed s rule w.tree w.read)) counters c w.lowers))),
    )

-- ---- 01's own words for value-eq say as much, wherever an equality that cannot be denied holds

worded : {D : Type 0} (s : Sig) (W : World D) → Stable D → ValueEqWorded D s W → ValueEq D s W
worded s W stable eqs =
    record {
      same = eqs.same;
      only = λ a b v h. stable a b (λ d. none-ne-some v (sym (eqs.differ a b d) ∙ h));
    }

pub demand3_worded : Demand3Worded
demand3_worded signature rule counters room scratch o e =
    let d = demand3 signature rule counters room scratch o e in
    (d.0, λ D W h. d.1 D W (worded d.0.sig W h.0 h.1))
