-- What lowering and settling give is a well-formed flat rule: its heads are the signature's, its terms are terms.
-- Assumes nothing.
use Prim.Native.Nat.{ℕ, zero, suc, ◌+◌, ◌*◌, ◌<◌}
use native.Mathlib.Omega.{arith}
use mathlib.Core.Path.{◌≡◌, refl, sym, ◌∙◌, ap, subst}
use mathlib.Core.Bool.{Bool, true, false, not, ◌&&◌, ◌||◌, false≢true}
use mathlib.Core.List.{List, [], ◌∷◌, ◌++◌, map}
use mathlib.Core.Option.{Option, none, some, some-injective, none-ne-some}
use lib.ListN.{length, length-map}
use lib.Dec.{eqb, leb}
use borrow.Author.Tests.{lt-leb}
use Rattle.rules.specs.Words.{limit16, fresh_base, name_base, literal_base, fresh_word, unit, is_name_word, is_literal_word, is_fresh_word}
use Rattle.rules.specs.Refusals.{ok, unbound, already_defined}
use Rattle.rules.specs.Signature.{Sig, heads, is_var, is_fresh, same_term, elem}
use Rattle.rules.specs.Written.{Expr, Exprs, leaf, call, end, ◌then◌, Fact, holds, equal, Action, let', set', delete', subsume', union', panic', expr'}
use Rattle.rules.specs.Flat.{Tab, Atom, eqn, tab, CoreAction, Delete, Subsume, is_target}
use Rattle.rules.specs.ToQuery.{count, Fresh, fresh, Flat, Flats, flatten, flatten_all, Query, flatten_fact, to_query}
use Rattle.rules.specs.ToCoreActions.{readable, Low, Lows, lower_expr, lower_exprs, Done, lower_set, lower_change, AsSet, union_as_set, lower_union, lower_let, lower_action, to_core_actions}
use Rattle.rules.specs.Canonicalize.{Replacement, replace_term, replace_atom, replacement_of, or_else, first_replacement, Body, replace_step, replace_up_to, replace_all, resolve_eq, resolve, bindings}
use Rattle.rules.specs.RemoveDupVars.{alike, seen, keep, clashes, merged, Settled, after_pass, remove_dup_vars, settle}
use Rattle.meaning.specs.Meaning.{All}
use Rattle.meaning.proofs.Lists.{all_append, cond_both, or_left, or_right}
use Rattle.meaning.proofs.MergePass.{keep_all}
use Rattle.meaning.proofs.Results.{bind_ok, ok_inj, refuse_ok, demand_ok}
use Rattle.meaning.proofs.Fresh.{Took, took}
use Rattle.meaning.proofs.Reading.{within_high, LeafWord, many, FormedCall, Formed, FormedAll, FormedFact, FormedAction, as_set_formed}
use Rattle.meaning.proofs.Encoded.{within_is, TermWord, FitTerms, FitTab, FitAction}

-- ---- terms

module _ (s : Sig) where
  target_term : (w : ℕ) → is_target s w ≡ true → TermWord s w
  target_term w e = or_left (is_target s w) (is_literal_word w) e

  leaf_term : (w : ℕ) → LeafWord w → TermWord s w
  leaf_term w = go (is_fresh_word (heads s) w) (is_name_word w) (is_literal_word w)
    where
      go : (f n l : Bool) → (n || l) ≡ true → ((f || n) || l) ≡ true
      go true n l e = refl
      go false n l e = e

  name_target : (w : ℕ) → is_name_word w ≡ true → is_target s w ≡ true
  name_target w e = or_right (is_fresh_word (heads s) w) (is_name_word w) e

  fresh_target : (h c : ℕ) → h < heads s → c < limit16 → is_target s (fresh_word h c) ≡ true
  fresh_target h c l m =
      or_left (is_fresh_word (heads s) (fresh_word h c)) (is_name_word (fresh_word h c))
      (within_is fresh_base (heads s * limit16) (fresh_word h c) (omega arith) (omega arith))

  took_target : (h : ℕ) (cs : List ℕ) (f : Fresh) → h < heads s → Took h cs f → is_target s f.var ≡ true
  took_target h cs f l t = ap (is_target s) t.is_it ∙ fresh_target h (count cs h) l t.small

  -- a term that is a variable is a target
  var_target : (w : ℕ) → TermWord s w → is_var s w ≡ true → is_target s w ≡ true
  var_target w = go (is_target s w) (is_literal_word w) refl
    where
      go : (t l : Bool) → is_literal_word w ≡ l → (t || l) ≡ true → is_var s w ≡ true → t ≡ true
      go true l e k v = refl
      go false true e k v =
          let b = within_high literal_base limit16 w e in
          let f : is_fresh w ≡ false = lt-leb fresh_base w (omega arith) in
          let g : leb (name_base + s.globals) w ≡ false = lt-leb (name_base + s.globals) w (omega arith) in
          absurd (false≢true (sym g ∙ ap (λ (x : Bool). x || leb (name_base + s.globals) w) (sym f) ∙ v))
      go false false e k v = absurd (false≢true k)

  -- ---- atoms

  abbrev pub FitAtom : Atom → Type 0
  FitAtom (eqn p a b) = TermWord s a × TermWord s b
  FitAtom (tab t) = FitTab s t

  module _ (n : ℕ) (small : suc n < limit16) where
    fit_terms : (h : ℕ) (es : Exprs) (A : Type 0) (ts : List ℕ) → FormedCall s n h es A → length ts ≡ many es → All (TermWord s) ts → FitTerms s h ts
    fit_terms h es A ts f c t = record { head = f.head; few = let m = f.few in omega arith; terms = t }

    -- what flattening an expression gives
    pub record FitFlat (r : Flat) : Type 0 where
      pub term : TermWord s r.term
      pub atoms : All FitAtom r.atoms

    pub record FitFlats (m : ℕ) (r : Flats) : Type 0 where
      pub terms : All (TermWord s) r.terms
      pub count : length r.terms ≡ m
      pub atoms : All FitAtom r.atoms

    mutual
      flatten_fits : (e : Expr) → Formed s n e → (cs : List ℕ) (r : Flat) → flatten e cs ≡ ok r → FitFlat r
      flatten_fits (leaf p w) h cs r e = subst (λ (x : Flat). FitFlat x) (ok_inj _ _ e) (record { term = leaf_term w h; atoms = tt })
      flatten_fits (call p h es) g cs r e =
          let f = bind_ok (fresh p h cs) _ r e in
          let q = bind_ok (flatten_all es f.0.next) _ r f.2 in
          let v = target_term f.0.var (took_target h cs f.0 g.head (took p h cs f.0 f.1)) in
          let a = flattens_fit es g.args f.0.next q.0 q.1 in
          subst (λ (x : Flat). FitFlat x) (ok_inj _ _ q.2)
          (record { term = v; atoms = all_append FitAtom q.0.atoms _ a.atoms (record { ins = fit_terms h es _ q.0.terms g a.count a.terms; out = v }, tt) })

      flattens_fit : (es : Exprs) → FormedAll s n es → (cs : List ℕ) (r : Flats) → flatten_all es cs ≡ ok r → FitFlats (many es) r
      flattens_fit end h cs r e = subst (λ (x : Flats). FitFlats 0 x) (ok_inj _ _ e) (record { terms = tt; count = refl; atoms = tt })
      flattens_fit (x then es) h cs r e =
          let a = bind_ok (flatten x cs) _ r e in
          let b = bind_ok (flatten_all es a.0.next) _ r a.2 in
          let y = flatten_fits x h.0 cs a.0 a.1 in
          let z = flattens_fit es h.1 a.0.next b.0 b.1 in
          subst (λ (w : Flats). FitFlats (suc (many es)) w) (ok_inj _ _ b.2)
          (record { terms = (y.term, z.terms); count = ap suc z.count; atoms = all_append FitAtom a.0.atoms b.0.atoms y.atoms z.atoms })

    fact_fits : (f : Fact) → FormedFact s n f → (cs : List ℕ) (q : Query) → flatten_fact f cs ≡ ok q → All FitAtom q.atoms
    fact_fits (holds e) h cs q k =
        let a = bind_ok (flatten e cs) _ q k in
        subst (λ (x : Query). All FitAtom x.atoms) (ok_inj _ _ a.2) (flatten_fits e h cs a.0 a.1).atoms
    fact_fits (equal p x y) h cs q k =
        let a = bind_ok (flatten x cs) _ q k in
        let b = bind_ok (flatten y a.0.next) _ q a.2 in
        let u = flatten_fits x h.0 cs a.0 a.1 in
        let v = flatten_fits y h.1 a.0.next b.0 b.1 in
        subst (λ (z : Query). All FitAtom z.atoms) (ok_inj _ _ b.2)
        (all_append FitAtom (a.0.atoms ++ b.0.atoms) _ (all_append FitAtom a.0.atoms b.0.atoms u.atoms v.atoms) ((u.term, v.term), tt))

    pub query_fits : (fs : List Fact) → All (FormedFact s n) fs → (cs : List ℕ) (q : Query) → to_query fs cs ≡ ok q → All FitAtom q.atoms
    query_fits [] h cs q k = subst (λ (x : Query). All FitAtom x.atoms) (ok_inj _ _ k) tt
    query_fits (f ∷ fs) h cs q k =
        let a = bind_ok (flatten_fact f cs) _ q k in
        let b = bind_ok (to_query fs a.0.next) _ q a.2 in
        subst (λ (x : Query). All FitAtom x.atoms) (ok_inj _ _ b.2)
        (all_append FitAtom a.0.atoms b.0.atoms (fact_fits f h.0 cs a.0 a.1) (query_fits fs h.1 a.0.next b.0 b.1))

    -- ---- the head

    pub record FitLow (r : Low) : Type 0 where
      pub term : TermWord s r.term
      pub acts : All (FitAction s) r.acts

    pub record FitLows (m : ℕ) (r : Lows) : Type 0 where
      pub terms : All (TermWord s) r.terms
      pub count : length r.terms ≡ m
      pub acts : All (FitAction s) r.acts

    module _ (bound : List ℕ) where
      mutual
        lower_fits : (e : Expr) → Formed s n e → (cs : List ℕ) (r : Low) → lower_expr s bound e cs ≡ ok r → FitLow r
        lower_fits (leaf p w) h cs r e =
            subst (λ (x : Low). FitLow x) (demand_ok (readable s bound w) unbound p _ r e).1 (record { term = leaf_term w h; acts = tt })
        lower_fits (call p h es) g cs r e =
            let q = bind_ok (lower_exprs s bound es cs) _ r e in
            let f = bind_ok (fresh p h q.0.next) _ r q.2 in
            let v = took_target h q.0.next f.0 g.head (took p h q.0.next f.0 f.1) in
            let a = lowers_fit es g.args cs q.0 q.1 in
            subst (λ (x : Low). FitLow x) (ok_inj _ _ f.2)
            (record {
              term = target_term f.0.var v;
              acts = all_append (FitAction s) q.0.acts _ a.acts ((v, fit_terms h es _ q.0.terms g a.count a.terms), tt);
            })

        lowers_fit : (es : Exprs) → FormedAll s n es → (cs : List ℕ) (r : Lows) → lower_exprs s bound es cs ≡ ok r → FitLows (many es) r
        lowers_fit end h cs r e = subst (λ (x : Lows). FitLows 0 x) (ok_inj _ _ e) (record { terms = tt; count = refl; acts = tt })
        lowers_fit (x then es) h cs r e =
            let a = bind_ok (lower_expr s bound x cs) _ r e in
            let b = bind_ok (lower_exprs s bound es a.0.next) _ r a.2 in
            let y = lower_fits x h.0 cs a.0 a.1 in
            let z = lowers_fit es h.1 a.0.next b.0 b.1 in
            subst (λ (w : Lows). FitLows (suc (many es)) w) (ok_inj _ _ b.2)
            (record { terms = (y.term, z.terms); count = ap suc z.count; acts = all_append (FitAction s) a.0.acts b.0.acts y.acts z.acts })

      set_fits : (p h : ℕ) (es : Exprs) (e : Expr) → FormedCall s n h es (FormedAll s n es) → Formed s n e → (cs : List ℕ) (d : Done)
          → lower_set s bound p h es e cs ≡ ok d → All (FitAction s) d.acts
      set_fits p h es e g ge cs d k =
          let r = bind_ok (lower_exprs s bound es cs) _ d k in
          let q = bind_ok (lower_expr s bound e r.0.next) _ d r.2 in
          let f = bind_ok (fresh p h q.0.next) _ d q.2 in
          let a = lowers_fit es g.args cs r.0 r.1 in
          let b = lower_fits e ge r.0.next q.0 q.1 in
          subst (λ (x : Done). All (FitAction s) x.acts) (ok_inj _ _ f.2)
          (all_append (FitAction s) (r.0.acts ++ q.0.acts) _ (all_append (FitAction s) r.0.acts q.0.acts a.acts b.acts)
          ((fit_terms h es _ r.0.terms g a.count a.terms, b.term), tt))

      change_fits : (change : ℕ → List ℕ → CoreAction) → ((h : ℕ) (ts : List ℕ) → FitTerms s h ts → FitAction s (change h ts))
          → (p h : ℕ) (es : Exprs) → FormedCall s n h es (FormedAll s n es) → (cs : List ℕ) (d : Done)
          → lower_change s bound change p h es cs ≡ ok d → All (FitAction s) d.acts
      change_fits change ok-change p h es g cs d k =
          let r = bind_ok (lower_exprs s bound es cs) _ d k in
          let f = bind_ok (fresh p h r.0.next) _ d r.2 in
          let a = lowers_fit es g.args cs r.0 r.1 in
          subst (λ (x : Done). All (FitAction s) x.acts) (ok_inj _ _ f.2)
          (all_append (FitAction s) r.0.acts _ a.acts (ok-change h r.0.terms (fit_terms h es _ r.0.terms g a.count a.terms), tt))

      union_fits : (a b : Expr) → Formed s n a → Formed s n b → (o : Option AsSet) → union_as_set s a b ≡ o → (cs : List ℕ) (d : Done)
          → lower_union s bound o a b cs ≡ ok d → All (FitAction s) d.acts
      union_fits a b fa fb (some u) e cs d k =
          let f = as_set_formed s n a b fa fb u e in
          set_fits u.place u.head u.args u.value f.0 f.1 cs d k
      union_fits a b fa fb none e cs d k =
          let r = bind_ok (lower_expr s bound a cs) _ d k in
          let q = bind_ok (lower_expr s bound b r.0.next) _ d r.2 in
          let x = lower_fits a fa cs r.0 r.1 in
          let y = lower_fits b fb r.0.next q.0 q.1 in
          subst (λ (z : Done). All (FitAction s) z.acts) (ok_inj _ _ q.2)
          (all_append (FitAction s) (r.0.acts ++ q.0.acts) _ (all_append (FitAction s) r.0.acts q.0.acts x.acts y.acts) ((x.term, y.term), tt))

      let_fits : (b : Bool) (p x : ℕ) (e : Expr) → is_name_word x ≡ true → Formed s n e → (cs : List ℕ) (d : Done)
          → lower_let b s bound p x e cs ≡ ok d → All (FitAction s) d.acts
      let_fits true p x e h f cs d k = absurd (refuse_ok already_defined p d k)
      let_fits false p x e h f cs d k =
          let r = bind_ok (lower_expr s bound e cs) _ d k in
          let a = lower_fits e f cs r.0 r.1 in
          subst (λ (z : Done). All (FitAction s) z.acts) (ok_inj _ _ r.2)
          (all_append (FitAction s) r.0.acts _ a.acts ((name_target x h, a.term), tt))

      action_fits : (a : Action) → FormedAction s n a → (cs : List ℕ) (d : Done) → lower_action s bound a cs ≡ ok d → All (FitAction s) d.acts
      action_fits (let' p x e) h cs d k = let_fits (elem x bound) p x e h.0 h.1 cs d k
      action_fits (set' p g es e) h cs d k = set_fits p g es e h.0 h.1 cs d k
      action_fits (delete' p g es) h cs d k = change_fits Delete (λ g ts f. f) p g es h cs d k
      action_fits (subsume' p g es) h cs d k = change_fits Subsume (λ g ts f. f) p g es h cs d k
      action_fits (union' a b) h cs d k = union_fits a b h.0 h.1 (union_as_set s a b) refl cs d k
      action_fits (panic' l) h cs d k = subst (λ (x : Done). All (FitAction s) x.acts) (ok_inj _ _ k) (h, tt)
      action_fits (expr' e) h cs d k =
          let r = bind_ok (lower_expr s bound e cs) _ d k in
          subst (λ (x : Done). All (FitAction s) x.acts) (ok_inj _ _ r.2) (lower_fits e h cs r.0 r.1).acts

    pub actions_fit : (xs : List Action) → All (FormedAction s n) xs → (bound cs : List ℕ) (d : Done) → to_core_actions s bound xs cs ≡ ok d → All (FitAction s) d.acts
    actions_fit [] h bound cs d k = subst (λ (x : Done). All (FitAction s) x.acts) (ok_inj _ _ k) tt
    actions_fit (a ∷ xs) h bound cs d k =
        let r = bind_ok (lower_action s bound a cs) _ d k in
        let q = bind_ok (to_core_actions s r.0.bound xs r.0.next) _ d r.2 in
        subst (λ (x : Done). All (FitAction s) x.acts) (ok_inj _ _ q.2)
        (all_append (FitAction s) r.0.acts q.0.acts (action_fits bound a h.0 cs r.0 r.1) (actions_fit xs h.1 r.0.bound r.0.next q.0 q.1))

  -- ---- settling

  pub record FitReplacement (r : Replacement) : Type 0 where
    pub old : is_target s r.old ≡ true
    pub new : TermWord s r.new

  replace_term_fits : (r : Replacement) → TermWord s r.new → (t : ℕ) → TermWord s t → TermWord s (replace_term r t)
  replace_term_fits r f t h = cond_both (TermWord s) (eqb t r.old) r.new t f h

  replace_terms_fit : (r : Replacement) → TermWord s r.new → (ts : List ℕ) → All (TermWord s) ts → All (TermWord s) (map (replace_term r) ts)
  replace_terms_fit r f [] h = tt
  replace_terms_fit r f (t ∷ ts) h = (replace_term_fits r f t h.0, replace_terms_fit r f ts h.1)

  replace_atom_fits : (r : Replacement) → TermWord s r.new → (a : Atom) → FitAtom a → FitAtom (replace_atom r a)
  replace_atom_fits r f (eqn p a b) h = (replace_term_fits r f a h.0, replace_term_fits r f b h.1)
  replace_atom_fits r f (tab t) h =
      record {
        ins = record { head = h.ins.head; few = let m = h.ins.few in omega (arith, length-map t.ins (replace_term r)); terms = replace_terms_fit r f t.ins h.ins.terms };
        out = replace_term_fits r f t.out h.out;
      }

  replace_atoms_fit : (r : Replacement) → TermWord s r.new → (xs : List Atom) → All FitAtom xs → All FitAtom (map (replace_atom r) xs)
  replace_atoms_fit r f [] h = tt
  replace_atoms_fit r f (x ∷ xs) h = (replace_atom_fits r f x h.0, replace_atoms_fit r f xs h.1)

  first_fits : (xs : List Atom) → All FitAtom xs → (r : Replacement) → first_replacement s xs ≡ some r → FitReplacement r
  first_fits [] h r e = absurd (none-ne-some r e)
  first_fits (tab t ∷ xs) h r e = first_fits xs h.1 r e
  first_fits (eqn p a b ∷ xs) h r e = go (same_term a b) (is_var s a) refl (is_var s b) refl (λ k. first_fits xs h.1 r k) e
    where
      go : (same l : Bool) → is_var s a ≡ l → (m : Bool) → is_var s b ≡ m → (first_replacement s xs ≡ some r → FitReplacement r)
          → or_else (replacement_of same l m a b) (first_replacement s xs) ≡ some r → FitReplacement r
      go true l el m em ih k = ih k
      go false true el m em ih k =
          subst (λ (x : Replacement). FitReplacement x) (some-injective _ _ k) (record { old = var_target a h.0.0 el; new = h.0.1 })
      go false false el true em ih k =
          subst (λ (x : Replacement). FitReplacement x) (some-injective _ _ k) (record { old = var_target b h.0.1 em; new = h.0.0 })
      go false false el false em ih k = ih k

  pub record FitBody (b : Body) : Type 0 where
    pub atoms : All FitAtom b.atoms
    pub repls : All FitReplacement b.repls

  replace_fits : (n : ℕ) (xs : List Atom) (rs : List Replacement) → All FitAtom xs → All FitReplacement rs → FitBody (replace_up_to s n xs rs)
  replace_fits zero xs rs h g = record { atoms = h; repls = g }
  replace_fits (suc n) xs rs h g = go (first_replacement s xs) refl (λ ys qs. replace_fits n ys qs)
    where
      go : (o : Option Replacement) → first_replacement s xs ≡ o
          → ((ys : List Atom) (qs : List Replacement) → All FitAtom ys → All FitReplacement qs → FitBody (replace_up_to s n ys qs))
          → FitBody (replace_step o xs rs (λ ys qs. replace_up_to s n ys qs))
      go none e ih = record { atoms = h; repls = g }
      go (some r) e ih =
          let f = first_fits xs h r e in
          ih (map (replace_atom r) xs) (r ∷ rs) (replace_atoms_fit r f.new xs h) (f, g)

  unit_term : TermWord s unit
  unit_term = or_right (is_target s unit) (is_literal_word unit) refl

  module _ (known : s.value_eq < heads s) where
    resolve_fits : (xs : List Atom) → All FitAtom xs → All (FitTab s) (resolve s xs)
    resolve_fits [] h = tt
    resolve_fits (tab t ∷ xs) h = (h.0, resolve_fits xs h.1)
    resolve_fits (eqn p a b ∷ xs) h = go (same_term a b) (resolve_fits xs h.1)
      where
        go : (same : Bool) → All (FitTab s) (resolve s xs) → All (FitTab s) (resolve_eq s same p a b (resolve s xs))
        go true ih = ih
        go false ih = (record { ins = record { head = known; few = omega arith; terms = (h.0.0, (h.0.1, tt)) }; out = unit_term }, ih)

    clashes_fit : (a : Tab) (ts : List Tab) → FitTab s a → All (FitTab s) ts → All FitAtom (clashes a ts)
    clashes_fit a [] g h = tt
    clashes_fit a (b ∷ xs) g h =
        let rest = clashes_fit a xs g h.1 in
        cond_both (All FitAtom) (alike a b && not (same_term a.out b.out)) (eqn 0 a.out b.out ∷ clashes a xs) (clashes a xs) ((g.out, h.0.out), rest) rest

    merged_fit : (fs ts : List Tab) → All (FitTab s) ts → All FitAtom (merged fs ts)
    merged_fit fs [] h = tt
    merged_fit fs (a ∷ xs) h =
        cond_both (All FitAtom) (seen a fs) (merged fs xs) (clashes a xs ++ merged (a ∷ fs) xs) (merged_fit fs xs h.1)
        (all_append FitAtom (clashes a xs) (merged (a ∷ fs) xs) (clashes_fit a xs h.0 h.1) (merged_fit (a ∷ fs) xs h.1))

    tabs_fit : (ts : List Tab) → All (FitTab s) ts → All FitAtom (map tab ts)
    tabs_fit [] h = tt
    tabs_fit (t ∷ ts) h = (h.0, tabs_fit ts h.1)

    pub record FitSettled (b : Settled) : Type 0 where
      pub tabs : All (FitTab s) b.tabs
      pub repls : All FitReplacement b.repls

    passes_fit : (n : ℕ) (ts : List Tab) (rs : List Replacement) (k : ℕ) → All (FitTab s) ts → All FitReplacement rs → FitSettled (remove_dup_vars s n ts rs k)
    passes_fit zero ts rs k h g = record { tabs = h; repls = g }
    passes_fit (suc n) ts rs k h g = go (merged [] ts) (merged_fit [] ts h) (λ us qs j. passes_fit n us qs j)
      where
        go : (es : List Atom) → All FitAtom es
            → ((us : List Tab) (qs : List Replacement) (j : ℕ) → All (FitTab s) us → All FitReplacement qs → FitSettled (remove_dup_vars s n us qs j))
            → FitSettled (after_pass s es (keep [] ts) rs k (λ us qs j. remove_dup_vars s n us qs j))
        go [] m ih = record { tabs = keep_all (FitTab s) [] ts h; repls = g }
        go (e ∷ es) m ih =
            let xs : List Atom = e ∷ es ++ map tab (keep [] ts) in
            let f = replace_fits (length xs) xs rs (all_append FitAtom (e ∷ es) (map tab (keep [] ts)) m (tabs_fit (keep [] ts) (keep_all (FitTab s) [] ts h))) g in
            ih (resolve s (replace_all s xs rs).atoms) (replace_all s xs rs).repls (suc k) (resolve_fits (replace_all s xs rs).atoms f.atoms) f.repls

    pub settle_fits : (xs : List Atom) → All FitAtom xs → FitSettled (settle s xs)
    settle_fits xs h =
        let f = replace_fits (length xs) xs [] h tt in
        passes_fit (suc (length xs)) (resolve s (replace_all s xs []).atoms) (replace_all s xs []).repls 0 (resolve_fits (replace_all s xs []).atoms f.atoms) f.repls

  pub bindings_fit : (rs : List Replacement) → All FitReplacement rs → All (FitAction s) (bindings rs)
  bindings_fit [] h = tt
  bindings_fit (r ∷ rs) h = ((h.0.old, h.0.new), bindings_fit rs h.1)
