-- Settling keeps the meaning of a body.
-- Assumes nothing.
use Prim.Native.Nat.{ℕ, zero, suc, ◌+◌}
use mathlib.Core.Path.{◌≡◌, refl, sym, ◌∙◌, ap, ap₂, subst, transport, transport⁻¹}
use mathlib.Core.Logic.Iff
use mathlib.Core.Logic.{◌↔◌}
use mathlib.Core.Bool.{Bool, true, false, cond, not, ◌&&◌, ◌||◌, false≢true}
use mathlib.Core.List.{List, [], ◌∷◌, ◌++◌, map}
use mathlib.Core.Option.{Option, none, some, some-injective, none-ne-some}
use lib.ListN.{length}
use lib.Dec.{eqb}
use borrow.Author.Tests.{eqb-true, lt-leb}
use native.Mathlib.Omega.{arith}
use Rattle.rules.specs.Signature.{Sig, is_var, same_term}
use Rattle.rules.specs.Words.{unit, name_base}
use Rattle.rules.specs.Flat.{Tab, Atom, eqn, tab, Let}
use Rattle.rules.specs.Canonicalize.{Replacement, replace_term, replace_atom, replacement_of, or_else, first_replacement, Body, replace_step, replace_up_to, resolve_eq, resolve, replace_all}
use Rattle.rules.specs.RemoveDupVars.{alike, seen, keep, clashes, merged, after_pass, remove_dup_vars, settle, Settled}
use Rattle.meaning.specs.Demand3.{BindingHolds}
use Rattle.meaning.proofs.Lists.{all_append, all_left, all_right}
use Rattle.meaning.proofs.SameTerms.{same_value, terms_values}
use Rattle.meaning.proofs.MergePass.{alike_head, alike_ins}
use Rattle.meaning.specs.Meaning.{World, ValueEq, All, val, TabHolds, AtomHolds}

-- a replacement holds when its variable and its term have one value, as the binding that says it does
abbrev pub Bound : {D : Type 0} → Sig → World D → (ℕ → D) → Replacement → Type 0
Bound s W σ r = BindingHolds s W σ (Let r.old r.new)

module _ {D : Type 0} (s : Sig) (W : World D) (σ : ℕ → D) where
  -- ---- (a) replacing a variable by a term of the same value

  repl_term : (r : Replacement) → Bound s W σ r → (t : ℕ) → val s W σ (replace_term r t) ≡ val s W σ t
  repl_term r h t = go (eqb t r.old) refl
    where
      go : (b : Bool) → eqb t r.old ≡ b → val s W σ (cond b r.new t) ≡ val s W σ t
      go true e = rw (eqb-true t r.old e) (sym h)
      go false e = refl

  repl_terms : (r : Replacement) → Bound s W σ r → (ts : List ℕ) → map (val s W σ) (map (replace_term r) ts) ≡ map (val s W σ) ts
  repl_terms r h [] = refl
  repl_terms r h (t ∷ ts) = ap₂ ◌∷◌ (repl_term r h t) (repl_terms r h ts)

  repl_atom : (r : Replacement) → Bound s W σ r → (a : Atom) → AtomHolds s W σ (replace_atom r a) ≡ AtomHolds s W σ a
  repl_atom r h (eqn p a b) = ap₂ (λ (x y : D). x ≡ y) (repl_term r h a) (repl_term r h b)
  repl_atom r h (tab t) =
      ap₂ (λ (xs : List D) (y : D). W.table t.head xs ≡ some y) (repl_terms r h t.ins) (repl_term r h t.out)

  pub repl_atoms : (r : Replacement) → Bound s W σ r → (xs : List Atom) → All (AtomHolds s W σ) (map (replace_atom r) xs) ≡ All (AtomHolds s W σ) xs
  repl_atoms r h [] = refl
  repl_atoms r h (x ∷ xs) = ap₂ (λ (X Y : Type 0). X × Y) (repl_atom r h x) (repl_atoms r h xs)

  -- ---- (b) replace_all

  -- the equality that asks for a replacement holds
  first_holds : (xs : List Atom) (r : Replacement) → first_replacement s xs ≡ some r → All (AtomHolds s W σ) xs → Bound s W σ r
  first_holds [] r e h = absurd (none-ne-some r e)
  first_holds (tab t ∷ xs) r e h = first_holds xs r e h.1
  first_holds (eqn p a b ∷ xs) r e h = go (same_term a b) (is_var s a) (is_var s b) (λ k. first_holds xs r k h.1) e
    where
      go : (same l m : Bool) → (first_replacement s xs ≡ some r → Bound s W σ r) → or_else (replacement_of same l m a b) (first_replacement s xs) ≡ some r → Bound s W σ r
      go true l m ih k = ih k
      go false true m ih k = subst (λ (q : Replacement). Bound s W σ q) (some-injective _ _ k) h.0
      go false false true ih k = subst (λ (q : Replacement). Bound s W σ q) (some-injective _ _ k) (sym h.0)
      go false false false ih k = ih k

  -- a body holds with its bindings
  abbrev pub BodyHolds : Body → Type 0
  BodyHolds b = All (AtomHolds s W σ) b.atoms × All (Bound s W σ) b.repls

  pub replace_all_lem : (n : ℕ) (xs : List Atom) (rs : List Replacement) → BodyHolds (record { atoms = xs; repls = rs }) ↔ BodyHolds (replace_up_to s n xs rs)
  replace_all_lem zero xs rs = Iff.rfl
  replace_all_lem (suc n) xs rs = go (first_replacement s xs) refl (λ ys qs. replace_all_lem n ys qs)
    where
      go : (o : Option Replacement) → first_replacement s xs ≡ o
          → ((ys : List Atom) (qs : List Replacement) → BodyHolds (record { atoms = ys; repls = qs }) ↔ BodyHolds (replace_up_to s n ys qs))
          → BodyHolds (record { atoms = xs; repls = rs }) ↔ BodyHolds (replace_step o xs rs (λ ys qs. replace_up_to s n ys qs))
      go none e ih = Iff.rfl
      go (some r) e ih = (
        λ h. let b = first_holds xs r e h.0 in (ih (map (replace_atom r) xs) (r ∷ rs)).0 (transport⁻¹ (repl_atoms r b xs) h.0, (b, h.1)),
        λ h. let k = (ih (map (replace_atom r) xs) (r ∷ rs)).1 h in (transport (repl_atoms r k.1.0 xs) k.0, k.1.1),
      )

  -- ---- (c) a merge after_pass

  -- alike atoms read one entry of one table
  alike_entry : (a b : Tab) → alike a b ≡ true
      → W.table a.head (map (val s W σ) a.ins) ≡ W.table b.head (map (val s W σ) b.ins)
  alike_entry a b e = ap₂ W.table (alike_head a b e) (terms_values s W σ a.ins b.ins (alike_ins a b e))

  clashes_hold : (a : Tab) (xs : List Tab) → TabHolds s W σ a → All (TabHolds s W σ) xs → All (AtomHolds s W σ) (clashes a xs)
  clashes_hold a [] h k = tt
  clashes_hold a (b ∷ xs) h k = go (alike a b) refl (same_term a.out b.out) (clashes_hold a xs h k.1)
    where
      go : (l : Bool) → alike a b ≡ l → (m : Bool) → All (AtomHolds s W σ) (clashes a xs)
          → All (AtomHolds s W σ) (cond (l && not m) (eqn 0 a.out b.out ∷ clashes a xs) (clashes a xs))
      go true e true ih = ih
      go true e false ih = (some-injective _ _ (sym h ∙ alike_entry a b e ∙ k.0), ih)
      go false e m ih = ih

  merge_to : (fs ts : List Tab) → All (TabHolds s W σ) ts → All (AtomHolds s W σ) (merged fs ts) × All (TabHolds s W σ) (keep fs ts)
  merge_to fs [] h = (tt, tt)
  merge_to fs (a ∷ xs) h = go (seen a fs) (merge_to fs xs h.1) (merge_to (a ∷ fs) xs h.1)
    where
      go : (b : Bool) → All (AtomHolds s W σ) (merged fs xs) × All (TabHolds s W σ) (keep fs xs)
          → All (AtomHolds s W σ) (merged (a ∷ fs) xs) × All (TabHolds s W σ) (keep (a ∷ fs) xs)
          → All (AtomHolds s W σ) (cond b (merged fs xs) (clashes a xs ++ merged (a ∷ fs) xs)) × All (TabHolds s W σ) (cond b (keep fs xs) (a ∷ keep (a ∷ fs) xs))
      go true old new = old
      go false old new = (all_append (AtomHolds s W σ) (clashes a xs) (merged (a ∷ fs) xs) (clashes_hold a xs h.0 h.1) new.0, (h.0, new.1))

  -- what is known of the first atoms of the groups met before: they hold, and so do their equalities with what comes
  abbrev Known : List Tab → Tab → Type 0
  Known xs f = TabHolds s W σ f × All (AtomHolds s W σ) (clashes f xs)

  known_later : (a : Tab) (xs fs : List Tab) → All (Known (a ∷ xs)) fs → All (Known xs) fs
  known_later a xs [] h = tt
  known_later a xs (f ∷ fs) h = ((h.0.0, go (alike f a && not (same_term f.out a.out)) h.0.1), known_later a xs fs h.1)
    where
      go : (b : Bool) → All (AtomHolds s W σ) (cond b (eqn 0 f.out a.out ∷ clashes f xs) (clashes f xs)) → All (AtomHolds s W σ) (clashes f xs)
      go true k = k.1
      go false k = k

  -- an atom of a group met before holds
  seen_holds : (a : Tab) (xs fs : List Tab) → seen a fs ≡ true → All (Known (a ∷ xs)) fs → TabHolds s W σ a
  seen_holds a xs [] e h = absurd (false≢true e)
  seen_holds a xs (f ∷ fs) e h = go (alike f a) refl (same_term f.out a.out) refl e h.0.1 (λ k. seen_holds a xs fs k h.1)
    where
      go : (l : Bool) → alike f a ≡ l → (m : Bool) → same_term f.out a.out ≡ m → (l || seen a fs) ≡ true
          → All (AtomHolds s W σ) (cond (l && not m) (eqn 0 f.out a.out ∷ clashes f xs) (clashes f xs))
          → (seen a fs ≡ true → TabHolds s W σ a) → TabHolds s W σ a
      go true el true em k c ih = sym (alike_entry f a el) ∙ h.0.0 ∙ ap (λ (v : D). some v) (same_value s W σ f.out a.out em)
      go true el false em k c ih = sym (alike_entry f a el) ∙ h.0.0 ∙ ap (λ (v : D). some v) c.0
      go false el m em k c ih = ih k

  merge_from : (fs ts : List Tab) → All (Known ts) fs → All (AtomHolds s W σ) (merged fs ts) → All (TabHolds s W σ) (keep fs ts) → All (TabHolds s W σ) ts
  merge_from fs [] g m k = tt
  merge_from fs (a ∷ xs) g m k =
      go (seen a fs) refl m k (λ m' k'. merge_from fs xs (known_later a xs fs g) m' k')
      (λ g' m' k'. merge_from (a ∷ fs) xs (g', known_later a xs fs g) m' k')
    where
      go : (b : Bool) → seen a fs ≡ b
          → All (AtomHolds s W σ) (cond b (merged fs xs) (clashes a xs ++ merged (a ∷ fs) xs))
          → All (TabHolds s W σ) (cond b (keep fs xs) (a ∷ keep (a ∷ fs) xs))
          → (All (AtomHolds s W σ) (merged fs xs) → All (TabHolds s W σ) (keep fs xs) → All (TabHolds s W σ) xs)
          → (Known xs a → All (AtomHolds s W σ) (merged (a ∷ fs) xs) → All (TabHolds s W σ) (keep (a ∷ fs) xs) → All (TabHolds s W σ) xs)
          → All (TabHolds s W σ) (a ∷ xs)
      go true e m' k' old new = (seen_holds a xs fs e g, old m' k')
      go false e m' k' old new =
          (k'.0, new (k'.0, all_left (AtomHolds s W σ) (clashes a xs) (merged (a ∷ fs) xs) m') (all_right (AtomHolds s W σ) (clashes a xs) (merged (a ∷ fs) xs) m') k'.1)

  pub merge_law : (ts : List Tab) → All (TabHolds s W σ) ts ↔ (All (AtomHolds s W σ) (merged [] ts) × All (TabHolds s W σ) (keep [] ts))
  merge_law ts = (merge_to [] ts, λ h. merge_from [] ts tt h.0 h.1)

  -- a settled body holds with its bindings
  abbrev pub SettledHolds : Settled → Type 0
  SettledHolds b = All (TabHolds s W σ) b.tabs × All (Bound s W σ) b.repls

  -- ---- equalities become value-eq, and passes

  val_unit : val s W σ unit ≡ W.fixed unit
  val_unit = ap (λ (b : Bool). cond b (σ unit) (W.fixed unit)) (lt-leb (name_base + s.globals) unit (omega arith))

  module _ (eqs : ValueEq D s W) where
    value_eq_lem : (p a b : ℕ) → (val s W σ a ≡ val s W σ b) ↔ TabHolds s W σ (record { place = p; head = s.value_eq; ins = a ∷ b ∷ []; out = unit })
    value_eq_lem p a b = (
      λ h. ap (λ (x : D). W.table s.value_eq (x ∷ val s W σ b ∷ [])) h ∙ eqs.same (val s W σ b) ∙ ap (λ (x : D). some x) (sym val_unit),
      λ h. eqs.only _ _ _ h,
    )

    close_law : (xs : List Atom) → All (AtomHolds s W σ) xs ↔ All (TabHolds s W σ) (resolve s xs)
    close_law [] = Iff.rfl
    close_law (tab t ∷ xs) = (λ h. (h.0, (close_law xs).0 h.1), λ h. (h.0, (close_law xs).1 h.1))
    close_law (eqn p a b ∷ xs) = go (same_term a b) refl (close_law xs)
      where
        go : (c : Bool) → same_term a b ≡ c → All (AtomHolds s W σ) xs ↔ All (TabHolds s W σ) (resolve s xs)
            → All (AtomHolds s W σ) (eqn p a b ∷ xs) ↔ All (TabHolds s W σ) (resolve_eq s c p a b (resolve s xs))
        go true e ih = (λ h. ih.0 h.1, λ h. (same_value s W σ a b e, ih.1 h))
        go false e ih = (λ h. ((value_eq_lem p a b).0 h.0, ih.0 h.1), λ h. ((value_eq_lem p a b).1 h.0, ih.1 h.1))

    canon_law : (xs : List Atom) (rs : List Replacement)
        → BodyHolds (record { atoms = xs; repls = rs })
        ↔ (All (TabHolds s W σ) (resolve s (replace_all s xs rs).atoms) × All (Bound s W σ) (replace_all s xs rs).repls)
    canon_law xs rs = (
      λ h. let k = (replace_all_lem (length xs) xs rs).0 h in ((close_law (replace_all s xs rs).atoms).0 k.0, k.1),
      λ h. (replace_all_lem (length xs) xs rs).1 ((close_law (replace_all s xs rs).atoms).1 h.0, h.1),
    )

    tabs_atoms : (ts : List Tab) → All (AtomHolds s W σ) (map tab ts) ≡ All (TabHolds s W σ) ts
    tabs_atoms [] = refl
    tabs_atoms (t ∷ ts) = ap (λ (X : Type 0). TabHolds s W σ t × X) (tabs_atoms ts)

    pub passes_law : (n : ℕ) (ts : List Tab) (rs : List Replacement) (k : ℕ) → (All (TabHolds s W σ) ts × All (Bound s W σ) rs) ↔ SettledHolds (remove_dup_vars s n ts rs k)
    passes_law zero ts rs k = Iff.rfl
    passes_law (suc n) ts rs k = go (merged [] ts) (merge_law ts) (λ us qs j. passes_law n us qs j)
      where
        go : (es : List Atom) → (All (TabHolds s W σ) ts ↔ (All (AtomHolds s W σ) es × All (TabHolds s W σ) (keep [] ts)))
            → ((us : List Tab) (qs : List Replacement) (j : ℕ) → (All (TabHolds s W σ) us × All (Bound s W σ) qs) ↔ SettledHolds (remove_dup_vars s n us qs j))
            → (All (TabHolds s W σ) ts × All (Bound s W σ) rs) ↔ SettledHolds (after_pass s es (keep [] ts) rs k (λ us qs j. remove_dup_vars s n us qs j))
        go [] m ih = (λ h. ((m.0 h.0).1, h.1), λ h. (m.1 (tt, h.0), h.1))
        go (x ∷ es) m ih =
            let ys = x ∷ es ++ map tab (keep [] ts) in
            let b = replace_all s ys rs in (
              λ h.
                  let k = m.0 h.0 in
                  (ih (resolve s b.atoms) b.repls _).0
                  ((canon_law ys rs).0 (all_append (AtomHolds s W σ) (x ∷ es) (map tab (keep [] ts)) k.0 (transport⁻¹ (tabs_atoms (keep [] ts)) k.1), h.1)),
              λ h.
                  let k = (canon_law ys rs).1 ((ih (resolve s b.atoms) b.repls _).1 h) in (
                    m.1 (
                      all_left (AtomHolds s W σ) (x ∷ es) (map tab (keep [] ts)) k.0,
                      transport (tabs_atoms (keep [] ts)) (all_right (AtomHolds s W σ) (x ∷ es) (map tab (keep [] ts)) k.0),
                    ),
                    k.1,
                  ),
            )

    -- a body holds exactly when its settled form and the bindings do
    pub settle_law : (xs : List Atom) → All (AtomHolds s W σ) xs ↔ SettledHolds (settle s xs)
    settle_law xs =
        let b = replace_all s xs [] in (
          λ h. (passes_law (suc (length xs)) (resolve s b.atoms) b.repls 0).0 ((canon_law xs []).0 (h, tt)),
          λ h. ((canon_law xs []).1 ((passes_law (suc (length xs)) (resolve s b.atoms) b.repls 0).1 h)).0,
        )
