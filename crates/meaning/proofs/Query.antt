-- Flattening keeps the meaning of facts: a flat body has exactly one choice of its fresh variables where the facts are met,
-- and none where they are not.
-- Assumes nothing.
use Prim.Native.Nat.{ℕ}
use native.Mathlib.Nat.{le_refl, le_trans}
use mathlib.Core.Path.{◌≡◌, refl, sym, ◌∙◌, ap, ap₂, subst, transport}
use mathlib.Core.Bool.{Bool, false, cond}
use mathlib.Core.List.{List, [], ◌∷◌, ◌++◌, map, head-eq_of_cons-eq, tail-eq_of_cons-eq}
use mathlib.Core.Option.{Option, none, some, some-injective, none-ne-some}
use borrow.Author.Tests.{eq-eqb, ne_eqb}
use Rattle.rules.specs.Signature.{Sig, is_var, is_fresh}
use Rattle.rules.specs.Words.{fresh_word}
use Rattle.rules.specs.Written.{Expr, Exprs, leaf, call, end, ◌then◌, Fact, holds, equal}
use Rattle.rules.specs.Flat.{Atom, eqn, tab}
use Rattle.rules.specs.Refusals.{ok}
use Rattle.rules.specs.ToQuery.{count, Fresh, fresh, Flat, Flats, flatten, flatten_all, Query, flatten_fact, to_query, terms_of}
use Rattle.meaning.specs.Meaning.{World, All, upd, and_then, val, eval, eval_all, FactHolds, AtomHolds}
use Rattle.meaning.proofs.Lists.{all_append, all_left, all_right}
use Rattle.meaning.proofs.Terms.{AllTerms, all_terms_map}
use Rattle.meaning.proofs.Results.{bind_ok, ok_inj}
use Rattle.meaning.proofs.Fresh.{Before, Grows, Took, took, before_later, plain_before, fresh_var}

pub then_some : {A B : Type 0} (m : Option A) (k : A → Option B) (b : B) → and_then m k ≡ some b → (a : A) × (m ≡ some a) × (k a ≡ some b)
then_some (some a) k b e = (a, refl, e)
then_some none k b e = absurd (none-ne-some b e)

-- ---- what a choice of values reads

-- every leaf of a written expression is a name or a literal
abbrev mutual
  pub Plain : Expr → Type 0
  Plain (leaf p w) = is_fresh w ≡ false
  Plain (call p h es) = Plains es

  pub Plains : Exprs → Type 0
  Plains end = Unit {0}
  Plains (e then es) = Plain e × Plains es

abbrev pub PlainFact : Fact → Type 0
PlainFact (holds e) = Plain e
PlainFact (equal p a b) = Plain a × Plain b

-- two choices of values agree on names, or on all that was made before the counters cs
abbrev pub AgreePlain : {D : Type 0} → (ℕ → D) → (ℕ → D) → Type 0
AgreePlain σ τ = (w : ℕ) → is_fresh w ≡ false → σ w ≡ τ w

abbrev pub AgreeBefore : {D : Type 0} → List ℕ → (ℕ → D) → (ℕ → D) → Type 0
AgreeBefore cs σ τ = (w : ℕ) → Before cs w → σ w ≡ τ w

module _ {D : Type 0} where
  pub before_plain : (cs : List ℕ) (σ τ : ℕ → D) → AgreeBefore cs σ τ → AgreePlain σ τ
  before_plain cs σ τ a w e = a w (plain_before w e cs)

  pub upd_same : (σ : ℕ → D) (x : ℕ) (v : D) → upd σ x v x ≡ v
  upd_same σ x v = ap (λ (b : Bool). cond b v (σ x)) (eq-eqb x x refl)

  pub upd_other : (σ : ℕ → D) (x : ℕ) (v : D) (w : ℕ) → (w ≡ x → ⊥) → upd σ x v w ≡ σ w
  upd_other σ x v w n = ap (λ (b : Bool). cond b v (σ w)) (ne_eqb w x n)

module _ {D : Type 0} (s : Sig) (W : World D) where
  pub val_agree : (σ τ : ℕ → D) (w : ℕ) → σ w ≡ τ w → val s W σ w ≡ val s W τ w
  val_agree σ τ w e = ap (λ (v : D). cond (is_var s w) v (W.fixed w)) e

  mutual
    eval_agree : (σ τ : ℕ → D) → AgreePlain σ τ → (e : Expr) → Plain e → eval s W σ e ≡ eval s W τ e
    eval_agree σ τ a (leaf p w) h = ap (λ (v : D). some v) (val_agree σ τ w (a w h))
    eval_agree σ τ a (call p h es) k = ap (λ (o : Option (List D)). and_then o (λ vs. W.table h vs)) (evals_agree σ τ a es k)

    evals_agree : (σ τ : ℕ → D) → AgreePlain σ τ → (es : Exprs) → Plains es → eval_all s W σ es ≡ eval_all s W τ es
    evals_agree σ τ a end h = refl
    evals_agree σ τ a (e then es) h =
        ap₂ (λ (o : Option D) (q : Option (List D)). and_then o (λ v. and_then q (λ vs. some (v ∷ vs)))) (eval_agree σ τ a e h.0) (evals_agree σ τ a es h.1)

  abbrev pub Same : (ℕ → D) → (ℕ → D) → ℕ → Type 0
  Same σ τ w = val s W σ w ≡ val s W τ w

  all_same : (σ τ : ℕ → D) (ts : List ℕ) → map (val s W σ) ts ≡ map (val s W τ) ts → All (Same σ τ) ts
  all_same σ τ [] e = tt
  all_same σ τ (t ∷ ts) e = (head-eq_of_cons-eq e, all_same σ τ ts (tail-eq_of_cons-eq e))

  pub same_all : (σ τ : ℕ → D) (ts : List ℕ) → All (Same σ τ) ts → map (val s W σ) ts ≡ map (val s W τ) ts
  same_all σ τ [] h = refl
  same_all σ τ (t ∷ ts) h = ap₂ ◌∷◌ h.0 (same_all σ τ ts h.1)

  atom_agree : (σ τ : ℕ → D) (a : Atom) → All (Same σ τ) (terms_of a) → AtomHolds s W σ a ≡ AtomHolds s W τ a
  atom_agree σ τ (eqn p a b) h = ap₂ (λ (x y : D). x ≡ y) h.0 h.1.0
  atom_agree σ τ (tab t) h =
      ap₂ (λ (xs : List D) (y : D). W.table t.head xs ≡ some y)
      (same_all σ τ t.ins (all_left (Same σ τ) t.ins (t.out ∷ []) h)) (all_right (Same σ τ) t.ins (t.out ∷ []) h).0

  pub atoms_agree : (σ τ : ℕ → D) (xs : List Atom) → AllTerms (Same σ τ) xs → All (AtomHolds s W σ) xs ≡ All (AtomHolds s W τ) xs
  atoms_agree σ τ [] h = refl
  atoms_agree σ τ (x ∷ xs) h = ap₂ (λ (X Y : Type 0). X × Y) (atom_agree σ τ x h.0) (atoms_agree σ τ xs h.1)

  -- atoms made before the counters cs hold as well where only later fresh variables change
  still : (cs : List ℕ) (σ τ : ℕ → D) (xs : List Atom) → AllTerms (Before cs) xs → AgreeBefore cs σ τ → All (AtomHolds s W σ) xs → All (AtomHolds s W τ) xs
  still cs σ τ xs b a h = transport (atoms_agree σ τ xs (all_terms_map (Before cs) (Same σ τ) (λ w k. val_agree σ τ w (a w k)) xs b)) h

  pub val_fresh : (σ : ℕ → D) (h c x : ℕ) → x ≡ fresh_word h c → val s W σ x ≡ σ x
  val_fresh σ h c x e = ap (λ (b : Bool). cond b (σ x) (W.fixed x)) (fresh_var s h c x e)

  -- ---- what flattening an expression gives

  pub record Good (e : Expr) (cs : List ℕ) (r : Flat) : Type 0 where
    pub grows : Grows cs r.next
    pub term : Before r.next r.term
    pub words : AllTerms (Before r.next) r.atoms
    pub sound : (σ : ℕ → D) → All (AtomHolds s W σ) r.atoms → eval s W σ e ≡ some (val s W σ r.term)
    pub complete : (σ : ℕ → D) (v : D) → eval s W σ e ≡ some v → (τ : ℕ → D) × AgreeBefore cs σ τ × All (AtomHolds s W τ) r.atoms
    pub unique : (σ τ : ℕ → D) → AgreePlain σ τ → All (AtomHolds s W σ) r.atoms → All (AtomHolds s W τ) r.atoms → AllTerms (Same σ τ) r.atoms

  pub record Goods (es : Exprs) (cs : List ℕ) (r : Flats) : Type 0 where
    pub grows : Grows cs r.next
    pub terms : All (Before r.next) r.terms
    pub words : AllTerms (Before r.next) r.atoms
    pub sound : (σ : ℕ → D) → All (AtomHolds s W σ) r.atoms → eval_all s W σ es ≡ some (map (val s W σ) r.terms)
    pub complete : (σ : ℕ → D) (vs : List D) → eval_all s W σ es ≡ some vs → (τ : ℕ → D) × AgreeBefore cs σ τ × All (AtomHolds s W τ) r.atoms
    pub unique : (σ τ : ℕ → D) → AgreePlain σ τ → All (AtomHolds s W σ) r.atoms → All (AtomHolds s W τ) r.atoms → AllTerms (Same σ τ) r.atoms

  good_leaf : (p w : ℕ) (cs : List ℕ) → is_fresh w ≡ false → Good (leaf p w) cs (record { term = w; atoms = []; next = cs })
  good_leaf p w cs h =
      record {
        grows = λ g. le_refl _;
        term = plain_before w h cs;
        words = tt;
        sound = λ σ k. refl;
        complete = λ σ v k. (σ, λ x b. refl, tt);
        unique = λ σ τ a k l. tt;
      }

  module _ (p h : ℕ) (es : Exprs) (pl : Plains es) (cs : List ℕ) (f : Fresh) (k : Took h cs f) (r : Flats) (g : Goods es f.next r) where
    abbrev own : Atom
    own = tab (record { place = p; head = h; ins = r.terms; out = f.var })

    abbrev atoms_call : List Atom
    atoms_call = r.atoms ++ own ∷ []

    call_sound : (σ : ℕ → D) → All (AtomHolds s W σ) atoms_call → eval s W σ (call p h es) ≡ some (val s W σ f.var)
    call_sound σ H =
        ap (λ (o : Option (List D)). and_then o (λ vs. W.table h vs)) (g.sound σ (all_left (AtomHolds s W σ) r.atoms (own ∷ []) H))
        ∙ (all_right (AtomHolds s W σ) r.atoms (own ∷ []) H).0

    call_complete : (σ : ℕ → D) (v : D) → eval s W σ (call p h es) ≡ some v → (τ : ℕ → D) × AgreeBefore cs σ τ × All (AtomHolds s W τ) atoms_call
    call_complete σ v E =
        let q = then_some (eval_all s W σ es) (λ vs. W.table h vs) v E in
        let σ₀ = upd σ f.var v in
        let ap₀ : AgreePlain σ σ₀ = λ w n. sym (upd_other σ f.var v w (λ e. plain_before w n cs h (count cs h) (le_refl _) k.small (e ∙ k.is_it))) in
        let t = g.complete σ₀ q.0 (sym (evals_agree σ σ₀ ap₀ es pl) ∙ q.1) in
        let τ = t.0 in
        let ap₁ : AgreePlain σ τ = λ w n. ap₀ w n ∙ before_plain f.next σ₀ τ t.1 w n in
        let vs : map (val s W τ) r.terms ≡ q.0 = some-injective _ _ (sym (g.sound τ t.2) ∙ sym (evals_agree σ τ ap₁ es pl) ∙ q.1) in (
          τ,
          λ w b. sym (upd_other σ f.var v w (λ e. b h (count cs h) (le_refl _) k.small (e ∙ k.is_it))) ∙ t.1 w (before_later cs f.next k.grows w b),
          all_append (AtomHolds s W τ) r.atoms (own ∷ []) t.2
              (ap (λ (x : List D). W.table h x) vs ∙ q.2 ∙ ap (λ (x : D). some x) (sym (upd_same σ f.var v) ∙ t.1 f.var k.after ∙ sym (val_fresh τ h (count cs h) f.var k.is_it)), tt),
        )

    call_unique : (σ τ : ℕ → D) → AgreePlain σ τ → All (AtomHolds s W σ) atoms_call → All (AtomHolds s W τ) atoms_call → AllTerms (Same σ τ) atoms_call
    call_unique σ τ a H K =
        let H₀ = all_left (AtomHolds s W σ) r.atoms (own ∷ []) H in
        let K₀ = all_left (AtomHolds s W τ) r.atoms (own ∷ []) K in
        all_append (λ (x : Atom). All (Same σ τ) (terms_of x)) r.atoms (own ∷ []) (g.unique σ τ a H₀ K₀) (
          all_append (Same σ τ) r.terms (f.var ∷ [])
              (all_same σ τ r.terms (some-injective _ _ (sym (g.sound σ H₀) ∙ evals_agree σ τ a es pl ∙ g.sound τ K₀)))
              (some-injective _ _ (sym (call_sound σ H) ∙ eval_agree σ τ a (call p h es) pl ∙ call_sound τ K), tt),
          tt,
        )

    good_call : Good (call p h es) cs (record { term = f.var; atoms = atoms_call; next = r.next })
    good_call =
        let b = before_later f.next r.next g.grows f.var k.after in
        record {
          grows = λ x. le_trans (k.grows x) (g.grows x);
          term = b;
          words =
              all_append (λ (x : Atom). All (Before r.next) (terms_of x)) r.atoms (own ∷ []) g.words
              (all_append (Before r.next) r.terms (f.var ∷ []) g.terms (b, tt), tt);
          sound = call_sound;
          complete = call_complete;
          unique = call_unique;
        }

  goods_end : (cs : List ℕ) → Goods end cs (record { terms = []; atoms = []; next = cs })
  goods_end cs =
      record { grows = λ g. le_refl _; terms = tt; words = tt; sound = λ σ k. refl; complete = λ σ v k. (σ, λ x b. refl, tt); unique = λ σ τ a k l. tt }

  -- two parts in a row, the second from the counters that the first leaves
  module _ (cs : List ℕ) (xs ys : List Atom) (ds : List ℕ) (wx : AllTerms (Before ds) xs) where
    row_complete : (σ : ℕ → D)
        (t : (τ : ℕ → D) × AgreeBefore cs σ τ × All (AtomHolds s W τ) xs)
        → (u : (τ : ℕ → D) × AgreeBefore ds t.0 τ × All (AtomHolds s W τ) ys)
        → Grows cs ds
        → (τ : ℕ → D) × AgreeBefore cs σ τ × All (AtomHolds s W τ) (xs ++ ys)
    row_complete σ t u g = (
      u.0,
      λ w b. t.1 w b ∙ u.1 w (before_later cs ds g w b),
      all_append (AtomHolds s W u.0) xs ys (still ds t.0 u.0 xs wx u.1 t.2) u.2,
    )

  goods_then : (e : Expr) (es : Exprs) → Plain e → Plains es → (cs : List ℕ) (r : Flat) (q : Flats) → Good e cs r → Goods es r.next q
      → Goods (e then es) cs (record { terms = r.term ∷ q.terms; atoms = r.atoms ++ q.atoms; next = q.next })
  goods_then e es pe pl cs r q g k =
      record {
        grows = λ x. le_trans (g.grows x) (k.grows x);
        terms = (before_later r.next q.next k.grows r.term g.term, k.terms);
        words =
            all_append (λ (x : Atom). All (Before q.next) (terms_of x)) r.atoms q.atoms
            (all_terms_map (Before r.next) (Before q.next) (before_later r.next q.next k.grows) r.atoms g.words) k.words;
        sound = λ σ H.
            ap₂ (λ (o : Option D) (p : Option (List D)). and_then o (λ v. and_then p (λ vs. some (v ∷ vs))))
            (g.sound σ (all_left (AtomHolds s W σ) r.atoms q.atoms H)) (k.sound σ (all_right (AtomHolds s W σ) r.atoms q.atoms H));
        complete = complete;
        unique = λ σ τ a H K.
            all_append (λ (x : Atom). All (Same σ τ) (terms_of x)) r.atoms q.atoms
            (g.unique σ τ a (all_left (AtomHolds s W σ) r.atoms q.atoms H) (all_left (AtomHolds s W τ) r.atoms q.atoms K))
            (k.unique σ τ a (all_right (AtomHolds s W σ) r.atoms q.atoms H) (all_right (AtomHolds s W τ) r.atoms q.atoms K));
      }
    where
      complete : (σ : ℕ → D) (vs : List D) → eval_all s W σ (e then es) ≡ some vs → (τ : ℕ → D) × AgreeBefore cs σ τ × All (AtomHolds s W τ) (r.atoms ++ q.atoms)
      complete σ vs E =
          let a = then_some (eval s W σ e) (λ v. and_then (eval_all s W σ es) (λ us. some (v ∷ us))) vs E in
          let b = then_some (eval_all s W σ es) (λ us. some (a.0 ∷ us)) vs a.2 in
          let t = g.complete σ a.0 a.1 in
          row_complete cs r.atoms q.atoms r.next g.words σ t
          (k.complete t.0 b.0 (sym (evals_agree σ t.0 (before_plain cs σ t.0 t.1) es pl) ∙ b.1)) g.grows

  mutual
    pub good : (e : Expr) → Plain e → (cs : List ℕ) (r : Flat) → flatten e cs ≡ ok r → Good e cs r
    good (leaf p w) h cs r e = subst (λ (x : Flat). Good (leaf p w) cs x) (ok_inj _ _ e) (good_leaf p w cs h)
    good (call p h es) pl cs r e =
        let f = bind_ok (fresh p h cs) _ r e in
        let q = bind_ok (flatten_all es f.0.next) _ r f.2 in
        subst (λ (x : Flat). Good (call p h es) cs x) (ok_inj _ _ q.2)
        (good_call p h es pl cs f.0 (took p h cs f.0 f.1) q.0 (goods es pl f.0.next q.0 q.1))

    pub goods : (es : Exprs) → Plains es → (cs : List ℕ) (r : Flats) → flatten_all es cs ≡ ok r → Goods es cs r
    goods end h cs r e = subst (λ (x : Flats). Goods end cs x) (ok_inj _ _ e) (goods_end cs)
    goods (x then es) h cs r e =
        let a = bind_ok (flatten x cs) _ r e in
        let b = bind_ok (flatten_all es a.0.next) _ r a.2 in
        subst (λ (y : Flats). Goods (x then es) cs y) (ok_inj _ _ b.2)
        (goods_then x es h.0 h.1 cs a.0 b.0 (good x h.0 cs a.0 a.1) (goods es h.1 a.0.next b.0 b.1))

  -- ---- facts

  fact_agree : (σ τ : ℕ → D) → AgreePlain σ τ → (f : Fact) → PlainFact f → FactHolds s W σ f → FactHolds s W τ f
  fact_agree σ τ a (holds e) p h = (h.0, sym (eval_agree σ τ a e p) ∙ h.1)
  fact_agree σ τ a (equal q x y) p h = (h.0, sym (eval_agree σ τ a x p.0) ∙ h.1, sym (eval_agree σ τ a y p.1) ∙ h.2)

  pub facts_agree : (σ τ : ℕ → D) → AgreePlain σ τ → (fs : List Fact) → All PlainFact fs → All (FactHolds s W σ) fs → All (FactHolds s W τ) fs
  facts_agree σ τ a [] p h = tt
  facts_agree σ τ a (f ∷ fs) p h = (fact_agree σ τ a f p.0 h.0, facts_agree σ τ a fs p.1 h.1)

  -- what flattening facts gives, H being when they are met
  pub record GoodQ (H : (ℕ → D) → Type 0) (cs : List ℕ) (q : Query) : Type 0 where
    pub grows : Grows cs q.next
    pub words : AllTerms (Before q.next) q.atoms
    pub sound : (σ : ℕ → D) → All (AtomHolds s W σ) q.atoms → H σ
    pub complete : (σ : ℕ → D) → H σ → (τ : ℕ → D) × AgreeBefore cs σ τ × All (AtomHolds s W τ) q.atoms
    pub unique : (σ τ : ℕ → D) → AgreePlain σ τ → All (AtomHolds s W σ) q.atoms → All (AtomHolds s W τ) q.atoms → AllTerms (Same σ τ) q.atoms

  good_holds : (e : Expr) (cs : List ℕ) (r : Flat) → Good e cs r → GoodQ (λ σ. FactHolds s W σ (holds e)) cs (record { atoms = r.atoms; next = r.next })
  good_holds e cs r g =
      record {
        grows = g.grows;
        words = g.words;
        sound = λ σ H. (val s W σ r.term, g.sound σ H);
        complete = λ σ h. g.complete σ h.0 h.1;
        unique = g.unique;
      }

  module _ (p : ℕ) (a b : Expr) (pb : Plain b) (cs : List ℕ) (r q : Flat) (g : Good a cs r) (k : Good b r.next q) where
    abbrev eqn_own : Atom
    eqn_own = eqn p r.term q.term

    abbrev atoms_equal : List Atom
    atoms_equal = r.atoms ++ q.atoms ++ eqn_own ∷ []

    abbrev first : List Atom
    first = r.atoms ++ q.atoms

    equal_sound : (σ : ℕ → D) → All (AtomHolds s W σ) atoms_equal → FactHolds s W σ (equal p a b)
    equal_sound σ H =
        let K = all_left (AtomHolds s W σ) first (eqn_own ∷ []) H in (
          val s W σ r.term,
          g.sound σ (all_left (AtomHolds s W σ) r.atoms q.atoms K),
          k.sound σ (all_right (AtomHolds s W σ) r.atoms q.atoms K) ∙ ap (λ (v : D). some v) (sym (all_right (AtomHolds s W σ) first (eqn_own ∷ []) H).0),
        )

    -- after a choice that meets both sides' atoms, both terms have the value that the sides have
    equal_own : (σ τ : ℕ → D) → AgreePlain σ τ → Plain a → FactHolds s W σ (equal p a b) → All (AtomHolds s W τ) first → AtomHolds s W τ eqn_own
    equal_own σ τ ag pa h K =
        some-injective _ _
        (sym (g.sound τ (all_left (AtomHolds s W τ) r.atoms q.atoms K)) ∙ sym (eval_agree σ τ ag a pa) ∙ h.1 ∙ sym h.2 ∙ eval_agree σ τ ag b pb
        ∙ k.sound τ (all_right (AtomHolds s W τ) r.atoms q.atoms K))

    equal_complete : Plain a → (σ : ℕ → D) → FactHolds s W σ (equal p a b) → (τ : ℕ → D) × AgreeBefore cs σ τ × All (AtomHolds s W τ) atoms_equal
    equal_complete pa σ h =
        let t = g.complete σ h.0 h.1 in
        let u =
        row_complete cs r.atoms q.atoms r.next g.words σ t
        (k.complete t.0 h.0 (sym (eval_agree σ t.0 (before_plain cs σ t.0 t.1) b pb) ∙ h.2)) g.grows in
        (u.0, u.1, all_append (AtomHolds s W u.0) first (eqn_own ∷ []) u.2 (equal_own σ u.0 (before_plain cs σ u.0 u.1) pa h u.2, tt))

    equal_unique : Plain a → (σ τ : ℕ → D) → AgreePlain σ τ → All (AtomHolds s W σ) atoms_equal → All (AtomHolds s W τ) atoms_equal → AllTerms (Same σ τ) atoms_equal
    equal_unique pa σ τ ag H K =
        let H₀ = all_left (AtomHolds s W σ) first (eqn_own ∷ []) H in
        let K₀ = all_left (AtomHolds s W τ) first (eqn_own ∷ []) K in
        let H₁ = all_left (AtomHolds s W σ) r.atoms q.atoms H₀ in
        let K₁ = all_left (AtomHolds s W τ) r.atoms q.atoms K₀ in
        let H₂ = all_right (AtomHolds s W σ) r.atoms q.atoms H₀ in
        let K₂ = all_right (AtomHolds s W τ) r.atoms q.atoms K₀ in
        all_append (λ (x : Atom). All (Same σ τ) (terms_of x)) first (eqn_own ∷ [])
        (all_append (λ (x : Atom). All (Same σ τ) (terms_of x)) r.atoms q.atoms (g.unique σ τ ag H₁ K₁) (k.unique σ τ ag H₂ K₂)) (
          (
            some-injective _ _ (sym (g.sound σ H₁) ∙ eval_agree σ τ ag a pa ∙ g.sound τ K₁),
            (some-injective _ _ (sym (k.sound σ H₂) ∙ eval_agree σ τ ag b pb ∙ k.sound τ K₂), tt),
          ),
          tt,
        )

    good_equal : Plain a → GoodQ (λ σ. FactHolds s W σ (equal p a b)) cs (record { atoms = atoms_equal; next = q.next })
    good_equal pa =
        let tr = before_later r.next q.next k.grows in
        record {
          grows = λ x. le_trans (g.grows x) (k.grows x);
          words =
              all_append (λ (x : Atom). All (Before q.next) (terms_of x)) first (eqn_own ∷ [])
              (all_append (λ (x : Atom). All (Before q.next) (terms_of x)) r.atoms q.atoms (all_terms_map (Before r.next) (Before q.next) tr r.atoms g.words) k.words)
              ((tr r.term g.term, (k.term, tt)), tt);
          sound = equal_sound;
          complete = equal_complete pa;
          unique = equal_unique pa;
        }

  pub good_fact : (f : Fact) → PlainFact f → (cs : List ℕ) (q : Query) → flatten_fact f cs ≡ ok q → GoodQ (λ σ. FactHolds s W σ f) cs q
  good_fact (holds e) p cs q k =
      let a = bind_ok (flatten e cs) _ q k in
      subst (λ (x : Query). GoodQ (λ σ. FactHolds s W σ (holds e)) cs x) (ok_inj _ _ a.2) (good_holds e cs a.0 (good e p cs a.0 a.1))
  good_fact (equal o x y) p cs q k =
      let a = bind_ok (flatten x cs) _ q k in
      let b = bind_ok (flatten y a.0.next) _ q a.2 in
      subst (λ (z : Query). GoodQ (λ σ. FactHolds s W σ (equal o x y)) cs z) (ok_inj _ _ b.2)
      (good_equal o x y p.1 cs a.0 b.0 (good x p.0 cs a.0 a.1) (good y p.1 a.0.next b.0 b.1) p.0)

  good_row : (f : Fact) (fs : List Fact) → All PlainFact fs → (cs : List ℕ) (r q : Query)
      → GoodQ (λ σ. FactHolds s W σ f) cs r → GoodQ (λ σ. All (FactHolds s W σ) fs) r.next q
      → GoodQ (λ σ. All (FactHolds s W σ) (f ∷ fs)) cs (record { atoms = r.atoms ++ q.atoms; next = q.next })
  good_row f fs p cs r q g k =
      record {
        grows = λ x. le_trans (g.grows x) (k.grows x);
        words =
            all_append (λ (x : Atom). All (Before q.next) (terms_of x)) r.atoms q.atoms
            (all_terms_map (Before r.next) (Before q.next) (before_later r.next q.next k.grows) r.atoms g.words) k.words;
        sound = λ σ H. (g.sound σ (all_left (AtomHolds s W σ) r.atoms q.atoms H), k.sound σ (all_right (AtomHolds s W σ) r.atoms q.atoms H));
        complete = λ σ h.
            let t = g.complete σ h.0 in
            row_complete cs r.atoms q.atoms r.next g.words σ t
            (k.complete t.0 (facts_agree σ t.0 (before_plain cs σ t.0 t.1) fs p h.1)) g.grows;
        unique = λ σ τ a H K.
            all_append (λ (x : Atom). All (Same σ τ) (terms_of x)) r.atoms q.atoms
            (g.unique σ τ a (all_left (AtomHolds s W σ) r.atoms q.atoms H) (all_left (AtomHolds s W τ) r.atoms q.atoms K))
            (k.unique σ τ a (all_right (AtomHolds s W σ) r.atoms q.atoms H) (all_right (AtomHolds s W τ) r.atoms q.atoms K));
      }

  pub good_query : (fs : List Fact) → All PlainFact fs → (cs : List ℕ) (q : Query) → to_query fs cs ≡ ok q → GoodQ (λ σ. All (FactHolds s W σ) fs) cs q
  good_query [] p cs q k =
      subst (λ (x : Query). GoodQ (λ σ. Unit {0}) cs x) (ok_inj _ _ k)
      (record { grows = λ x. le_refl _; words = tt; sound = λ σ h. tt; complete = λ σ h. (σ, λ x b. refl, tt); unique = λ σ τ a h l. tt })
  good_query (f ∷ fs) p cs q k =
      let a = bind_ok (flatten_fact f cs) _ q k in
      let b = bind_ok (to_query fs a.0.next) _ q a.2 in
      subst (λ (x : Query). GoodQ (λ σ. All (FactHolds s W σ) (f ∷ fs)) cs x) (ok_inj _ _ b.2)
      (good_row f fs p.1 cs a.0 b.0 (good_fact f p.0 cs a.0 a.1) (good_query fs p.1 a.0.next b.0 b.1))
