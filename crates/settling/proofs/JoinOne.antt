-- One equality, with groups behind it and the atoms apart: it asks for a replacement, which is made in both and bound, or what becomes of it is
-- written. Assumes nothing.
use mathlib.Core.Bool.{Bool, cond, false, true}
use mathlib.Core.List.{List, [], ◌∷◌, map}
use mathlib.Core.Option.{Option, none, some}
use mathlib.Core.Path.{◌∙◌, ◌≡◌, ap, ap₂, refl, subst, sym}
use Prim.Native.Nat.{◌+◌, ◌-◌, ◌<◌, ◌≤◌, ℕ}
use native.Mathlib.Omega.{arith}
use lib.Dec.{eqb}
use lib.ListN.{get_or, length, length-map, take}
use borrow.Author.Tests.{eq-eqb, eqb-false, ne_eqb}
use Rattle.octets.proofs.Places.{at_after, at_before, at_join, at_splice, only_splice, only_then, only_wide}
use Rattle.octets.proofs.Splice.{length_part, splice_itself}
use Rattle.octets.specs.Regions.{At, Only, elem, part, splice, swap}
use Rattle.rules.specs.Canonicalize.{Replacement, replace_term, resolve, resolve_eq}
use Rattle.rules.specs.Flat.{eqn, tab_words, words_of}
use Rattle.rules.specs.Signature.{Sig, same_term}
use Rattle.rules.specs.Words.{limit12}
use Rattle.meaning.proofs.Encodable.{resolve_encodable}
use Rattle.meaning.proofs.Lists.{or_neither}
use Rattle.meaning.proofs.Sweep.{asks}
use Rattle.bodies.specs.Standing.{TabsAt}
use Rattle.bodies.proofs.Standing.{bare_resolve}
use Rattle.canonicalize.specs.Canonicalize.{binding_size, binding_words, resolve_terms}
use Rattle.settling.specs.declared.joining.Area.{Area}
use Rattle.settling.specs.declared.joining.Joined.{Joined}
use Rattle.settling.specs.Joining.{JoinOneAsks, JoinStep, JoinedOne, join_ask, join_words}

-- ---- a word that is not there

-- where x is not among them, replacing it changes nothing
swap_none : (x y : ℕ) (ws : List ℕ) → elem x ws ≡ false → map (swap x y) ws ≡ ws
unfolding swap
swap_none x y [] h = refl
swap_none x y (w ∷ ws) h =
    let k = or_neither (eqb x w) (elem x ws) h in
    ap₂ (λ (c : Bool) (vs : List ℕ). cond c y w ∷ vs) (ne_eqb w x (λ e. eqb-false x w k.0 (sym e))) (swap_none x y ws k.1)

pub not_met : (l : List ℕ) (p n x y : ℕ) → p + n ≤ length l → elem x (part l p n) ≡ false → l ≡ splice l p (map (swap x y) (part l p n))
not_met l p n x y h e = sym (ap (splice l p) (swap_none x y (part l p n) e) ∙ splice_itself l p n h)

-- ---- what it asks for, and what its left term becomes

pub is_join_ask : (s : Sig) (a b : ℕ) → join_ask s a b ≡ asks s (eqn 0 a b)
unfolding join_ask
is_join_ask s a b = refl

pub renamed : (r : Replacement) (left new : ℕ) → r.old ≡ left → new ≡ r.new → new ≡ replace_term r left
renamed r left new e f = f ∙ ap (λ (c : Bool). cond c r.new left) (sym (eq-eqb left r.old (sym e)))

pub not_renamed : (r : Replacement) (left new : ℕ) → (r.old ≡ left → ⊥) → new ≡ left → new ≡ replace_term r left
not_renamed r left new e f = f ∙ ap (λ (c : Bool). cond c r.new left) (sym (ne_eqb left r.old (λ k. e (sym k))))

-- ---- its right term is read

pub record OneRead (s : Sig) (l : List ℕ) (left right p n : ℕ) (area : Area) : Type 0 where
  pub asks : JoinOneAsks s l left p n area
  pub is : right ≡ get_or l p 0

pub one_read : {s : Sig} {l : List ℕ} {left right p n : ℕ} {area : Area} → JoinOneAsks s l left p n area → right ≡ get_or l p 0
    → OneRead s l left right p n area
one_read asks is = record { asks = asks; is = is }

module _ {s : Sig} {l : List ℕ} {left right p n : ℕ} {area : Area} (o : OneRead s l left right p n area) where
  -- there is room for what becomes of it
  pub join_room : join_ask s left right ≡ none → area.to + length (resolve_terms (same_term left right) s left right) ≤ length l
  join_room e =
      let here : area.to + length (join_words (join_ask s left right) s left right) ≤ area.body =
      subst (λ (b : ℕ). area.to + length (join_words (join_ask s left b) s left b) ≤ area.body) (sym o.is) o.asks.room in
      let room = subst (λ (a : Option Replacement). area.to + length (join_words a s left right) ≤ area.body) e here in
      omega (arith, room, o.asks.binds, o.asks.top)

  -- what was asked for is done
  joined : {m : List ℕ} {r : Joined} {a : Option Replacement} → join_ask s left right ≡ a → JoinStep a s l m left right p n area r
      → JoinedOne s l m left p n area r
  joined {m} {r} e z =
      subst (λ (b : ℕ). JoinStep (join_ask s left b) s l m left b p n area r) o.is
      (subst (λ (a : Option Replacement). JoinStep a s l m left right p n area r) (sym e) z)

  pub joined_still : {m : List ℕ} {v : ℕ} → join_ask s left right ≡ none
      → (v ≡ length (resolve_terms (same_term left right) s left right)) × (m ≡ splice l area.to (resolve_terms (same_term left right) s left right))
      → JoinedOne s l m left p n area (record { left = left; words = v; binds = area.d })
  joined_still e z = joined e (record { stays = refl; size = z.0; place = refl; words = z.1 })

  -- the replacement is made in the groups, which leaves m₁, then in the atoms, which leaves m₂, and bound
  pub joined_asked : {m₁ m₂ m : List ℕ} {r : Replacement} {new : ℕ} → join_ask s left right ≡ some r
      → m₁ ≡ splice l (p + 1) (map (swap r.old r.new) (part l (p + 1) n))
      → m₂ ≡ splice m₁ area.body (map (swap r.old r.new) (part m₁ area.body area.k))
      → m ≡ splice m₂ (area.d - binding_size) (binding_words (r ∷ [])) → new ≡ replace_term r left
      → JoinedOne s l m left p n area (record { left = new; words = 0; binds = area.d - binding_size })
  unfolding swap
  joined_asked {m₁} {m₂} {m} {r} e e₁ e₂ em en =
      let fits : p + 1 + n ≤ length l = omega (arith, o.asks.here, o.asks.clear, o.asks.binds, o.asks.top) in
      let ws : List ℕ = map (replace_term r) (part l (p + 1) n) in
      let long : length ws ≡ n = length-map (part l (p + 1) n) (replace_term r) ∙ length_part l (p + 1) n fits in
      let changed : Only l (splice l (p + 1) ws) (p + 1) (p + 1 + n) = only_splice l (p + 1) ws (p + 1 + n) (omega arith) fits in
      let groups : Only l (splice l (p + 1) ws) (p + 1) area.body =
      only_wide (p + 1) area.body changed (omega arith) (omega (arith, o.asks.here, o.asks.clear)) in
      let same : part m₁ area.body area.k ≡ part l area.body area.k =
      ap (λ (x : List ℕ). part x area.body area.k) e₁ ∙ ap (take area.k) groups.after in
      let atoms = e₂ ∙ ap₂ (λ (x y : List ℕ). splice x area.body (map (replace_term r) y)) e₁ same in
      joined e (record { stays = en; size = refl; place = refl; words = em ∙ ap (λ (x : List ℕ). splice x (area.d - binding_size) (binding_words (r ∷ []))) atoms })

-- ---- the words after it

resolve_words : (s : Sig) (a b : ℕ) → resolve_terms (same_term a b) s a b ≡ words_of tab_words (resolve s (eqn 0 a b ∷ []))
resolve_words s a b = go (same_term a b)
  where
    go : (c : Bool) → resolve_terms c s a b ≡ words_of tab_words (resolve_eq s c 0 a b [])
    go true = refl
    go false = refl

pub join_short : (o : Option Replacement) (s : Sig) (a b : ℕ) → length (join_words o s a b) ≤ 4
join_short (some r) s a b = omega arith
join_short none s a b = go (same_term a b)
  where
    go : (c : Bool) → length (resolve_terms c s a b) ≤ 4
    go true = omega arith
    go false = omega arith

-- it stays: v words of it are written at `to`, and nothing else changes
pub record Stayed (s : Sig) (m m₂ : List ℕ) (a b to v : ℕ) : Type 0 where
  pub tabs : TabsAt (resolve s (eqn 0 a b ∷ [])) m₂ to v
  pub only : Only m m₂ to (to + v)
  pub short : v ≤ 4

pub stayed : {s : Sig} {m m₂ : List ℕ} {a b to v : ℕ} → s.value_eq < limit12 → v ≡ length (join_words none s a b) → m₂ ≡ splice m to (join_words none s a b)
    → to + 4 ≤ length m → Stayed s m m₂ a b to v
stayed {s} {m} {m₂} {a} {b} {to} {v} low size words room =
    let new : List ℕ = join_words none s a b in
    let short : length new ≤ 4 = join_short none s a b in
    let put : At new m₂ to = subst (λ (x : List ℕ). At new x to) (sym words) (at_splice m to new (omega arith)) in
    let tabs : TabsAt (resolve s (eqn 0 a b ∷ [])) m₂ to v =
    record {
      fits = resolve_encodable s low (eqn 0 a b ∷ []) (tt, tt);
      bare = bare_resolve s (eqn 0 a b ∷ []) (refl, tt);
      size = size ∙ ap length (resolve_words s a b);
      at = subst (λ (ws : List ℕ). At ws m₂ to) (resolve_words s a b) put;
      within = omega (arith, put.within);
    } in
    record {
      tabs = tabs;
      only = subst (λ (x : List ℕ). Only m x to (to + v)) (sym words) (only_splice m to new (to + v) (omega arith) (omega arith));
      short = omega arith;
    }

-- its replacement is made in the words of groups at q, now as', and in those of the atoms, now bs, and bound in front of the bindings at e
pub record Swapped (m m₂ as' bs : List ℕ) (q body e : ℕ) (r : Replacement) (rs : List Replacement) : Type 0 where
  pub behind : At as' m₂ q
  pub atoms : At bs m₂ body
  pub binds : At (binding_words (r ∷ rs)) m₂ (e - binding_size)
  pub only : Only m m₂ q e
  pub between : (ws : List ℕ) (x : ℕ) → At ws m x → q + length as' ≤ x → x + length ws ≤ body → At ws m₂ x

pub swapped : {m m₂ as' bs : List ℕ} {q body e : ℕ} (r : Replacement) (rs : List Replacement) → At (binding_words rs) m e
    → q + length as' ≤ body → body + length bs + binding_size ≤ e
    → m₂ ≡ splice (splice (splice m q as') body bs) (e - binding_size) (binding_words (r ∷ [])) → Swapped m m₂ as' bs q body e r rs
swapped {m} {m₂} {as'} {bs} {q} {body} {e} r rs z h k em =
    let bind : List ℕ = binding_words (r ∷ []) in
    let top : e ≤ length m = omega (arith, z.within) in
    let m₀ : List ℕ = splice m q as' in
    let m₁ : List ℕ = splice m₀ body bs in
    let o₀ : Only m m₀ q (q + length as') = only_splice m q as' (q + length as') refl (omega arith) in
    let o₁ : Only m₀ m₁ body (body + length bs) = only_splice m₀ body bs (body + length bs) refl (omega (arith, o₀.size)) in
    let o₂ : Only m₁ (splice m₁ (e - binding_size) bind) (e - binding_size) e = only_splice m₁ (e - binding_size) bind e (omega arith) (omega (arith, o₀.size, o₁.size)) in
    let a₀ : At as' m₀ q = at_splice m q as' (omega arith) in
    let b₀ : At bs m₁ body = at_splice m₀ body bs (omega (arith, o₀.size)) in
    let old : At (binding_words rs) (splice m₁ (e - binding_size) bind) e = at_after o₂ (at_after o₁ (at_after o₀ z (omega arith)) (omega arith)) (omega arith) in
    let new : At bind (splice m₁ (e - binding_size) bind) (e - binding_size) = at_splice m₁ (e - binding_size) bind (omega (arith, o₀.size, o₁.size)) in
    subst (λ (x : List ℕ). Swapped m x as' bs q body e r rs) (sym em)
    (record {
      behind = at_before o₂ (at_before o₁ a₀ h) (omega arith);
      atoms = at_before o₂ b₀ (omega arith);
      binds = at_join new old (omega arith);
      only = only_then (only_wide q e o₀ (omega arith) (omega arith))
          (only_then (only_wide q e o₁ (omega arith) (omega arith)) (only_wide q e o₂ (omega arith) (omega arith)));
      between = λ ws x u low high. let high₂ : x + length ws ≤ e - binding_size = omega arith in at_before o₂ (at_before o₁ (at_after o₀ u low) high) high₂;
    })
