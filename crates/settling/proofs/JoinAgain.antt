-- What the groups of a pass left, put in order: the atoms behind what was written, and all of it back where the atoms stood. Assumes nothing.
use mathlib.Core.List.{List, [], ◌++◌, map}
use mathlib.Core.Path.{◌∙◌, ◌≡◌, ap, refl, subst, sym}
use Prim.Native.Nat.{◌*◌, ◌+◌, ◌<◌, ◌^◌, ◌≤◌, ℕ}
use native.Mathlib.Omega.{arith}
use lib.ListN.{length}
use Rattle.octets.proofs.Places.{at_after, at_splice, only_splice, only_then, only_wide}
use Rattle.octets.specs.Regions.{At, Only, part, splice}
use Rattle.rules.specs.Canonicalize.{Replacement}
use Rattle.rules.specs.Flat.{Tab, tab, tab_words, words_of}
use Rattle.rules.specs.Signature.{Sig}
use Rattle.bodies.specs.Standing.{TabsAt, tabs_in}
use Rattle.bodies.proofs.Standing.{no_tab_left, tabs_before, tabs_join}
use Rattle.canonicalize.specs.declared.Canonical.{Canonical}
use Rattle.canonicalize.specs.Canonicalize.{CanonicalAt, binding_size, binding_words}
use Rattle.merging.specs.RemoveDupVars.{Group, GroupsAt, all_eqns}
use Rattle.settling.specs.declared.joining.Area.{Area}
use Rattle.settling.specs.Joining.{AgainAsks, JoinedAll, JoinedOf}
use Rattle.settling.proofs.Replaced.{tabs_moved}

-- ---- the groups are joined: t, with m left behind

pub record AllJoined (s : Sig) (l m : List ℕ) (at e : ℕ) (area : Area) (t : Canonical) : Type 0 where
  pub all : JoinedAll s l m at e area t
  pub clear : at ≤ area.to
  pub room : area.to + t.words + area.k ≤ area.body
  pub low : area.body + t.words + area.k ≤ t.binds
  pub top : t.binds ≤ length m
  pub fits : length m < 2 ^ 64

pub all_joined : {s : Sig} {l m : List ℕ} {at e : ℕ} {area : Area} {t : Canonical} → AgainAsks l at e area → length l < 2 ^ 64 → JoinedAll s l m at e area t
    → AllJoined s l m at e area t
all_joined c small z =
    let j = z.of c.groups c.stand in
    record {
      all = z;
      clear = omega (arith, c.clear);
      room = omega (arith, j.few, c.room_to);
      low = omega (arith, j.few, j.places, c.room);
      top = omega (arith, j.binds.within);
      fits = omega (arith, j.only.size);
    }

-- ---- what is written by a splice stands there

tabs_put : {ts : List Tab} {l m m₂ : List ℕ} {p q n : ℕ} → TabsAt ts l p n → m₂ ≡ splice m q (part l p n) → q + n ≤ length m
    → TabsAt ts m₂ q n × Only m m₂ q (q + n)
tabs_put {ts} {l} {m} {m₂} {p} {q} {n} z e h =
    let ws : part l p n ≡ words_of tab_words ts = ap (part l p) z.size ∙ z.at.words in
    let is : splice m q (words_of tab_words ts) ≡ m₂ = ap (splice m q) (sym ws) ∙ sym e in
    let put = at_splice m q (words_of tab_words ts) (omega (arith, z.size)) in
    let only = only_splice m q (words_of tab_words ts) (q + n) (omega (arith, z.size)) h in (
      tabs_moved z (subst (λ (x : List ℕ). At (words_of tab_words ts) x q) is put),
      subst (λ (x : List ℕ). Only m x q (q + n)) is only,
    )

module _ {s : Sig} {l m : List ℕ} {at e : ℕ} {area : Area} {t : Canonical} (a : AllJoined s l m at e area t) where
  -- what the contract says of an answer
  abbrev Answers : List ℕ → Canonical → Type 0
  Answers m' r = (gs : List Group) → GroupsAt gs l at e
      → CanonicalAt s (all_eqns gs ++ map tab (tabs_in l area.body area.k)) l m' at area.body area.d r

  -- the atoms us of n words and the bindings stand in m'
  answer : {m' : List ℕ} {n : ℕ} {gs : List Group} (j : JoinedOf s gs l m at area t) (us : List Tab) → j.written ++ j.ts ≡ us → TabsAt us m' area.body n
      → At (binding_words j.rs) m' t.binds → Only l m' at area.d
      → CanonicalAt s (all_eqns gs ++ map tab (tabs_in l area.body area.k)) l m' at area.body area.d (record { words = n; binds = t.binds })
  answer {m'} {n} j us is tabs binds only =
      record {
        tabs = subst (λ (us : List Tab). TabsAt us m' area.body n) (sym (j.all_tabs ∙ is)) tabs;
        binds = subst (λ (rs : List Replacement). At (binding_words rs) m' t.binds) (sym j.all_repls) binds;
        count = subst (λ (rs : List Replacement). t.binds + binding_size * length rs ≡ area.d) (sym j.all_repls) j.places;
        only = only;
      }

  -- nothing was written: the atoms stand as they are
  pub again_bare : t.words ≡ 0 → Answers m (record { words = area.k; binds = t.binds })
  again_bare v gs g =
      let j = a.all.of gs g in
      let none : j.written ≡ [] = no_tab_left j.written m area.to t.words j.tabs (omega arith) in
      answer j j.ts (ap (λ (us : List Tab). us ++ j.ts) none) j.atoms j.binds j.only

  -- else they are put behind what was written, and all of it is brought back
  pub again_moved : {m₂ m₃ : List ℕ} → m₂ ≡ splice m (area.to + t.words) (part m area.body area.k)
      → m₃ ≡ splice m₂ area.body (part m₂ area.to (t.words + area.k)) → Answers m₃ (record { words = t.words + area.k; binds = t.binds })
  again_moved {m₂} {m₃} e₂ e₃ gs g =
      let j = a.all.of gs g in
      let mid : ℕ = area.to + t.words in
      let put = tabs_put j.atoms e₂ (omega (arith, a)) in
      let both : TabsAt (j.written ++ j.ts) m₂ area.to (t.words + area.k) =
      tabs_join j.written j.ts m₂ area.to t.words mid area.k (tabs_before put.1 j.tabs (omega arith)) put.0 refl in
      let back = tabs_put both e₃ (omega (arith, put.1.size, a)) in
      let there : Only m m₂ at area.d = only_wide at area.d put.1 (omega (arith, a)) (omega (arith, a, j.places)) in
      let here : Only m₂ m₃ at area.d = only_wide at area.d back.1 (omega (arith, a)) (omega (arith, a, j.places)) in
      answer j (j.written ++ j.ts) refl back.0 (at_after back.1 (at_after put.1 j.binds (omega (arith, a))) (omega (arith, a)))
      (only_then j.only (only_then there here))
