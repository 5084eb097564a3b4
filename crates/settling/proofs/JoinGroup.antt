-- The equalities of a group, one by one: `Grouping` is what holds when some of them are passed. Assumes nothing.
use mathlib.Core.List.{List, [], ◌++◌, ◌∷◌, append_assoc, append-nil, map}
use mathlib.Core.Option.{Option, none, some}
use mathlib.Core.Path.{◌∙◌, ◌≡◌, ap, ap₂, refl, subst, sym}
use Prim.Native.Nat.{◌*◌, ◌+◌, ◌-◌, ◌<◌, ◌^◌, ◌≤◌, ℕ}
use native.Mathlib.Omega.{arith}
use lib.ListN.{get_or, length, length-append, length-map}
use Rattle.octets.proofs.Places.{at_after, at_before, at_first, at_join, at_nil, at_right, only_same, only_then, only_wide}
use Rattle.octets.proofs.Splice.{length_part}
use Rattle.octets.specs.Regions.{At, Only, part, splice}
use Rattle.rules.specs.Canonicalize.{Replacement, canonicalize, replace_term, resolve}
use Rattle.rules.specs.Flat.{Atom, Tab, eqn, tab_words, words_of}
use Rattle.rules.specs.Signature.{Sig}
use Rattle.rules.specs.Words.{limit12}
use Rattle.meaning.proofs.Passes.{canonicalize_repls}
use Rattle.meaning.proofs.Sweep.{asked_var}
use Rattle.meaning.proofs.Sweep.{asks}
use Rattle.bodies.specs.Standing.{TabsAt}
use Rattle.bodies.proofs.Standing.{no_tabs, tabs_before, tabs_join}
use Rattle.canonicalize.specs.Canonicalize.{binding_size, binding_words}
use Rattle.canonicalize.proofs.Fronts.{canonicalize_asked, canonicalize_still}
use Rattle.settling.specs.declared.joining.Area.{Area}
use Rattle.settling.specs.declared.joining.Joined.{Joined}
use Rattle.settling.specs.Joining.{JoinGroupAsks, JoinOneAsks, JoinStep, JoinedGroup, Vars, equal_to, join_ask, replaced_atoms, replaced_words}
use Rattle.settling.proofs.JoinOne.{Stayed, Swapped, is_join_ask, join_short, stayed, swapped}
use Rattle.settling.proofs.Replaced.{replaced_eqn, replaced_first, replaced_long, replaced_term, tabs_moved}
use Rattle.rules.specs.Canonicalize as canon

-- ---- i of them passed

-- what is left of the area, and the sum of what was done and of one step more
abbrev pub free : Area → (words binds : ℕ) → Area
free area words binds = record { body = area.body; k = area.k; to = area.to + words; d = binds; sign = area.sign }

abbrev pub added : Joined → Joined → Joined
added t r = record { left = r.left; words = t.words + r.words; binds = r.binds }

-- the equalities with us in front of xs, canonicalized with all replacements made
abbrev after : Sig → List Replacement → ℕ → List ℕ → List Atom → canon.Canonical
after s rs left us xs = canonicalize s (replaced_atoms rs (equal_to left us ++ xs)) []

-- the words of groups behind the group
abbrev behind_of : List ℕ → (p count n : ℕ) → List ℕ
behind_of l p count n = part l (p + count) (n - count)

pub record Grouping (s : Sig) (l m : List ℕ) (left p count n : ℕ) (area : Area) (i : ℕ) (t : Joined) : Type 0 where
  pub asks : JoinGroupAsks l left p count n area
  pub rights : List ℕ
  pub written : List Tab
  pub rs : List Replacement
  pub vars : Vars s rs
  pub stays : t.left ≡ replaced_term rs left
  pub passed : count ≡ i + length rights
  pub tabs : TabsAt written m area.to t.words
  pub behind : At (replaced_words rs (rights ++ behind_of l p count n)) m (p + i)
  pub atoms : At (replaced_words rs (part l area.body area.k)) m area.body
  pub binds : At (binding_words rs) m t.binds
  pub places : t.binds + binding_size * length rs ≡ area.d
  pub few : 4 * length rs + t.words ≤ 4 * i
  pub between : (ws : List ℕ) (q : ℕ) → At ws l q → p + n ≤ q → q + length ws ≤ area.to → At ws m q
  pub only : Only l m p area.d
  pub all_tabs : (xs : List Atom) → (after s [] left (part l p count) xs).tabs ≡ written ++ (after s rs left rights xs).tabs
  pub all_repls : (xs : List Atom) → (after s [] left (part l p count) xs).repls ≡ (after s rs left rights xs).repls ++ rs

at_part : (l : List ℕ) (p n : ℕ) → p + n ≤ length l → At (part l p n) l p
at_part l p n h =
    let k = length_part l p n h in
    record { within = omega arith; words = ap (part l p) k }

-- ---- none of them

pub grouping_start : {s : Sig} {l : List ℕ} {left p count n : ℕ} {area : Area} → JoinGroupAsks l left p count n area
    → Grouping s l l left p count n area 0 (record { left = left; words = 0; binds = area.d })
grouping_start {s} {l} {left} {p} {count} {n} {area} c =
    let fits : p + n ≤ length l = omega (arith, c.here, c.room_to, c.room, c.top) in
    let rights : At (part l p count) l p = at_part l p count (omega (arith, c.inside)) in
    let rest : At (behind_of l p count n) l (p + count) = at_part l (p + count) (n - count) (omega (arith, c.inside)) in
    let long : length (part l p count) ≡ count = length_part l p count (omega (arith, c.inside)) in
    record {
      asks = c;
      rights = part l p count;
      written = [];
      rs = [];
      vars = tt;
      stays = refl;
      passed = omega arith;
      tabs = no_tabs l area.to (omega (arith, c.room_to, c.room, c.top));
      behind = subst (λ (q : ℕ). At (part l p count ++ behind_of l p count n) l q) (plus p) (at_join rights rest (omega arith));
      atoms = at_part l area.body area.k (omega (arith, c.room, c.top));
      binds = at_nil l area.d c.top;
      places = omega arith;
      few = omega arith;
      between = λ ws q z low high. z;
      only = only_same l p area.d;
      all_tabs = λ xs. refl;
      all_repls = λ xs. sym (append-nil _);
    }
  where
    plus : (p : ℕ) → p ≡ p + 0
    plus p = omega arith

-- ---- a turn: what it asks

module _ {s : Sig} {l m : List ℕ} {left p count n : ℕ} {area : Area} {i : ℕ} {t : Joined} (w : Grouping s l m left p count n area i t) where
  pub record GroupTurn : Type 0 where
    pub one : JoinOneAsks s m t.left (p + i) (n - i - 1) (free area t.words t.binds)
    pub on : i < count
    pub inside : i + 1 ≤ n
    pub clear : area.to + t.words + 4 ≤ area.body
    pub most : area.to + 4 * count ≤ area.body
    pub fits : area.body < 2 ^ 64

  pub group_turn : i < count → length l < 2 ^ 64 → GroupTurn
  group_turn h small =
      let c = w.asks in
      let clear : area.to + t.words + 4 ≤ area.body = omega (arith, w.few, c.room_to) in
      record {
        one =
            record {
              here = omega (arith, c.inside, c.here);
              room = omega (arith, join_short (join_ask s t.left (get_or m (p + i) 0)) s t.left (get_or m (p + i) 0));
              clear = omega arith;
              binds = omega (arith, w.few, w.places, c.room);
              top = omega (arith, w.binds.within);
            };
        on = h;
        inside = omega (arith, c.inside);
        clear = clear;
        most = c.room_to;
        fits = omega (arith, c.room, c.top);
      }

-- ---- one more

module _ {s : Sig} {l m : List ℕ} {left p count n : ℕ} {area : Area} {i : ℕ} {t : Joined} {w : Grouping s l m left p count n area i t} (y : GroupTurn w) where
  -- what holds when one more is passed, and what the step over it ensures
  abbrev pub Going : List ℕ → Joined → Type 0
  Going m₂ r = Grouping s l m₂ left p count n area (i + 1) (added t r)

  abbrev Step : Option Replacement → (a b : ℕ) → List ℕ → Joined → Type 0
  Step o a b m₂ r = JoinStep o s m m₂ a b (p + i) (n - i - 1) (free area t.words t.binds) r

  abbrev a : ℕ
  a = replaced_term w.rs left

  -- the next one is that with u
  module _ {u : ℕ} {us : List ℕ} (is : w.rights ≡ u ∷ us) where
    abbrev b : ℕ
    b = replaced_term w.rs u

    -- the words of groups behind it
    abbrev vs : List ℕ
    vs = replaced_words w.rs (us ++ behind_of l p count n)

    here : At (b ∷ vs) m (p + i)
    here =
        subst (λ (ws : List ℕ). At ws m (p + i)) (replaced_first w.rs u (us ++ behind_of l p count n))
        (subst (λ (ws : List ℕ). At (replaced_words w.rs (ws ++ behind_of l p count n)) m (p + i)) is w.behind)

    tail : (q : ℕ) → q ≡ p + i + 1 → At vs m q
    tail q e = at_right (b ∷ []) q here e

    tail_long : length vs ≡ n - i - 1
    tail_long =
        let c = w.asks in
        let long : length (behind_of l p count n) ≡ n - count = length_part l (p + count) (n - count) (omega (arith, c)) in
        replaced_long w.rs (us ++ behind_of l p count n) ∙ length-append us (behind_of l p count n) ∙ omega (arith, long, w.passed, ap length is, c.inside)

    -- the equality in front of what is left
    front : (xs : List Atom) → replaced_atoms w.rs (equal_to left w.rights ++ xs) ≡ eqn 0 a b ∷ replaced_atoms w.rs (equal_to left us ++ xs)
    front xs =
        ap (λ (ws : List ℕ). replaced_atoms w.rs (equal_to left ws ++ xs)) is
        ∙ replaced_eqn w.rs left u (equal_to left us ++ xs)

    -- it stays, and what becomes of it is written
    module _ {m₂ : List ℕ} {r : Joined} (v : s.value_eq < limit12) (e : join_ask s a b ≡ none) (z : Step none a b m₂ r) where
      abbrev one : List Tab
      one = resolve s (eqn 0 a b ∷ [])

      after_still : (xs : List Atom)
          → let y = after s w.rs left us xs in after s w.rs left w.rights xs ≡ record { tabs = one ++ y.tabs; repls = y.repls }
      after_still xs =
          ap (λ (ys : List Atom). canonicalize s ys []) (front xs)
          ∙ canonicalize_still s 0 a b (replaced_atoms w.rs (equal_to left us ++ xs)) [] (sym (is_join_ask s a b) ∙ e)

      still : Going m₂ r
      still =
          let from : ℕ = area.to + t.words in
          let x : Stayed s m m₂ a b from r.words = stayed v z.size z.words (omega (arith, y.clear, y.one.binds, y.one.top)) in
          let short = x.short in
          let only = x.only in
          record {
            asks = w.asks;
            rights = us;
            written = w.written ++ one;
            rs = w.rs;
            vars = w.vars;
            stays = z.stays;
            passed = omega (arith, w.passed, ap length is);
            tabs = tabs_join w.written one m₂ area.to t.words from r.words (tabs_before only w.tabs (omega arith)) x.tabs refl;
            behind = at_before only (tail (p + (i + 1)) (omega arith)) (omega (arith, tail_long, w.asks.inside, w.asks.here));
            atoms = at_after only w.atoms (omega (arith, y.clear));
            binds = subst (λ (q : ℕ). At (binding_words w.rs) m₂ q) (sym z.place) (at_after only w.binds (omega (arith, y.clear, y.one.binds)));
            places = omega (arith, w.places, z.place);
            few = omega (arith, w.few);
            between = λ ws q h near far. let far₂ : q + length ws ≤ from = omega arith in at_before only (w.between ws q h near far) far₂;
            only = only_then w.only (only_wide p area.d only (omega (arith, w.asks.here)) (omega (arith, y.clear, y.one.binds, w.places)));
            all_tabs = λ xs. w.all_tabs xs
                ∙ ap (λ (y : canon.Canonical). w.written ++ y.tabs) (after_still xs)
                ∙ sym (append_assoc w.written one (after s w.rs left us xs).tabs);
            all_repls = λ xs. w.all_repls xs ∙ ap (λ (y : canon.Canonical). y.repls ++ w.rs) (after_still xs);
          }

    -- it asks for a replacement, which is made and bound
    module _ {m₂ : List ℕ} {r : Joined} {x : Replacement} (e : join_ask s a b ≡ some x) (z : Step (some x) a b m₂ r) where
      told : asks s (eqn 0 a b) ≡ some x
      told = sym (is_join_ask s a b) ∙ e

      after_asked : (xs : List Atom)
          → let y = after s (x ∷ w.rs) left us xs in after s w.rs left w.rights xs ≡ record { tabs = y.tabs; repls = y.repls ++ (x ∷ []) }
      after_asked xs =
          ap (λ (ys : List Atom). canonicalize s ys []) (front xs)
          ∙ canonicalize_asked s 0 a b (replaced_atoms w.rs (equal_to left us ++ xs)) [] x told
          ∙ canonicalize_repls s (replaced_atoms (x ∷ w.rs) (equal_to left us ++ xs)) (x ∷ [])

      -- the atoms, as they stand
      abbrev kept : List ℕ
      kept = replaced_words w.rs (part l area.body area.k)

      kept_long : length kept ≡ area.k
      kept_long = replaced_long w.rs (part l area.body area.k) ∙ length_part l area.body area.k (omega (arith, w.asks.room, w.asks.top))

      made : Swapped m m₂ (map (replace_term x) vs) (map (replace_term x) kept) (p + i + 1) area.body t.binds x w.rs
      made =
          let behind : part m (p + i + 1) (n - i - 1) ≡ vs = ap (part m (p + i + 1)) (sym tail_long) ∙ (tail (p + i + 1) refl).words in
          let atoms : part m area.body area.k ≡ kept = ap (part m area.body) (sym kept_long) ∙ w.atoms.words in
          let both : List ℕ → List ℕ → List ℕ = λ f g. splice (splice m (p + i + 1) (map (replace_term x) f)) area.body (map (replace_term x) g) in
          swapped x w.rs w.binds (omega (arith, length-map vs (replace_term x), tail_long, y.inside, y.one.here, y.clear))
          (omega (arith, length-map kept (replace_term x), kept_long, y.one.binds))
          (z.words ∙ ap₂ (λ (f g : List ℕ). splice (both f g) (t.binds - binding_size) (binding_words (x ∷ []))) behind atoms)

      asked : Going m₂ r
      asked =
          let long : length (map (replace_term x) vs) ≡ n - i - 1 = length-map vs (replace_term x) ∙ tail_long in
          let near : p + i + 1 + length (map (replace_term x) vs) ≤ area.to = omega (arith, y.inside, w.asks.here) in
          record {
            asks = w.asks;
            rights = us;
            written = w.written;
            rs = x ∷ w.rs;
            vars = (asked_var s (eqn 0 a b) x told, w.vars);
            stays = z.stays;
            passed = omega (arith, w.passed, ap length is);
            tabs = subst (λ (q : ℕ). TabsAt w.written m₂ area.to q) (nothing t.words r.words z.size)
                (tabs_moved w.tabs (made.between (words_of tab_words w.written) area.to w.tabs.at near (omega (arith, w.tabs.size, y.clear))));
            behind = subst (λ (q : ℕ). At (map (replace_term x) vs) m₂ q) (omega arith) made.behind;
            atoms = made.atoms;
            binds = subst (λ (q : ℕ). At (binding_words (x ∷ w.rs)) m₂ q) (sym z.place) made.binds;
            places = omega (arith, w.places, z.place, y.one.binds);
            few = omega (arith, w.few, z.size);
            between = λ ws q h low high.
                let low₂ : p + i + 1 + length (map (replace_term x) vs) ≤ q = omega (arith, y.inside) in
                let high₂ : q + length ws ≤ area.body = omega (arith, y.clear) in
                made.between ws q (w.between ws q h low high) low₂ high₂;
            only = only_then w.only (only_wide p area.d made.only (omega arith) (omega (arith, w.places)));
            all_tabs = λ xs. w.all_tabs xs ∙ ap (λ (y : canon.Canonical). w.written ++ y.tabs) (after_asked xs);
            all_repls = λ xs. w.all_repls xs ∙ ap (λ (y : canon.Canonical). y.repls ++ w.rs) (after_asked xs)
                ∙ append_assoc (after s (x ∷ w.rs) left us xs).repls (x ∷ []) w.rs;
          }
        where
          nothing : (a b : ℕ) → b ≡ 0 → a ≡ a + b
          nothing a b g = omega arith

  pub grouping_next : {m₂ : List ℕ} {r : Joined} → s.value_eq < limit12
      → Step (join_ask s t.left (get_or m (p + i) 0)) t.left (get_or m (p + i) 0) m₂ r → Going m₂ r
  grouping_next {m₂} {r} v z = turn w.rights refl
    where
      go : {u : ℕ} {us : List ℕ} (is : w.rights ≡ u ∷ us) (o : Option Replacement) → join_ask s a (b is) ≡ o → Step o a (b is) m₂ r → Going m₂ r
      go is none e z = still is v e z
      go is (some x) e z = asked is e z

      turn : (zs : List ℕ) → w.rights ≡ zs → Going m₂ r
      turn [] e = absurd (omega (arith, w.passed, ap length e, y.on))
      turn (u ∷ us) is =
          go is (join_ask s a (b is)) refl
          (subst (λ (q : ℕ). Step (join_ask s a q) a q m₂ r) (at_first (here is))
          (subst (λ (q : ℕ). Step (join_ask s q (get_or m (p + i) 0)) q (get_or m (p + i) 0) m₂ r) w.stays z))

-- ---- all of them

pub grouping_end : {s : Sig} {l m : List ℕ} {left p count n : ℕ} {area : Area} {i : ℕ} {t : Joined} → Grouping s l m left p count n area i t → count ≤ i
    → JoinedGroup s l m left p count n area t
grouping_end {s} {l} {m} {left} {p} {count} {n} {area} {i} {t} w h = go w.rights refl
  where
    go : (us : List ℕ) → w.rights ≡ us → JoinedGroup s l m left p count n area t
    go (u ∷ us) e = absurd (omega (arith, w.passed, ap length e))
    go [] e =
        let ie : i ≡ count = omega (arith, w.passed, ap length e) in
        record {
          written = w.written;
          rs = w.rs;
          vars = w.vars;
          tabs = w.tabs;
          behind = subst (λ (q : ℕ). At (replaced_words w.rs (behind_of l p count n)) m (p + q)) ie
              (subst (λ (us : List ℕ). At (replaced_words w.rs (us ++ behind_of l p count n)) m (p + i)) e w.behind);
          atoms = w.atoms;
          binds = w.binds;
          places = w.places;
          few = omega (arith, w.few);
          between = w.between;
          only = w.only;
          all_tabs = λ xs. w.all_tabs xs ∙ ap (λ (us : List ℕ). w.written ++ (after s w.rs left us xs).tabs) e;
          all_repls = λ xs. w.all_repls xs ∙ ap (λ (us : List ℕ). (after s w.rs left us xs).repls ++ w.rs) e;
        }
