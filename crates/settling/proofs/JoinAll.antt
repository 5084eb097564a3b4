-- The groups of a pass, one by one, in front of the atoms that it kept: `Joining` is what holds when some words of groups are passed. Assumes nothing.
use mathlib.Core.List.{List, [], ◌++◌, ◌∷◌, append_assoc, append-nil, map}
use mathlib.Core.Option.{none}
use mathlib.Core.Path.{◌∙◌, ◌≡◌, ap, ap₂, refl, subst, sym}
use Prim.Native.Nat.{◌*◌, ◌+◌, ◌-◌, ◌<◌, ◌^◌, ◌≤◌, ℕ}
use native.Mathlib.Omega.{arith}
use lib.ListN.{get_or, length, length-append}
use Rattle.octets.proofs.Places.{at_after, at_join, at_nil, only_same, only_then, only_wide}
use Rattle.octets.specs.Regions.{At, Only, part}
use Rattle.rules.specs.Canonicalize.{Body, Replacement, canonicalize, first_replacement, resolve}
use Rattle.rules.specs.Flat.{Atom, Tab, tab, tab_words, words_of}
use Rattle.rules.specs.Signature.{Sig}
use Rattle.meaning.proofs.CanonicalizeEnds.{nothing_asked}
use Rattle.meaning.specs.Meaning.{All}
use Rattle.bodies.specs.Standing.{TabsAt, tabs_in}
use Rattle.bodies.proofs.Standing.{no_tabs, tabs_join}
use Rattle.canonicalize.specs.declared.Canonical.{Canonical}
use Rattle.canonicalize.specs.Canonicalize.{binding_size, binding_words}
use Rattle.canonicalize.proofs.Replacing.{bindings_append, bindings_size}
use Rattle.merging.specs.RemoveDupVars.{Group, Some, all_eqns, eqns_of, group_words}
use Rattle.settling.specs.declared.joining.Area.{Area}
use Rattle.settling.specs.declared.joining.Joined.{Joined}
use Rattle.settling.specs.Joining.{AgainAsks, JoinGroupAsks, JoinedAll, JoinedGroup, JoinedOf, equal_to, replaced_atoms, replaced_words}
use Rattle.settling.proofs.Replaced.{Few, GroupsHeld, groups_held, replaced_append, replaced_atoms_lem, replaced_long, replaced_many}
use Rattle.settling.proofs.Replaced.{replaced_tabs_lem, replaced_groups, replaced_tabs, tabs_moved}
use Rattle.settling.proofs.GroupWords.{NextGroup, groups_told, next_group, no_group_left}
use Rattle.settling.proofs.JoinGroup.{free}
use Rattle.rules.specs.Canonicalize as canon

-- ---- atoms of heads alone ask for nothing

heads_first : (s : Sig) (ts : List Tab) → first_replacement s (map tab ts) ≡ none
heads_first s [] = refl
heads_first s (t ∷ ts) = heads_first s ts

heads_resolve : (s : Sig) (ts : List Tab) → resolve s (map tab ts) ≡ ts
heads_resolve s [] = refl
heads_resolve s (t ∷ ts) = ap (λ (us : List Tab). t ∷ us) (heads_resolve s ts)

canonicalize_heads : (s : Sig) (ts : List Tab) → canonicalize s (map tab ts) [] ≡ record { tabs = ts; repls = [] }
canonicalize_heads s ts =
    ap (λ (b : Body). record { tabs = resolve s b.atoms; repls = b.repls }) (nothing_asked s (length (map tab ts)) (map tab ts) [] (heads_first s ts))
    ∙ ap (λ (us : List Tab). record { tabs = us; repls = [] }) (heads_resolve s ts)

-- ---- i words of groups passed

-- groups in front of atoms, canonicalized
abbrev before : Sig → List Group → List Tab → canon.Canonical
before s gs ts = canonicalize s (all_eqns gs ++ map tab ts) []

pub record Joining (s : Sig) (l m : List ℕ) (at e : ℕ) (area : Area) (i : ℕ) (t : Canonical) : Type 0 where
  pub asks : AgainAsks l at e area
  pub groups : List Group
  pub written : List Tab
  pub ts : List Tab
  pub rs : List Replacement
  pub some : All Some groups
  pub few : All Few groups
  pub size : e ≡ i + length (words_of group_words groups)
  pub stand : At (words_of group_words groups) m (at + i)
  pub tabs : TabsAt written m area.to t.words
  pub atoms : TabsAt ts m area.body area.k
  pub binds : At (binding_words rs) m t.binds
  pub places : t.binds + binding_size * length rs ≡ area.d
  pub room : 4 * length rs + t.words + 4 * length (all_eqns groups) ≤ 4 * length (all_eqns asks.groups)
  pub only : Only l m at area.d
  pub all_tabs : (before s asks.groups (tabs_in l area.body area.k)).tabs ≡ written ++ (before s groups ts).tabs
  pub all_repls : (before s asks.groups (tabs_in l area.body area.k)).repls ≡ (before s groups ts).repls ++ rs

-- ---- none of them

pub joining_start : {s : Sig} {l : List ℕ} {at e : ℕ} {area : Area} → AgainAsks l at e area
    → Joining s l l at e area 0 (record { words = 0; binds = area.d })
joining_start {s} {l} {at} {e} {area} c =
    record {
      asks = c;
      groups = c.groups;
      written = [];
      ts = tabs_in l area.body area.k;
      rs = [];
      some = c.stand.some;
      few = c.stand.few;
      size = omega (arith, c.stand.size);
      stand = subst (λ (q : ℕ). At (words_of group_words c.groups) l q) (plus at) c.stand.at;
      tabs = no_tabs l area.to (omega (arith, c.room_to, c.room, c.top));
      atoms = c.kepts;
      binds = at_nil l area.d c.top;
      places = omega arith;
      room = omega arith;
      only = only_same l at area.d;
      all_tabs = refl;
      all_repls = sym (append-nil _);
    }
  where
    plus : (p : ℕ) → p ≡ p + 0
    plus p = omega arith

-- ---- a turn: the next group stands in front

module _ {s : Sig} {l m : List ℕ} {at e : ℕ} {area : Area} {i : ℕ} {t : Canonical} (w : Joining s l m at e area i t) where
  pub record AllTurn : Type 0 where
    pub here : NextGroup w.groups m (at + i) (e - i)
    pub inside : at + i + 2 ≤ length m
    pub fits : length m < 2 ^ 64

  pub all_turn : i < e → length l < 2 ^ 64 → AllTurn
  all_turn h small =
      let g : NextGroup w.groups m (at + i) (e - i) = next_group w.groups w.some w.few w.stand (omega (arith, w.size)) (omega arith) in
      record { here = g; inside = omega (arith, g.inside, g.size); fits = omega (arith, w.only.size) }

-- its left term and its count are read
module _ {s : Sig} {l m : List ℕ} {at e : ℕ} {area : Area} {i : ℕ} {t : Canonical} {w : Joining s l m at e area i t} (y : AllTurn w) where
  pub record GroupRead (left count : ℕ) : Type 0 where
    pub is_left : left ≡ y.here.group.left
    pub is_count : count ≡ length y.here.group.rights
    pub asks : JoinGroupAsks m left (at + i + 2) count (e - i - 2) (free area t.words t.binds)
    pub more : i + (count + 2) ≤ e
    pub fits : area.d < 2 ^ 64

  pub group_read : {left count : ℕ} → left ≡ get_or m (at + i) 0 → count ≡ get_or m (at + i + 1) 0 → GroupRead left count
  group_read {left} {count} el ec =
      let g = y.here in
      let c = w.asks in
      let is : count ≡ length g.group.rights = ec ∙ g.count in
      let more : i + (count + 2) ≤ e = omega (arith, g.size, w.size) in
      record {
        is_left = el ∙ g.left;
        is_count = is;
        asks = record {
          inside = omega arith;
          here = omega (arith, c.clear);
          room_to = omega (arith, w.room, g.many, c.room_to);
          room = omega (arith, w.room, w.places, g.many, c.room);
          top = omega (arith, w.binds.within);
        };
        more = more;
        fits = omega (arith, c.top, w.only.size, y.fits);
      }

-- the group is joined, which leaves m₂: the others stand behind it, with its replacements made
module _ {s : Sig} {l m : List ℕ} {at e : ℕ} {area : Area} {i : ℕ} {t : Canonical} {w : Joining s l m at e area i t} {y : AllTurn w}
    {left count : ℕ} (g : GroupRead y left count) {m₂ : List ℕ} {r : Joined}
    (z : JoinedGroup s m m₂ left (at + i + 2) count (e - i - 2) (free area t.words t.binds) r) where
  abbrev others : List Group
  others = y.here.others

  held : GroupsHeld z.rs others
  held = groups_held s z.rs others z.vars y.here.some y.here.few

  abbrev us : List Tab
  us = replaced_tabs z.rs w.ts

  -- the words of the others
  stand : At (words_of group_words (replaced_groups z.rs others)) m₂ (at + i + 2 + count)
  stand =
      let behind : At (words_of group_words others) m (at + i + 2 + count) =
      subst (λ (q : ℕ). At (words_of group_words others) m (at + i + 2 + q)) (sym g.is_count) y.here.behind in
      let rest : e - i - 2 - count ≡ length (words_of group_words others) = omega (arith, g.is_count, y.here.size) in
      let ws : part m (at + i + 2 + count) (e - i - 2 - count) ≡ words_of group_words others = ap (part m (at + i + 2 + count)) rest ∙ behind.words in
      subst (λ (us : List ℕ). At us m₂ (at + i + 2 + count)) (ap (replaced_words z.rs) ws ∙ held.words) z.behind

  tabs : TabsAt (w.written ++ z.written) m₂ area.to (t.words + r.words)
  tabs =
      let clear : at + i + 2 + (e - i - 2) ≤ area.to = omega (arith, g.more, w.asks.clear) in
      let old = tabs_moved w.tabs (z.between (words_of tab_words w.written) area.to w.tabs.at clear (omega (arith, w.tabs.size))) in
      tabs_join w.written z.written m₂ area.to t.words (area.to + t.words) r.words old z.tabs refl

  binds : At (binding_words (z.rs ++ w.rs)) m₂ r.binds
  binds =
      subst (λ (ws : List ℕ). At ws m₂ r.binds) (sym (bindings_append z.rs w.rs))
      (at_join z.binds (at_after z.only w.binds (omega arith)) (omega (arith, z.places, bindings_size z.rs)))

  -- what was left is the group's equalities in front of xs, and its replacements are made in xs
  abbrev xs : List Atom
  xs = all_eqns others ++ map tab w.ts

  split : all_eqns w.groups ++ map tab w.ts ≡ equal_to left (part m (at + i + 2) count) ++ xs
  split =
      let h = y.here in
      let eqns : equal_to left (part m (at + i + 2) count) ≡ eqns_of h.group =
      ap₂ equal_to g.is_left (ap (part m (at + i + 2)) g.is_count ∙ h.rights) in
      ap (λ (gs : List Group). all_eqns gs ++ map tab w.ts) h.is ∙ append_assoc (eqns_of h.group) (all_eqns others) (map tab w.ts)
      ∙ ap (λ (ys : List Atom). ys ++ xs) (sym eqns)

  after : replaced_atoms z.rs xs ≡ all_eqns (replaced_groups z.rs others) ++ map tab us
  after = replaced_append z.rs (all_eqns others) (map tab w.ts) ∙ ap₂ ◌++◌ (sym held.eqns) (replaced_atoms_lem z.rs w.ts)

  pub joining_next : Joining s l m₂ at e area (i + (count + 2)) (record { words = t.words + r.words; binds = r.binds })
  joining_next =
      let qs : List Replacement = z.rs in
      let many : length (all_eqns (replaced_groups qs others)) ≡ length (all_eqns others) = ap length held.eqns ∙ replaced_many qs (all_eqns others) in
      record {
        asks = w.asks;
        groups = replaced_groups qs others;
        written = w.written ++ z.written;
        ts = us;
        rs = qs ++ w.rs;
        some = held.some;
        few = held.few;
        size = omega (arith, w.size, g.is_count, y.here.size, ap length held.words, replaced_long qs (words_of group_words others));
        stand = subst (λ (q : ℕ). At (words_of group_words (replaced_groups qs others)) m₂ q) (sum at i count) stand;
        tabs = tabs;
        atoms = replaced_tabs_lem s qs z.vars w.atoms z.atoms;
        binds = binds;
        places = omega (arith, w.places, z.places, length-append qs w.rs);
        room = omega (arith, w.room, z.few, length-append qs w.rs, many, y.here.many, g.is_count);
        only = only_then w.only (only_wide at area.d z.only (omega arith) (omega (arith, w.places)));
        all_tabs = w.all_tabs
            ∙ ap (λ (ys : List Atom). w.written ++ (canonicalize s ys []).tabs) split
            ∙ ap (λ (us : List Tab). w.written ++ us) (z.all_tabs xs)
            ∙ ap (λ (ys : List Atom). w.written ++ (z.written ++ (canonicalize s ys []).tabs)) after
            ∙ sym (append_assoc w.written z.written (before s (replaced_groups qs others) us).tabs);
        all_repls = w.all_repls
            ∙ ap (λ (ys : List Atom). (canonicalize s ys []).repls ++ w.rs) split
            ∙ ap (λ (rs : List Replacement). rs ++ w.rs) (z.all_repls xs)
            ∙ ap (λ (ys : List Atom). ((canonicalize s ys []).repls ++ qs) ++ w.rs) after
            ∙ append_assoc (before s (replaced_groups qs others) us).repls qs w.rs;
      }
    where
      sum : (a b c : ℕ) → a + b + 2 + c ≡ a + (b + (c + 2))
      sum a b c = omega arith

-- ---- all of them: what is left is atoms alone

pub joining_end : {s : Sig} {l m : List ℕ} {at e : ℕ} {area : Area} {i : ℕ} {t : Canonical} → Joining s l m at e area i t → e ≤ i
    → JoinedAll s l m at e area t
joining_end {s} {l} {m} {at} {e} {area} {i} {t} w h =
    let none : w.groups ≡ [] = no_group_left w.groups w.some (omega (arith, w.size)) in
    let left : before s w.groups w.ts ≡ record { tabs = w.ts; repls = [] } =
    ap (λ (gs : List Group). before s gs w.ts) none ∙ canonicalize_heads s w.ts in
    let own : JoinedOf s w.asks.groups l m at area t =
    record {
      written = w.written;
      ts = w.ts;
      rs = w.rs;
      tabs = w.tabs;
      atoms = w.atoms;
      binds = w.binds;
      places = w.places;
      few = omega (arith, w.room);
      only = w.only;
      all_tabs = w.all_tabs ∙ ap (λ (y : canon.Canonical). w.written ++ y.tabs) left;
      all_repls = w.all_repls ∙ ap (λ (y : canon.Canonical). y.repls ++ w.rs) left;
    } in
    record { of = λ gs z. subst (λ (hs : List Group). JoinedOf s hs l m at area t) (groups_told w.asks.stand z) own }
