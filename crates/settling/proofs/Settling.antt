-- Settling in words is settling over atoms, and the room suffices: `Begun` is what holds of a body that has words, `Settling` when some passes are made.
-- Assumes nothing.
use mathlib.Core.List.{List, [], ◌++◌, ◌∷◌, map}
use mathlib.Core.Path.{◌∙◌, ◌≡◌, ap, ap₂, refl, subst, sym}
use Prim.Native.Nat.{◌*◌, ◌+◌, ◌-◌, ◌/◌, ◌<◌, ◌^◌, ◌≤◌, suc, ℕ}
use native.Mathlib.Omega.{arith}
use lib.ListN.{length, length-append, length-map}
use Rattle.octets.proofs.Places.{at_after, at_join, only_same, only_then, only_wide}
use Rattle.octets.specs.Regions.{At, Only}
use Rattle.rules.specs.Canonicalize.{Replacement, canonicalize}
use Rattle.rules.specs.Flat.{Atom, Tab, atom_words, eqn, tab, tab_words, words_of}
use Rattle.rules.specs.RemoveDupVars.{keep, merged, settle}
use Rattle.rules.specs.Signature.{Sig, same_term}
use Rattle.meaning.proofs.CanonicalizeEnds.{unlike_small}
use Rattle.meaning.proofs.Lists.{length_words}
use Rattle.meaning.proofs.MergePass.{IsEqn, merged_eqns}
use Rattle.meaning.proofs.Passes.{Passing, canonicalize_repls, pass_last, pass_next, pass_start}
use Rattle.meaning.proofs.ReadBack.{unplaced_tabs_words}
use Rattle.meaning.proofs.Room.{tabs_words_weight, weight_canonicalize, weight_merged, weight_words}
use Rattle.meaning.proofs.Signatures.{settle_same_sig}
use Rattle.meaning.proofs.Unplaced.{settle_unplaced}
use Rattle.meaning.proofs.WordLaws.{two_atom}
use Rattle.meaning.specs.Meaning.{All}
use Rattle.meaning.specs.ReadBack.{unplaced, unplaced_settled, unplaced_tab}
use Rattle.meaning.specs.Weight.{tabs_weight, weight}
use Rattle.bodies.specs.Standing.{BodyAt, TabsAt, atoms_in, tabs_in}
use Rattle.bodies.proofs.Standing.{body_atoms, body_is, tabs_is}
use Rattle.canonicalize.specs.declared.Canonical.{Canonical}
use Rattle.canonicalize.specs.Canonicalize.{CanonicalAt, CanonicalizeAsks, binding_size, binding_words}
use Rattle.canonicalize.proofs.Replacing.{bindings_append, bindings_size}
use Rattle.merging.specs.declared.Merged.{Merged}
use Rattle.merging.specs.RemoveDupVars.{Group, GroupsAt, PassAsks, Passed, all_eqns, group_words, groups_of}
use Rattle.merging.proofs.PassGroups.{PassGroups, groups_none, groups_small, pass_groups}
use Rattle.settling.specs.declared.Settled.{Settled}
use Rattle.settling.specs.declared.joining.Area.{Area}
use Rattle.bodies.specs.declared.terms.Sign.{Sign}
use Rattle.settling.specs.Joining.{AgainAsks}
use Rattle.settling.specs.Settle.{SettleAsks, SettledAt, settled_none}
use Rattle.rules.specs.RemoveDupVars as definitions
use Rattle.rules.specs.Canonicalize as canon

-- ---- a body without words: there is nothing to settle, and one pass finds that

pub settled_none_lem : (g : Sig) (ys : List Atom) (l : List ℕ) (at n : ℕ) → n ≡ 0 → BodyAt ys l at n
    → {r : Settled} → r ≡ settled_none at → SettledAt g ys l l at n r
settled_none_lem g [] l at n e y is =
    subst (SettledAt g [] l l at n) (sym is)
    (record {
      tabs = y.at;
      words = refl;
      atoms = refl;
      binds = y.at;
      replacements = refl;
      passes = refl;
      only = only_same l at (at + 8 * n + 3);
    })
settled_none_lem g (x ∷ ys) l at n e y is = absurd (omega (arith, y.size, e, two_atom x, length-append (atom_words x) (words_of atom_words ys)))

-- ---- one with words

-- for a caller: where a body stands, with places or without, and there is room, `settle` may be called
pub settle_asks : (xs : List Atom) (l : List ℕ) (at n : ℕ) → BodyAt xs l at n → at + 8 * n + 3 ≤ length l → at + 2 * n < 0x1000_0000 → SettleAsks l at n
settle_asks xs l at n b h f =
    let a = body_atoms l at n xs b in
    record { body = record { fits = a.fits; size = a.size; at = a.at }; room = h; small = f }

-- an atom has two words or more, and so has the body
pub record Begun (l : List ℕ) (at n : ℕ) : Type 0 where
  pub asks : SettleAsks l at n
  pub two : 2 ≤ n
  pub most : 2 * length (atoms_in l at n) ≤ n
  pub light : weight (atoms_in l at n) ≤ 2 * n
  pub fits : at + 8 * n + 3 < 2 ^ 64

pub begun : {l : List ℕ} {at n : ℕ} → SettleAsks l at n → (n ≡ 0 → ⊥) → length l < 2 ^ 64 → Begun l at n
begun {l} {at} {n} c more small =
    record {
      asks = c;
      two = go (atoms_in l at n) c.body.size;
      most = omega (arith, length_words atom_words 2 two_atom (atoms_in l at n), c.body.size);
      light = omega (arith, weight_words (atoms_in l at n), c.body.size);
      fits = omega (arith, c.room);
    }
  where
    go : (xs : List Atom) → n ≡ length (words_of atom_words xs) → 2 ≤ n
    go [] e = absurd (more e)
    go (x ∷ xs) e = omega (arith, two_atom x, length-append (atom_words x) (words_of atom_words xs))

pub first_asks : {l : List ℕ} {at n : ℕ} → Begun l at n → CanonicalizeAsks l at n (at + 4 * n + 1) (at + 8 * n + 3)
first_asks {l} {at} {n} b =
    record {
      atoms = body_atoms l at n (atoms_in l at n) b.asks.body;
      some = omega (arith, b.two);
      small = omega (arith, b.asks.small);
      clear = omega arith;
      room = omega (arith, b.light, b.most, b.two);
      top = b.asks.room;
    }

-- ---- k passes are made: the atoms of the next one stand behind the body, and the bindings at the end

pub record Settling (s : Sig) (l m : List ℕ) (at n : ℕ) (c : Canonical) (k : ℕ) : Type 0 where
  pub begun : Begun l at n
  pub ts : List Tab
  pub rs : List Replacement
  pub passing : Passing s (atoms_in l at n) ts rs k
  pub tabs : TabsAt ts m (at + 4 * n + 1) c.words
  pub binds : At (binding_words rs) m c.binds
  pub count : c.binds + binding_size * length rs ≡ at + 8 * n + 3
  pub light : 4 * length rs + tabs_weight ts ≤ 2 * n
  pub only : Only l m at (at + 8 * n + 3)

pub settling_start : {s : Sig} {l m : List ℕ} {at n : ℕ} {r : Canonical} → Begun l at n
    → CanonicalAt s (atoms_in l at n) l m at (at + 4 * n + 1) (at + 8 * n + 3) r → Settling s l m at n r 0
settling_start {s} {l} {m} {at} {n} b z =
    let xs = canonicalize s (atoms_in l at n) [] in
    record {
      begun = b;
      ts = xs.tabs;
      rs = xs.repls;
      passing = pass_start s (atoms_in l at n);
      tabs = z.tabs;
      binds = z.binds;
      count = z.count;
      light = omega (arith, b.light, weight_canonicalize s (atoms_in l at n) []);
      only = z.only;
    }

-- ---- another pass

-- equalities in front of atoms of heads
weight_front : (es : List Atom) (ts : List Tab) → All IsEqn es → weight (es ++ map tab ts) ≤ 4 * length es + tabs_weight ts
weight_front [] [] h = omega arith
weight_front [] (t ∷ ts) h = omega (arith, weight_front [] ts tt)
weight_front (eqn p a b ∷ es) ts h = omega (arith, weight_front es ts h.1, unlike_small (same_term a b))
weight_front (tab t ∷ es) ts h = absurd h.0

module _ {s : Sig} {l m : List ℕ} {at n : ℕ} {r : Canonical} {k : ℕ} (w : Settling s l m at n r k) where
  abbrev body : ℕ
  body = at + 4 * n + 1

  abbrev end : ℕ
  end = at + 8 * n + 3

  -- no more passes than atoms
  pub few : 2 * k ≤ n
  few = omega (arith, w.passing.falls, w.begun.most)

  ts_is : tabs_in m body r.words ≡ w.ts
  ts_is = tabs_is m body r.words w.ts w.tabs

  pub merge_asks : PassAsks m body r.words at (at + 2 * n) (at + 6 * n + 1)
  merge_asks =
      let words : r.words ≤ 2 * n = omega (arith, w.tabs.size, tabs_words_weight w.ts, w.light) in
      let groups : length (words_of group_words (groups_of [] w.ts)) ≤ 2 * n = omega (arith, groups_small [] w.ts, weight_merged w.ts, w.light) in
      record {
        tabs = subst (λ (ts : List Tab). TabsAt ts m body r.words) (sym ts_is) w.tabs;
        small = omega (arith, w.begun.asks.small);
        room_eqs = subst (λ (ts : List Tab). at + length (words_of group_words (groups_of [] ts)) ≤ at + 2 * n) (sym ts_is) (omega arith);
        below = omega arith;
        beyond = omega arith;
        room = omega (arith, w.begun.asks.room, w.only.size);
      }

  -- the pass is made, which leaves m₂: its equalities es in groups, and the atoms that it kept
  module _ {m₂ : List ℕ} {t : Merged} (z : Passed m m₂ (at + 4 * n + 1) r.words at (at + 6 * n + 1) t) where
    abbrev es : List Atom
    es = merged [] w.ts

    abbrev ks : List Tab
    ks = keep [] w.ts

    written : PassGroups m m₂ body r.words at t
    written = pass_groups m m₂ body r.words at (at + 6 * n + 1) t merge_asks.tabs merge_asks.small z

    eqns_are : all_eqns written.groups ≡ es
    eqns_are = written.are ∙ ap (merged []) ts_is

    size_is : t.eqs ≡ length (words_of group_words (groups_of [] w.ts))
    size_is = z.size ∙ ap (λ (ts : List Tab). length (words_of group_words (groups_of [] ts))) ts_is

    kepts : TabsAt ks m₂ body t.kept
    kepts = subst (λ (ts : List Tab). TabsAt (keep [] ts) m₂ body t.kept) ts_is z.tabs

    ks_is : tabs_in m₂ body t.kept ≡ ks
    ks_is = tabs_is m₂ body t.kept ks kepts

    sizes : 4 * length es + tabs_weight ks + 4 * length w.rs ≤ 2 * n
    sizes = omega (arith, weight_merged w.ts, w.light)

    -- the bindings lie beyond the atoms that are kept
    beyond : at + 6 * n + 1 + r.words + 1 ≤ r.binds
    beyond = omega (arith, w.tabs.size, tabs_words_weight w.ts, w.light, w.count)

    binds : At (binding_words w.rs) m₂ r.binds
    binds = at_after z.only w.binds beyond

    only : Only l m₂ at end
    only = only_then w.only (only_wide at end z.only (omega arith) (omega (arith, beyond, w.count)))

    -- what canonicalizing its equalities asks
    abbrev pub area : Sign → Area
    area q = record { body = at + 4 * n + 1; k = t.kept; to = at + 2 * n; d = r.binds; sign = q }

    pub next_asks : (q : Sign) → AgainAsks m₂ at t.eqs (area q)
    next_asks q =
        let kept : t.kept ≤ tabs_weight ks = omega (arith, kepts.size, tabs_words_weight ks) in
        let many : length (all_eqns written.groups) ≡ length es = ap length eqns_are in
        record {
          groups = written.groups;
          stand = written.stand;
          kepts = subst (λ (ts : List Tab). TabsAt ts m₂ body t.kept) (sym ks_is) kepts;
          clear = omega (arith, size_is, groups_small [] w.ts, sizes);
          room_to = omega (arith, many, kept, sizes);
          room = omega (arith, many, kept, sizes, w.count, w.begun.two);
          top = omega (arith, binds.within);
        }

    -- the last pass: what stands is settled, without places and with them
    pub settled : (g : Sig) (ys : List Atom) → s.globals ≡ g.globals → s.value_eq ≡ g.value_eq → BodyAt ys l at n → t.eqs ≡ 0
        → SettledAt g ys l m₂ at n
        (record { at = body; words = t.kept; atoms = t.atoms; binds = r.binds; replacements = (end - r.binds) / binding_size; passes = k + 1 })
    settled g ys eg ev y e =
        let none : es ≡ [] = groups_none [] w.ts (sym size_is ∙ e) in
        let is : unplaced_settled (settle g ys) ≡ record { tabs = ks; repls = w.rs; passes = suc k } =
        sym (settle_unplaced g ys) ∙ sym (settle_same_sig s g (map unplaced ys) eg ev) ∙ ap (settle s) (sym (body_is l at n ys y))
        ∙ pass_last s (atoms_in l at n) w.ts w.rs k w.passing none in
        let ws : words_of tab_words ks ≡ words_of tab_words (settle g ys).tabs =
        ap (λ (x : definitions.Settled). words_of tab_words x.tabs) (sym is) ∙ unplaced_tabs_words (settle g ys).tabs in
        record {
          tabs = subst (λ (x : List ℕ). At x m₂ body) ws kepts.at;
          words = kepts.size ∙ ap length ws;
          atoms = z.atoms ∙ ap (λ (ts : List Tab). length (keep [] ts)) ts_is ∙ ap (λ (x : definitions.Settled). length x.tabs) (sym is)
              ∙ length-map (settle g ys).tabs unplaced_tab;
          binds = subst (λ (x : definitions.Settled). At (binding_words x.repls) m₂ r.binds) (sym is) binds;
          replacements = so_many (length w.rs) r.binds end w.count ∙ ap (λ (x : definitions.Settled). length x.repls) (sym is);
          passes = one k ∙ ap (λ (x : definitions.Settled). x.passes) (sym is);
          only = only;
        }
      where
        so_many : (a b e : ℕ) → b + binding_size * a ≡ e → (e - b) / binding_size ≡ a
        so_many a b e h = omega arith

        one : (k : ℕ) → k + 1 ≡ suc k
        one k = omega arith

    -- its equalities are canonicalized in front of the atoms, which leaves m₃: another pass is to follow
    pub settling_next : {m₃ : List ℕ} {r₃ : Canonical} → (t.eqs ≡ 0 → ⊥)
        → ((gs : List Group) → GroupsAt gs m₂ at t.eqs
        → CanonicalAt s (all_eqns gs ++ map tab (tabs_in m₂ (at + 4 * n + 1) t.kept)) m₂ m₃ at (at + 4 * n + 1) r.binds r₃)
        → Settling s l m₃ at n r₃ (k + 1)
    settling_next {m₃} {r₃} ne all =
        let ys : List Atom = es ++ map tab ks in
        let new : List Replacement = (canonicalize s ys []).repls in
        let is = ap₂ (λ (es : List Atom) (ks : List Tab). es ++ map tab ks) eqns_are ks_is in
        let v : CanonicalAt s ys m₂ m₃ at body r.binds r₃ =
        subst (λ (zs : List Atom). CanonicalAt s zs m₂ m₃ at body r.binds r₃) is (all written.groups written.stand) in
        let some = one_more (length es) t.eqs ne (omega (arith, size_is, groups_small [] w.ts)) in
        let next : Passing s (atoms_in l at n) (canonicalize s ys w.rs).tabs (canonicalize s ys w.rs).repls (suc k) =
        pass_next s (atoms_in l at n) w.ts w.rs k w.passing (length es - 1) some in
        let passing : Passing s (atoms_in l at n) (canonicalize s ys []).tabs (new ++ w.rs) (suc k) =
        subst (λ (b : canon.Canonical). Passing s (atoms_in l at n) b.tabs b.repls (suc k)) (canonicalize_repls s ys w.rs) next in
        let weighs : weight ys + 4 * length w.rs ≤ 2 * n = omega (arith, sizes, weight_front es ks (merged_eqns [] w.ts)) in
        let long : length (new ++ w.rs) ≡ length new + length w.rs = length-append new w.rs in
        record {
          begun = w.begun;
          ts = (canonicalize s ys []).tabs;
          rs = new ++ w.rs;
          passing = subst (λ (j : ℕ). Passing s (atoms_in l at n) (canonicalize s ys []).tabs (new ++ w.rs) j) (one k) passing;
          tabs = v.tabs;
          binds = subst (λ (ws : List ℕ). At ws m₃ r₃.binds) (sym (bindings_append new w.rs))
              (at_join v.binds (at_after v.only binds (omega arith)) (omega (arith, v.count, bindings_size new)));
          count = omega (arith, v.count, w.count);
          light = omega (arith, weighs, weight_canonicalize s ys []);
          only = only_then only (only_wide at end v.only (omega arith) (omega (arith, w.count)));
        }
      where
        one : (k : ℕ) → suc k ≡ k + 1
        one k = omega arith

        one_more : (a e : ℕ) → (e ≡ 0 → ⊥) → e ≤ 3 * a → a ≡ suc (a - 1)
        one_more a e h k = omega (arith, h)
