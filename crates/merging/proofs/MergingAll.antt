-- A merge pass in words, atom by atom, is a merge pass over atoms: what is known at each turn of `merge_all`, and behind its loop. Assumes nothing.
use mathlib.Core.Bool.{Bool, cond, false, true}
use mathlib.Core.List.{List, [], ◌++◌, ◌∷◌, append_assoc, append-nil}
use mathlib.Core.Path.{◌∙◌, ◌≡◌, ap, ap₂, refl, subst, sym}
use Prim.Native.Nat.{◌+◌, ◌-◌, ◌^◌, ◌<◌, ◌≤◌, ℕ}
use native.Mathlib.Omega.{arith}
use lib.ListN.{length, length-append}
use Rattle.octets.proofs.Places.{at_before, at_join, at_nil, only_same, only_then, only_wide}
use Rattle.octets.specs.Regions.{At, Only, part, splice}
use Rattle.rules.specs.Flat.{Tab, tab_words, words_of}
use Rattle.rules.specs.RemoveDupVars.{keep, seen}
use Rattle.meaning.proofs.Lists.{length_words, length_words_append, words_append}
use Rattle.meaning.proofs.WordLaws.{two_tab}
use Rattle.words.specs.Atom.{BeginsGood}
use Rattle.bodies.specs.Standing.{TabsAt, size_at, tab_at, tabs_in}
use Rattle.bodies.proofs.Standing.{FirstTab, first_tab, no_tab_left, no_tabs, none_passed, tab_is, tabs_after, tabs_is, tabs_join, tabs_read}
use Rattle.merging.specs.declared.Merged.{Merged}
use Rattle.merging.specs.declared.Merging.{Merging}
use Rattle.merging.specs.Chains.{Linked, LinksAt, MarksAt}
use Rattle.merging.specs.RemoveDupVars.{DroppedOne, Group, KeptOne, LinksKept, MarkedBy, MergeAsks, MergeOneAsks, MergedAll, MergedOne, OneStep}
use Rattle.merging.specs.RemoveDupVars.{PassAsks, Passed, behind, group_of, group_words, groups_of}
use Rattle.merging.proofs.Links.{links_after, links_below}
use Rattle.merging.proofs.Marks.{marks_after, marks_below}
use Rattle.merging.proofs.Runs.{tabs_to, Moved, moved}

-- ---- a pass over atoms on its way: `gs` are its groups and `ks` are kept so far, `firsts` being the same in another order

pub record Grouping (ts : List Tab) (gs : List Group) (ks firsts todo : List Tab) : Type 0 where
  pub groups : groups_of [] ts ≡ gs ++ groups_of firsts todo
  pub kept : keep [] ts ≡ ks ++ keep firsts todo

module _ {ts : List Tab} {gs : List Group} {ks firsts : List Tab} {a : Tab} {xs : List Tab} (g : Grouping ts gs ks firsts (a ∷ xs)) where
  pub grouping_drop : seen a firsts ≡ true → Grouping ts gs ks firsts xs
  grouping_drop e =
      record {
        groups = g.groups ∙ ap (λ (c : Bool). gs ++ cond c (groups_of firsts xs) (group_of a xs ∷ groups_of (a ∷ firsts) xs)) e;
        kept = g.kept ∙ ap (λ (c : Bool). ks ++ cond c (keep firsts xs) (a ∷ keep (a ∷ firsts) xs)) e;
      }

  pub grouping_keep : seen a firsts ≡ false → Grouping ts (gs ++ group_of a xs ∷ []) (ks ++ a ∷ []) (a ∷ firsts) xs
  grouping_keep e =
      record {
        groups = g.groups ∙ ap (λ (c : Bool). gs ++ cond c (groups_of firsts xs) (group_of a xs ∷ groups_of (a ∷ firsts) xs)) e
            ∙ sym (append_assoc gs (group_of a xs ∷ []) (groups_of (a ∷ firsts) xs));
        kept = g.kept ∙ ap (λ (c : Bool). ks ++ cond c (keep firsts xs) (a ∷ keep (a ∷ firsts) xs)) e
            ∙ sym (append_assoc ks (a ∷ []) (keep (a ∷ firsts) xs));
      }

-- ---- a pass in words on its way

-- of the atoms that are kept `held` were moved to the front, and `run` stand where they stood, up to the atom that is next
pub record MergingAll (l m : List ℕ) (from n eqs links i : ℕ) (t : Merging) : Type 0 where
  pub asks : MergeAsks l from n eqs links
  pub fits : length l < 2 ^ 64
  pub gs : List Group
  pub held : List Tab
  pub run : List Tab
  pub firsts : List Tab
  pub left : List Tab
  pub buckets : ℕ
  pub grouping : Grouping (tabs_in l from n) gs (held ++ run) firsts left
  pub tabs : TabsAt left m (from + i) (n - i)
  pub linked : LinksAt buckets left i m links
  pub marks : MarksAt firsts left i m links
  pub helds : TabsAt held m from t.done.kept
  pub runs : TabsAt run m (from + t.start) (i - t.start)
  pub at : At (words_of group_words gs) m eqs
  pub size : t.done.eqs ≡ length (words_of group_words gs)
  pub atoms : t.done.atoms ≡ length (held ++ run)
  pub down : t.done.kept ≤ t.start
  pub up : t.start ≤ i
  pub only : Only l m eqs (from + n)
  pub inside : i ≤ n

pub merging_start : {l : List ℕ} {from n eqs links : ℕ} → MergeAsks l from n eqs links → length l < 2 ^ 64
    → MergingAll l l from n eqs links 0 (record { done = record { eqs = 0; kept = 0; atoms = 0 }; start = 0 })
merging_start {l} {from} {n} {eqs} c fits =
    record {
      asks = c;
      fits = fits;
      gs = [];
      held = [];
      run = [];
      firsts = [];
      left = tabs_in l from n;
      buckets = c.buckets;
      grouping = record { groups = refl; kept = refl };
      tabs = none_passed (tabs_in l from n) l from n c.tabs;
      linked = c.linked;
      marks = c.marks;
      helds = no_tabs l from (omega (arith, c.tabs.within));
      runs = no_tabs l (from + 0) (omega (arith, c.tabs.within));
      at = at_nil l eqs (omega (arith, c.room, c.below, c.tabs.within));
      size = refl;
      atoms = refl;
      down = omega arith;
      up = omega arith;
      only = only_same l eqs (from + n);
      inside = omega arith;
    }

-- its groups so far fit below the links
groups_fit : {l m : List ℕ} {from n eqs links i : ℕ} {t : Merging} (w : MergingAll l m from n eqs links i t) → eqs + length (words_of group_words w.gs) ≤ links
groups_fit w =
    omega (
      arith,
      w.asks.room,
      ap (λ (gs : List Group). length (words_of group_words gs)) w.grouping.groups ∙ length_words_append group_words w.gs (groups_of w.firsts w.left),
    )

-- ---- an atom is left

module _ {l m : List ℕ} {from n eqs links i : ℕ} {t : Merging} (w : MergingAll l m from n eqs links i t) where
  pub record Going : Type 0 where
    pub first : FirstTab w.left m (from + i) (n - i)
    pub first_is_lem : tab_at m (from + i) ≡ first.atom
    pub rest_is : behind m from n i ≡ first.rest
    pub some : 0 < size_at m (from + i)
    pub inside : i + size_at m (from + i) ≤ n
    pub begins : BeginsGood m (from + i)
    pub fits : length m < 2 ^ 64

  pub going : i < n → Going
  unfolding behind
  going h =
      let f = first_tab w.left m (from + i) (n - i) w.tabs (omega arith) in
      let z = f.size in
      let rest = f.after (from + i + size_at m (from + i)) (n - i - size_at m (from + i)) (omega (arith, z)) (omega (arith, z)) in
      record {
        first = f;
        first_is_lem = tab_is f.atom m (from + i) f.fits f.stands f.bare;
        rest_is = tabs_is m (from + i + size_at m (from + i)) (n - i - size_at m (from + i)) f.rest rest;
        some = omega (arith, z, f.some);
        inside = omega (arith, z, f.inside);
        begins = f.begins;
        fits = omega (arith, w.fits, w.only.size);
      }

module _ {l m : List ℕ} {from n eqs links i : ℕ} {t : Merging} {w : MergingAll l m from n eqs links i t} (g : Going w) where
  abbrev x : Tab
  x = g.first.atom

  abbrev xs : List Tab
  xs = g.first.rest

  all_is : tab_at m (from + i) ∷ behind m from n i ≡ w.left
  all_is = ap₂ (λ (a : Tab) (ts : List Tab). a ∷ ts) g.first_is_lem g.rest_is ∙ sym g.first.is

  grouping : Grouping (tabs_in l from n) w.gs (w.held ++ w.run) w.firsts (x ∷ xs)
  grouping = subst (λ (ts : List Tab). Grouping (tabs_in l from n) w.gs (w.held ++ w.run) w.firsts ts) g.first.is w.grouping

  linked : LinksAt w.buckets (x ∷ xs) i m links
  linked = subst (λ (ts : List Tab). LinksAt w.buckets ts i m links) g.first.is w.linked

  marks : MarksAt w.firsts (x ∷ xs) i m links
  marks = subst (λ (ts : List Tab). MarksAt w.firsts ts i m links) g.first.is w.marks

  marks_asked : MarksAt w.firsts (tab_at m (from + i) ∷ behind m from n i) i m links
  marks_asked = subst (λ (ts : List Tab). MarksAt w.firsts ts i m links) (sym all_is) w.marks

  seen_is : seen (tab_at m (from + i)) w.firsts ≡ seen x w.firsts
  seen_is = ap (λ (a : Tab). seen a w.firsts) g.first_is_lem

  group_is : group_words (group_of (tab_at m (from + i)) (behind m from n i)) ≡ group_words (group_of x xs)
  group_is = ap₂ (λ (a : Tab) (ts : List Tab). group_words (group_of a ts)) g.first_is_lem g.rest_is

  -- the atom starts a group
  module _ (f : seen (tab_at m (from + i)) w.firsts ≡ false) where
    new : Grouping (tabs_in l from n) (w.gs ++ group_of x xs ∷ []) ((w.held ++ w.run) ++ x ∷ []) (x ∷ w.firsts) xs
    new = grouping_keep grouping (sym seen_is ∙ f)

    gs_size : length (words_of group_words (w.gs ++ group_of x xs ∷ []))
        ≡ t.done.eqs + length (group_words (group_of (tab_at m (from + i)) (behind m from n i)))
    gs_size =
        length_words_append group_words w.gs (group_of x xs ∷ [])
        ∙ ap₂ ◌+◌ (sym w.size) (ap length (append-nil (group_words (group_of x xs))) ∙ ap length (sym group_is))

    eqs_fit : eqs + t.done.eqs + length (group_words (group_of (tab_at m (from + i)) (behind m from n i))) ≤ links
    eqs_fit =
        omega (
          arith,
          w.asks.room,
          gs_size,
          ap (λ (gs : List Group). length (words_of group_words gs)) new.groups
              ∙ length_words_append group_words (w.gs ++ group_of x xs ∷ []) (groups_of (x ∷ w.firsts) xs),
        )

  pub one_asks : MergeOneAsks m from n i eqs links t
  one_asks =
      record {
        firsts = w.firsts;
        tabs = subst (λ (ts : List Tab). TabsAt ts m (from + i) (n - i)) (sym all_is) w.tabs;
        buckets = w.buckets;
        linked = subst (λ (ts : List Tab). LinksAt w.buckets ts i m links) (sym all_is) w.linked;
        marks = marks_asked;
        inside = omega (arith, g.some, g.inside);
        small = w.asks.small;
        down = w.down;
        run = w.up;
        few = omega (
          arith,
          w.atoms,
          w.down,
          w.up,
          w.helds.size,
          w.runs.size,
          length-append w.held w.run,
          length_words tab_words 2 two_tab w.held,
          length_words tab_words 2 two_tab w.run,
        );
        below = w.asks.below;
        room = λ f. eqs_fit f;
      }

  -- ---- the atom is merged, and i₂ is behind it

  module _ {i₂ : ℕ} (ei : i₂ ≡ i + size_at m (from + i)) where
    rest_at : TabsAt xs m (from + i₂) (n - i₂)
    rest_at = g.first.after (from + i₂) (n - i₂) (omega (arith, g.first.size)) (omega (arith, g.first.size))

    i_is : i + length (tab_words x) ≡ i₂
    i_is = omega (arith, g.first.size)

    linked_on : LinksAt w.buckets xs i₂ m links
    unfolding LinksAt
    linked_on = subst (λ (j : ℕ). LinksAt w.buckets xs j m links) i_is linked.1

    marks_on : MarksAt w.firsts xs i₂ m links
    unfolding MarksAt
    marks_on = subst (λ (j : ℕ). MarksAt w.firsts xs j m links) i_is marks.1

    module _ {m₂ : List ℕ} {r : Merging} where
      dropped : seen (tab_at m (from + i)) w.firsts ≡ true → DroppedOne m m₂ from i t r → MergingAll l m₂ from n eqs links i₂ r
      dropped f k =
          let v : Moved w.held w.run m m₂ from i t.done.kept t.start = moved w.helds w.runs w.down w.up k.words in
          let o = v.only in
          let low : links + i₂ + length (words_of tab_words xs) < from + t.done.kept = omega (arith, rest_at.size, w.asks.below, ei, g.inside) in
          let fit = groups_fit w in
          let ks : w.held ++ w.run ≡ (w.held ++ w.run) ++ [] = sym (append-nil (w.held ++ w.run)) in
          record {
            asks = w.asks;
            fits = w.fits;
            gs = w.gs;
            held = w.held ++ w.run;
            run = [];
            firsts = w.firsts;
            left = xs;
            buckets = w.buckets;
            grouping =
                subst (λ (us : List Tab). Grouping (tabs_in l from n) w.gs us w.firsts xs) ks (grouping_drop grouping (sym seen_is ∙ f));
            tabs = tabs_after o rest_at (omega (arith, ei));
            linked = links_below m m₂ links o w.buckets xs i₂ low linked_on;
            marks = marks_below m m₂ links o w.firsts xs i₂ low marks_on;
            helds = tabs_to v.tabs refl (sym k.kept_end);
            runs = tabs_to (no_tabs m₂ (from + r.start) (omega (arith, k.start_end, g.inside, w.asks.tabs.within, w.only.size, o.size))) refl
                (omega (arith, k.start_end, ei));
            at = at_before o w.at (omega (arith, fit, w.asks.below));
            size = k.eqs_end ∙ w.size;
            atoms = k.atoms_end ∙ w.atoms ∙ ap length ks;
            down = omega (arith, k.kept_end, k.start_end, w.down, w.up);
            up = omega (arith, k.start_end, ei);
            only = only_then w.only (only_wide eqs (from + n) o (omega (arith, fit, w.asks.below)) (omega (arith, g.inside)));
            inside = omega (arith, g.inside);
          }

      stayed : seen (tab_at m (from + i)) w.firsts ≡ false → KeptOne m m₂ from n i eqs links t r → MergingAll l m₂ from n eqs links i₂ r
      stayed f k =
          let below = w.asks.below in
          let fit = eqs_fit f in
          let o : Only m m₂ (eqs + t.done.eqs) (links + n + 1) = k.group.only in
          let chained : LinksKept xs i₂ m m₂ links =
          subst (λ (ts : List Tab). LinksKept ts i₂ m m₂ links) g.rest_is
          (subst (λ (j : ℕ). LinksKept (behind m from n i) j m m₂ links) (sym ei) k.group.chained) in
          let marked : MarkedBy x xs i₂ m m₂ links =
          subst (λ (a : Tab). MarkedBy a xs i₂ m m₂ links) g.first_is_lem
          (subst (λ (ts : List Tab). MarkedBy (tab_at m (from + i)) ts i₂ m m₂ links) g.rest_is
          (subst (λ (j : ℕ). MarkedBy (tab_at m (from + i)) (behind m from n i) j m m₂ links) (sym ei) k.group.marks)) in
          let one : TabsAt (x ∷ []) m (from + i) (size_at m (from + i)) =
          record {
            fits = (g.first.fits, tt);
            bare = (g.first.bare, tt);
            size = g.first.size ∙ ap length (sym (append-nil (tab_words x)));
            at = subst (λ (ws : List ℕ). At ws m (from + i)) (sym (append-nil (tab_words x))) g.first.stands;
            within = omega (arith, g.first.stands.within, g.first.size);
          } in
          let longer : TabsAt (w.run ++ x ∷ []) m (from + t.start) (i - t.start + size_at m (from + i)) =
          tabs_join w.run (x ∷ []) m (from + t.start) (i - t.start) (from + i) (size_at m (from + i)) w.runs one (omega (arith, w.up)) in
          let ks : (w.held ++ w.run) ++ x ∷ [] ≡ w.held ++ (w.run ++ x ∷ []) = append_assoc w.held w.run (x ∷ []) in
          let group : At (words_of group_words (group_of x xs ∷ [])) m₂ (eqs + t.done.eqs) =
          subst (λ (ws : List ℕ). At ws m₂ (eqs + t.done.eqs)) (group_is ∙ sym (append-nil (group_words (group_of x xs)))) k.group.at in
          record {
            asks = w.asks;
            fits = w.fits;
            gs = w.gs ++ group_of x xs ∷ [];
            held = w.held;
            run = w.run ++ x ∷ [];
            firsts = x ∷ w.firsts;
            left = xs;
            buckets = w.buckets;
            grouping = subst (λ (us : List Tab). Grouping (tabs_in l from n) (w.gs ++ group_of x xs ∷ []) us (x ∷ w.firsts) xs) ks (new f);
            tabs = tabs_after o rest_at (omega (arith, below));
            linked = links_after m m₂ links w.buckets xs i₂ chained linked_on;
            marks = marks_after m m₂ links x w.firsts xs i₂ marked marks_on;
            helds = tabs_to (tabs_after o w.helds (omega (arith, below))) refl (sym k.kept_end);
            runs = tabs_to (tabs_after o longer (omega (arith, below))) (omega (arith, k.start_end)) (omega (arith, k.start_end, ei, w.up));
            at = subst (λ (ws : List ℕ). At ws m₂ eqs) (sym (words_append group_words w.gs (group_of x xs ∷ [])))
                (at_join (at_before o w.at (omega (arith, w.size))) group (omega (arith, w.size)));
            size = k.eqs_end ∙ ap (λ (y : ℕ). t.done.eqs + y) k.group.size ∙ sym (gs_size f);
            atoms = omega (arith, k.atoms_end, w.atoms, ap length ks, length-append (w.held ++ w.run) (x ∷ []));
            down = omega (arith, k.kept_end, k.start_end, w.down);
            up = omega (arith, k.start_end, ei, w.up);
            only = only_then w.only (only_wide eqs (from + n) o (omega arith) (omega (arith, below)));
            inside = omega (arith, g.inside);
          }

      pub merging_next : MergedOne m m₂ from n i eqs links t r → MergingAll l m₂ from n eqs links i₂ r
      merging_next o = go (seen (tab_at m (from + i)) w.firsts) refl (o.step w.firsts marks_asked)
        where
          go : (b : Bool) → seen (tab_at m (from + i)) w.firsts ≡ b → OneStep b m m₂ from n i eqs links t r → MergingAll l m₂ from n eqs links i₂ r
          go true e k = dropped e k
          go false e k = stayed e k

-- ---- none is left, and the last run moves

module _ {l m : List ℕ} {from n eqs links i : ℕ} {t : Merging} (w : MergingAll l m from n eqs links i t) where
  pub record Last : Type 0 where
    pub run : TabsAt w.run m (from + t.start) (n - t.start)
    pub groups : groups_of [] (tabs_in l from n) ≡ w.gs
    pub kept : keep [] (tabs_in l from n) ≡ w.held ++ w.run
    pub down : t.done.kept ≤ t.start
    pub up : t.start ≤ n
    pub within : from + t.start + (n - t.start) ≤ length m
    pub fits : length m < 2 ^ 64

  pub at_last : n ≤ i → Last
  at_last h =
      let none : w.left ≡ [] = no_tab_left w.left m (from + i) (n - i) w.tabs (omega arith) in
      let up : t.start ≤ n = omega (arith, w.up, w.inside) in
      record {
        run = tabs_to w.runs refl (omega (arith, w.inside, h));
        groups = w.grouping.groups ∙ ap (λ (ts : List Tab). w.gs ++ groups_of w.firsts ts) none ∙ append-nil w.gs;
        kept = w.grouping.kept ∙ ap (λ (ts : List Tab). (w.held ++ w.run) ++ keep w.firsts ts) none ∙ append-nil (w.held ++ w.run);
        down = w.down;
        up = up;
        within = omega (arith, w.only.size, w.asks.tabs.within);
        fits = omega (arith, w.fits, w.only.size);
      }

pub merging_end : {l m m₂ : List ℕ} {from n eqs links i q : ℕ} {t : Merging} {w : MergingAll l m from n eqs links i t} → Last w
    → (q ≡ t.done.kept + (n - t.start)) × (m₂ ≡ splice m (from + t.done.kept) (part m (from + t.start) (n - t.start)))
    → MergedAll l m₂ from n eqs links (record { eqs = t.done.eqs; kept = q; atoms = t.done.atoms })
merging_end {l} {m} {m₂} {from} {n} {eqs} {links} {i} {q} {t} {w} e em =
    let v : Moved w.held w.run m m₂ from n t.done.kept t.start = moved w.helds e.run e.down e.up em.1 in
    let fit = groups_fit w in
    record {
      groups = subst (λ (gs : List Group). At (words_of group_words gs) m₂ eqs) (sym e.groups) (at_before v.only w.at (omega (arith, fit, w.asks.below)));
      size = w.size ∙ ap (λ (gs : List Group). length (words_of group_words gs)) (sym e.groups);
      tabs = subst (λ (ts : List Tab). TabsAt ts m₂ from q) (sym e.kept) (subst (λ (k : ℕ). TabsAt (w.held ++ w.run) m₂ from k) (sym em.0) v.tabs);
      atoms = w.atoms ∙ ap length (sym e.kept);
      only = only_then w.only (only_wide eqs (from + n) v.only (omega (arith, fit, w.asks.below)) (omega arith));
    }

-- ---- a pass with its links

module _ {l : List ℕ} {from n eqs links table : ℕ} (c : PassAsks l from n eqs links table) where
  module _ {m : List ℕ} (k : Linked l m from n links table (n + 1)) where
    is : tabs_in m from n ≡ tabs_in l from n
    is = tabs_is m from n (tabs_in l from n) k.tabs

    pub linked_asks : MergeAsks m from n eqs links
    linked_asks =
        record {
          tabs = tabs_read m from n (tabs_in l from n) k.tabs;
          buckets = n + 1;
          linked = subst (λ (ts : List Tab). LinksAt (n + 1) ts 0 m links) (sym is) k.chained;
          marks = subst (λ (ts : List Tab). MarksAt [] ts 0 m links) (sym is) k.marks;
          small = c.small;
          below = c.below;
          room = subst (λ (ts : List Tab). eqs + length (words_of group_words (groups_of [] ts)) ≤ links) (sym is) c.room_eqs;
        }

    pub pass_ends : {m₂ : List ℕ} {r : Merged} → MergedAll m m₂ from n eqs links r → Passed l m₂ from n eqs table r
    pass_ends {m₂} {r} q =
        record {
          groups = subst (λ (ts : List Tab). At (words_of group_words (groups_of [] ts)) m₂ eqs) is q.groups;
          size = q.size ∙ ap (λ (ts : List Tab). length (words_of group_words (groups_of [] ts))) is;
          tabs = subst (λ (ts : List Tab). TabsAt (keep [] ts) m₂ from r.kept) is q.tabs;
          atoms = q.atoms ∙ ap (λ (ts : List Tab). length (keep [] ts)) is;
          only = only_then (only_wide eqs (table + n + 1) k.only (omega (arith, c.room_eqs)) (omega arith))
              (only_wide eqs (table + n + 1) q.only (omega arith) (omega (arith, c.beyond)));
        }
