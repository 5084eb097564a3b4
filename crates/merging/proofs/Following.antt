-- The loop of `group`, which follows the links of a bucket: what it has met and what is left are the atoms behind the first. Assumes nothing.
use mathlib.Core.Bool.{Bool, cond}
use mathlib.Core.List.{List, [], ◌++◌, ◌∷◌, append_assoc, append-nil}
use mathlib.Core.Path.{◌∙◌, ◌≡◌, ap, ap₂, refl, subst, sym}
use Prim.Native.Nat.{◌+◌, ◌-◌, ◌^◌, ◌<◌, ◌≤◌, ℕ}
use native.Mathlib.Omega.{arith}
use lib.ListN.{get_or, length, length-append}
use Rattle.octets.proofs.Places.{at_after, at_before, at_join, at_left, at_nil, at_splice, get_or_only_after, get_or_only_before}
use Rattle.octets.proofs.Places.{only_same, only_splice, only_then, only_wide}
use Rattle.octets.specs.Regions.{At, Only, splice}
use Rattle.rules.specs.Flat.{Tab, tab_words, words_of}
use Rattle.rules.specs.RemoveDupVars.{alike}
use Rattle.rules.specs.Signature.{same_term}
use Rattle.meaning.proofs.Lists.{length_words, length_words_append}
use Rattle.meaning.proofs.WordLaws.{two_tab}
use Rattle.bodies.specs.Buckets.{bucket_in}
use Rattle.bodies.specs.Standing.{TabAt, TabsAt, size_at, tab_at}
use Rattle.bodies.proofs.Standing.{tab_is, tab_there}
use Rattle.merging.specs.Chains.{LinksAt, next_in}
use Rattle.merging.specs.RemoveDupVars.{GroupAsks, Grouped, LinksKept, MarkedBy, Member, MemberAsks}
use Rattle.merging.specs.RemoveDupVars.{behind, cells_at, cells_of, group_for, marked, rights_of}
use Rattle.merging.proofs.Links.{Here, here, Elsewhere, unfound, Found, found, left_from, next_falls, tabs_right, links_right, kept_join, kept_after, kept_on}
use Rattle.merging.proofs.Marks.{marked_join, marked_elsewhere, marked_on, marked_only, marked_word}
use Rattle.merging.proofs.Groups.{rights_append, rights_elsewhere, rights_met, rights_few, group_more, group_some, group_none}

-- ---- the first atom stands, and its group has room

pub record Begun (l : List ℕ) (from n i links to : ℕ) : Type 0 where
  pub asks : GroupAsks l from n i links to
  pub first : Here l from n i
  pub room : to + length (rights_of (tab_at l (from + i)) (behind l from n i)) ≤ links
  pub link : links + i + 1 < length l
  pub fits : length l < 2 ^ 64

pub begun : {l : List ℕ} {from n i links to : ℕ} → GroupAsks l from n i links to → length l < 2 ^ 64 → Begun l from n i links to
begun {l} {from} {n} {i} asks fits =
    let h = here asks.tabs asks.inside in
    record {
      asks = asks;
      first = h;
      room = omega (arith, asks.room, group_more (tab_at l (from + i)).out (rights_of (tab_at l (from + i)) (behind l from n i)));
      link = omega (arith, h.top, h.inside, asks.below);
      fits = fits;
    }

-- ---- links are followed: `done` are met, k words of them are written, and the next link, `next`, leads into `left`

pub record Following (l m : List ℕ) (from n i links to next k : ℕ) : Type 0 where
  pub begun : Begun l from n i links to
  pub buckets : ℕ
  pub done : List Tab
  pub left : List Tab
  pub off : ℕ
  pub same : behind l from n i ≡ done ++ left
  pub tabs : TabsAt left l (from + off) (n - off)
  pub linked : LinksAt buckets left off l links
  pub next_is : next ≡ next_in buckets (bucket_in buckets (tab_at l (from + i))) left off
  pub cells : At (rights_of (tab_at l (from + i)) done) m (to + 2)
  pub size : k ≡ length (rights_of (tab_at l (from + i)) done)
  pub marks : MarkedBy (tab_at l (from + i)) done (i + size_at l (from + i)) l m links
  pub chained : LinksKept done (i + size_at l (from + i)) l m links
  pub only : Only l m to (links + off + 1)
  pub off_is : off ≡ i + size_at l (from + i) + length (words_of tab_words done)
  pub inside : off ≤ n

pub follow_start : {l : List ℕ} {from n i links to : ℕ} → Begun l from n i links to → {next : ℕ} → next ≡ get_or l (links + i + 1) 0
    → Following l l from n i links to next 0
unfolding LinksAt MarkedBy LinksKept
follow_start {l} {from} {n} {i} {links} {to} b e =
    let c = b.asks in
    let z = b.first.size in
    let i₂ : i + length (tab_words (tab_at l (from + i))) ≡ i + size_at l (from + i) = omega (arith, z) in
    let one = length-append (tab_words (tab_at l (from + i))) [] in
    record {
      begun = b;
      buckets = c.buckets;
      done = [];
      left = behind l from n i;
      off = i + size_at l (from + i);
      same = refl;
      tabs = tabs_right (tab_at l (from + i) ∷ []) (behind l from n i) c.tabs (omega (arith, z, one)) (omega (arith, z, one));
      linked = subst (λ (x : ℕ). LinksAt c.buckets (behind l from n i) x l links) i₂ c.linked.1;
      next_is = e ∙ c.linked.0 ∙ ap (next_in c.buckets (bucket_in c.buckets (tab_at l (from + i))) (behind l from n i)) i₂;
      cells = at_nil l (to + 2) (omega (arith, b.room, b.first, c.below));
      size = refl;
      marks = tt;
      chained = tt;
      only = only_same l to (links + (i + size_at l (from + i)) + 1);
      off_is = omega arith;
      inside = omega (arith, b.first.inside);
    }

module _ {l m : List ℕ} {from n i links to next k : ℕ} (w : Following l m from n i links to next k) where
  -- the first atom, which stands where it stood, and where those behind it start
  abbrev a : Tab
  a = tab_at l (from + i)

  abbrev start : ℕ
  start = i + size_at l (from + i)

  first_stands : At (tab_words a) m (from + i)
  first_stands = at_after w.only w.begun.first.stands (omega (arith, w.begun.asks.below, w.inside))

  first_is_lem : tab_at m (from + i) ≡ a
  first_is_lem = tab_is a m (from + i) w.begun.first.fits first_stands w.begun.first.bare

  first_there : TabAt m (from + i)
  first_there = tab_there a m (from + i) w.begun.first.fits first_stands

  rights_are : rights_of a (behind l from n i) ≡ rights_of a w.done ++ rights_of a w.left
  rights_are = ap (rights_of a) w.same ∙ rights_append a w.done w.left

  room_left : to + k ≤ links
  room_left = omega (arith, w.begun.room, w.size, ap length rights_are ∙ length-append (rights_of a w.done) (rights_of a w.left))

  -- ---- a link leads to one more, at offset j

  pub record Met (j : ℕ) : Type 0 where
    pub link : next ≡ j + 1
    pub to_it : Found w.buckets (bucket_in w.buckets a) w.left w.off next
    pub there : TabsAt (to_it.atom ∷ to_it.rest) l (from + j) (n - j)
    pub is : tab_at m (from + j) ≡ to_it.atom
    pub offset : j ≡ w.off + length (words_of tab_words to_it.skip)
    pub end : j + length (tab_words to_it.atom) ≤ n
    pub inside : j + 1 < n
    pub low : 2 ≤ j
    pub room : to + k ≤ links
    pub below : links + n + 1 ≤ from
    pub fits : from + n < 2 ^ 64
    pub mark : links + j + 2 < length m
    pub asks : MemberAsks m (from + i) (from + j) (links + j + 2) (to + 2 + k)

  pub met : {j : ℕ} → next ≡ j + 1 → Met j
  met {j} h =
      let b = w.begun in
      let f : Found w.buckets (bucket_in w.buckets a) w.left w.off next =
      found w.buckets (bucket_in w.buckets a) w.left w.off next w.next_is (λ (z : next ≡ 0). omega arith) in
      let o : j ≡ w.off + length (words_of tab_words f.skip) = omega (arith, f.at) in
      let end : j + length (tab_words f.atom) ≤ n =
      omega (
        arith,
        o,
        w.inside,
        w.tabs.size,
        ap (λ (ts : List Tab). length (words_of tab_words ts)) f.is ∙ length_words_append tab_words f.skip (f.atom ∷ f.rest),
        length-append (tab_words f.atom) (words_of tab_words f.rest),
      ) in
      let there : TabsAt (f.atom ∷ f.rest) l (from + j) (n - j) =
      tabs_right f.skip (f.atom ∷ f.rest) (subst (λ (ts : List Tab). TabsAt ts l (from + w.off) (n - w.off)) f.is w.tabs)
      (omega (arith, o)) (omega (arith, o)) in
      let stands : At (tab_words f.atom) m (from + j) =
      at_after w.only (at_left (words_of tab_words f.rest) there.at) (omega (arith, b.asks.below, o, w.inside)) in
      let inside : j + 1 < n = omega (arith, end, two_tab f.atom, f.at) in
      let low : 2 ≤ j = omega (arith, o, w.off_is, b.first.two) in
      record {
        link = h;
        to_it = f;
        there = there;
        is = tab_is f.atom m (from + j) there.fits.0 stands there.bare.0;
        offset = o;
        end = end;
        inside = inside;
        low = low;
        room = room_left;
        below = b.asks.below;
        fits = omega (arith, b.first.top, b.fits);
        mark = omega (arith, b.asks.below, b.first.top, w.only.size);
        asks =
            record {
              first = first_there;
              later = tab_there f.atom m (from + j) there.fits.0 stands;
              apart = omega (arith, room_left);
              below = omega (arith, b.asks.below);
              behind = omega (arith, o, w.off_is);
            };
      }

-- ---- it is a member, or it is not: r words are written of it, which leaves m₂

module _ {l m : List ℕ} {from n i links to next k : ℕ} {w : Following l m from n i links to next k} {j : ℕ} (g : Met w j) where
  abbrev its : Found w.buckets (bucket_in w.buckets (a w)) w.left w.off next
  its = g.to_it

  -- those met before it
  abbrev past : List Tab
  past = w.done ++ its.skip

  -- what is written of it
  abbrev new : List ℕ
  new = cells_of (alike (a w) its.atom) (same_term (a w).out its.atom.out) its.atom.out

  abbrev mid : List ℕ
  mid = marked (alike (a w) its.atom) m (links + j + 2)

  behind_are : behind l from n i ≡ (past ++ its.atom ∷ []) ++ its.rest
  behind_are =
      w.same ∙ ap (λ (ts : List Tab). w.done ++ ts) its.is ∙ sym (append_assoc w.done its.skip (its.atom ∷ its.rest))
      ∙ sym (append_assoc past (its.atom ∷ []) its.rest)

  rights_then : rights_of (a w) (past ++ its.atom ∷ []) ≡ rights_of (a w) w.done ++ new
  rights_then = rights_met w.buckets (a w) w.done its.skip its.atom its.none

  size_then : length (rights_of (a w) (past ++ its.atom ∷ [])) ≡ k + length new
  size_then = ap length rights_then ∙ length-append (rights_of (a w) w.done) new ∙ ap (λ (x : ℕ). x + length new) (sym w.size)

  room_then : to + k + length new ≤ links
  room_then =
      omega (
        arith,
        w.begun.room,
        size_then,
        ap length (ap (rights_of (a w)) behind_are ∙ rights_append (a w) (past ++ its.atom ∷ []) its.rest)
            ∙ length-append (rights_of (a w) (past ++ its.atom ∷ [])) (rights_of (a w) its.rest),
      )

  pub record Stepped (m₂ : List ℕ) (r : ℕ) : Type 0 where
    pub size : r ≡ length new
    pub words : m₂ ≡ splice mid (to + 2 + k) new
    pub marking : Only m mid (links + j + 2) (links + j + 3)
    pub writing : Only mid m₂ (to + 2 + k) (to + 2 + k + length new)
    pub within : to + 2 + k + length new ≤ length mid
    pub link : links + j + 1 < length m₂
    pub few : k + r ≤ links
    pub fits : links < 2 ^ 64

  pub stepped : {m₂ : List ℕ} {r : ℕ} → Member m m₂ (from + i) (from + j) (links + j + 2) (to + 2 + k) r → Stepped m₂ r
  stepped {m₂} {r} d =
      let cells : cells_at m (from + i) (from + j) ≡ new =
      ap₂ (λ (x y : Tab). cells_of (alike x y) (same_term x.out y.out) y.out) (first_is_lem w) g.is in
      let are : m₂ ≡ splice mid (to + 2 + k) new =
      d.words
      ∙ ap₂ (λ (b : Bool) (ws : List ℕ). splice (marked b m (links + j + 2)) (to + 2 + k) ws) (ap₂ alike (first_is_lem w) g.is) cells in
      let marking : Only m mid (links + j + 2) (links + j + 3) =
      only_wide (links + j + 2) (links + j + 3) (marked_only (alike (a w) its.atom) m (links + j + 2) g.mark) (omega arith) (omega arith) in
      let within : to + 2 + k + length new ≤ length mid = omega (arith, room_then, marking.size, g.mark, g.low) in
      let writing : Only mid m₂ (to + 2 + k) (to + 2 + k + length new) =
      subst (λ (x : List ℕ). Only mid x (to + 2 + k) (to + 2 + k + length new)) (sym are)
      (only_splice mid (to + 2 + k) new (to + 2 + k + length new) refl within) in
      let size : r ≡ length new = d.size ∙ ap length cells in
      record {
        size = size;
        words = are;
        marking = marking;
        writing = writing;
        within = within;
        link = omega (arith, writing.size, marking.size, g.mark);
        few = omega (arith, room_then, size);
        fits = omega (arith, g.below, g.fits);
      }

module _ {l m : List ℕ} {from n i links to next k : ℕ} {w : Following l m from n i links to next k} {j : ℕ} {g : Met w j}
    {m₂ : List ℕ} {r : ℕ} (s : Stepped g m₂ r) where
  low_words : (p : ℕ) → links + 2 ≤ p → p ≤ links + j → get_or m₂ p 0 ≡ get_or m p 0
  low_words p x y = get_or_only_after p s.writing (omega (arith, room_then g)) ∙ get_or_only_before p s.marking (omega (arith, g.low))

  start_low : 2 ≤ start w
  start_low = omega (arith, w.begun.first.two)

  past_end : start w + length (words_of tab_words (past g)) ≡ j
  past_end = omega (arith, g.offset, w.off_is, length_words_append tab_words w.done (its g).skip)

  marks_past : MarkedBy (a w) (past g) (start w) l m₂ links
  marks_past =
      marked_on (a w) l m links m₂ j low_words (past g) (start w) start_low (omega (arith, past_end))
      (marked_join (a w) l m links w.done (its g).skip (start w) w.off w.marks
      (marked_elsewhere (a w) l m links w.only w.buckets (its g).skip w.off (omega arith) (its g).none) w.off_is)

  chained_past : LinksKept (past g) (start w) l m₂ links
  chained_past =
      kept_on l m links m₂ j low_words (past g) (start w) start_low (omega (arith, past_end))
      (kept_join l m links w.done (its g).skip (start w) w.off w.chained (kept_after l m links w.only (its g).skip w.off (omega arith)) w.off_is)

  mark_word : get_or m₂ (links + j + 2) 0 ≡ cond (alike (a w) (its g).atom) 1 (get_or l (links + j + 2) 0)
  mark_word =
      get_or_only_after (links + j + 2) s.writing (omega (arith, room_then g, g.low))
      ∙ marked_word (alike (a w) (its g).atom) m (links + j + 2) g.mark
      ∙ ap (λ (x : ℕ). cond (alike (a w) (its g).atom) 1 x) (get_or_only_after (links + j + 2) w.only (omega (arith, g.offset, g.low)))

  link_word : get_or m₂ (links + j + 1) 0 ≡ get_or l (links + j + 1) 0
  link_word =
      get_or_only_after (links + j + 1) s.writing (omega (arith, room_then g, g.low)) ∙ get_or_only_before (links + j + 1) s.marking (omega arith)
      ∙ get_or_only_after (links + j + 1) w.only (omega (arith, g.offset, g.low))

  marks_here : MarkedBy (a w) ((its g).atom ∷ []) j l m₂ links
  unfolding MarkedBy
  marks_here = (mark_word, tt)

  chained_here : LinksKept ((its g).atom ∷ []) j l m₂ links
  unfolding LinksKept
  chained_here = (link_word, tt)

  linked_here : LinksAt w.buckets ((its g).atom ∷ (its g).rest) j l links
  linked_here =
      links_right w.buckets (its g).skip ((its g).atom ∷ (its g).rest) w.off j l links
      (subst (λ (ts : List Tab). LinksAt w.buckets ts w.off l links) (its g).is w.linked) g.offset

  -- the link behind it is read
  module _ {next₂ : ℕ} (e : next₂ ≡ get_or m₂ (links + j + 1) 0) where
    next_after : next₂ ≡ next_in w.buckets (bucket_in w.buckets (a w)) (its g).rest (j + length (tab_words (its g).atom))
    unfolding LinksAt
    next_after =
        e ∙ link_word ∙ linked_here.0
        ∙ ap (λ (b : ℕ). next_in w.buckets b (its g).rest (j + length (tab_words (its g).atom))) (its g).bucket

    pub follow_falls : left_from n next₂ < left_from n next
    follow_falls =
        subst (λ (x : ℕ). left_from n next₂ < left_from n x) (sym g.link)
        (subst (λ (x : ℕ). left_from n x < left_from n (j + 1)) (sym next_after)
        (next_falls w.buckets (bucket_in w.buckets (a w)) n j (its g).rest (j + length (tab_words (its g).atom))
        (omega (arith, g.inside)) (omega (arith, two_tab (its g).atom))))

    pub follow_next : Following l m₂ from n i links to next₂ (k + r)
    unfolding LinksAt
    follow_next =
        let t : Tab = (its g).atom in
        let one = length-append (tab_words (its g).atom) [] in
        let off₂ : ℕ = j + length (tab_words (its g).atom) in
        let put : At (new g) m₂ (to + 2 + k) =
        subst (λ (x : List ℕ). At (new g) x (to + 2 + k)) (sym s.words) (at_splice (mid g) (to + 2 + k) (new g) s.within) in
        let old : At (rights_of (a w) w.done) m₂ (to + 2) =
        at_before s.writing (at_before s.marking w.cells (omega (arith, w.size, g.room, g.low))) (omega (arith, w.size)) in
        let ends : start w + length (words_of tab_words (past g ++ (its g).atom ∷ [])) ≡ j + length (tab_words (its g).atom) =
        omega (arith, past_end, one, length_words_append tab_words (past g) ((its g).atom ∷ [])) in
        record {
          begun = w.begun;
          buckets = w.buckets;
          done = past g ++ (its g).atom ∷ [];
          left = (its g).rest;
          off = j + length (tab_words (its g).atom);
          same = behind_are g;
          tabs = tabs_right ((its g).atom ∷ []) (its g).rest g.there (omega (arith, one)) (omega (arith, one));
          linked = linked_here.1;
          next_is = next_after;
          cells = subst (λ (ws : List ℕ). At ws m₂ (to + 2)) (sym (rights_then g)) (at_join old put (omega (arith, w.size)));
          size = ap (λ (x : ℕ). k + x) s.size ∙ sym (size_then g);
          marks = marked_join (a w) l m₂ links (past g) ((its g).atom ∷ []) (start w) j marks_past marks_here (sym past_end);
          chained = kept_join l m₂ links (past g) ((its g).atom ∷ []) (start w) j chained_past chained_here (sym past_end);
          only = only_then (only_wide to (links + off₂ + 1) w.only (omega arith) (omega (arith, g.offset)))
              (only_then (only_wide to (links + off₂ + 1) s.marking (omega (arith, g.room)) (omega (arith, two_tab t, g.low)))
              (only_wide to (links + off₂ + 1) s.writing (omega arith) (omega (arith, room_then g, g.low))));
          off_is = sym ends;
          inside = g.end;
        }

-- ---- the last link is followed

module _ {l m : List ℕ} {from n i links to next k : ℕ} (w : Following l m from n i links to next k) where
  pub record Ended : Type 0 where
    pub rights : rights_of (a w) (behind l from n i) ≡ rights_of (a w) w.done
    pub marks : MarkedBy (a w) (behind l from n i) (start w) l m links
    pub chained : LinksKept (behind l from n i) (start w) l m links
    pub size : k ≡ length (rights_of (a w) (behind l from n i))
    pub only : Only l m to (links + n + 1)
    pub first : TabAt m (from + i)
    pub few : k ≤ n
    pub small : n < 0x1000_0000
    pub here : from + i < 2 ^ 64
    pub room : to + 2 ≤ length m

  pub followed : next ≡ 0 → Ended
  followed h =
      let b = w.begun in
      let none : Elsewhere w.buckets (bucket_in w.buckets (a w)) w.left =
      unfound w.buckets (bucket_in w.buckets (a w)) w.left w.off (sym w.next_is ∙ h) in
      let rights : rights_of (a w) (behind l from n i) ≡ rights_of (a w) w.done =
      rights_are w ∙ ap (λ (us : List ℕ). rights_of (a w) w.done ++ us) (rights_elsewhere w.buckets (a w) w.left none)
      ∙ append-nil (rights_of (a w) w.done) in
      record {
        rights = rights;
        marks =
            subst (λ (ts : List Tab). MarkedBy (a w) ts (start w) l m links) (sym w.same)
            (marked_join (a w) l m links w.done w.left (start w) w.off w.marks
            (marked_elsewhere (a w) l m links w.only w.buckets w.left w.off (omega arith) none) w.off_is);
        chained =
            subst (λ (ts : List Tab). LinksKept ts (start w) l m links) (sym w.same)
            (kept_join l m links w.done w.left (start w) w.off w.chained (kept_after l m links w.only w.left w.off (omega arith)) w.off_is);
        size = w.size ∙ ap length (sym rights);
        only = only_wide to (links + n + 1) w.only (omega arith) (omega (arith, w.inside));
        first = first_there w;
        few = omega (arith, w.size, rights_few (a w) w.done, length_words tab_words 2 two_tab w.done, w.off_is, w.inside);
        small = b.asks.small;
        here = omega (arith, b.first.top, b.asks.inside, b.fits);
        room = omega (arith, b.room, b.first, b.asks.below, w.only.size);
      }

module _ {l m : List ℕ} {from n i links to next k : ℕ} {w : Following l m from n i links to next k} (f : Ended w) where
  -- no equality is written
  pub follow_none : k ≡ 0 → Grouped l m from n i links to 0
  follow_none e =
      let g : group_for (a w).out (rights_of (a w) (behind l from n i)) ≡ [] = group_none (a w).out (rights_of (a w) (behind l from n i)) (sym f.size ∙ e) in
      record {
        at = subst (λ (ws : List ℕ). At ws m to) (sym g) (at_nil m to (omega (arith, f.room)));
        size = ap length (sym g);
        marks = f.marks;
        chained = f.chained;
        only = f.only;
      }

  -- they are, behind the first output, x, and their count
  pub follow_some : {x : ℕ} {m₂ : List ℕ} → (k ≡ 0 → ⊥) → x ≡ (tab_at m (from + i)).out → m₂ ≡ splice m to (x ∷ k ∷ []) → Grouped l m₂ from n i links to (k + 2)
  follow_some {x} {m₂} e ex em =
      let b = w.begun in
      let rs : List ℕ = rights_of (a w) (behind l from n i) in
      let some : length (rights_of (a w) (behind l from n i)) ≡ 0 → ⊥ = λ z. e (f.size ∙ z) in
      let is-out : (a w).out ≡ x = sym (ex ∙ ap (λ (t : Tab). t.out) (first_is_lem w)) in
      let g : group_for (a w).out rs ≡ x ∷ k ∷ rs = group_some (a w).out rs some ∙ ap₂ (λ (y z : ℕ). y ∷ z ∷ rs) is-out (sym f.size) in
      let o : Only m m₂ to (to + 2) =
      subst (λ (y : List ℕ). Only m y to (to + 2)) (sym em) (only_splice m to (x ∷ k ∷ []) (to + 2) (omega arith) f.room) in
      let head : At (x ∷ k ∷ []) m₂ to = subst (λ (y : List ℕ). At (x ∷ k ∷ []) y to) (sym em) (at_splice m to (x ∷ k ∷ []) f.room) in
      let tail : At rs m₂ (to + 2) = at_after o (subst (λ (ws : List ℕ). At ws m (to + 2)) (sym f.rights) w.cells) (omega arith) in
      let same : (j : ℕ) → links + 2 ≤ j → j ≤ links + n → get_or m₂ j 0 ≡ get_or m j 0 =
      λ j y z. let u : to + 2 ≤ j = omega (arith, b.room) in get_or_only_after j o u in
      let low : 2 ≤ start w = omega (arith, b.first.two) in
      record {
        at = subst (λ (ws : List ℕ). At ws m₂ to) (sym g) (at_join head tail (omega arith));
        size = omega (arith, f.size) ∙ ap length (sym g);
        marks = marked_on (a w) l m links m₂ n same (behind l from n i) (start w) low b.first.inside f.marks;
        chained = kept_on l m links m₂ n same (behind l from n i) (start w) low b.first.inside f.chained;
        only = only_then f.only (only_wide to (links + n + 1) o (omega arith) (omega (arith, b.room, b.first)));
      }
