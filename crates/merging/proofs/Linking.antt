-- Linking the atoms of a pass: the stores of one atom, and the walk over all of them. Assumes nothing.
use mathlib.Core.Bool.{Bool, cond, false, true}
use mathlib.Core.List.{List, [], ◌++◌, ◌∷◌, append_assoc, append-nil}
use mathlib.Core.Path.{◌∙◌, ◌≡◌, ap, refl, subst, sym}
use Prim.Native.Nat.{◌+◌, ◌-◌, ◌<◌, ◌≤◌, suc, ℕ}
use native.Mathlib.Omega.{arith}
use lib.Dec.{eqb}
use lib.ListN.{get_or, get_or-replicate, length, length-append, length-replicate, length-set, replicate, set}
use lib.Seq.{get_or-set_other, get_or-set_same}
use borrow.Author.Tests.{eqb-false, eqb-true}
use Rattle.octets.proofs.Places.{at_left, only_same, only_splice, only_then, only_wide}
use Rattle.octets.proofs.Splice.{get_or_splice_before, get_or_splice_inside, part_same, splice_one, splice_snoc}
use Rattle.octets.specs.Regions.{At, Only, part, splice}
use Rattle.rules.specs.Flat.{Tab, tab_words, words_of}
use Rattle.rules.specs.Words.{head_word}
use Rattle.meaning.proofs.Lists.{length_words_append}
use Rattle.meaning.proofs.WordLaws.{length_tab}
use Rattle.meaning.specs.ReadBack.{EncodableTab}
use Rattle.bodies.specs.Buckets.{bucket_in, bucket_of, key_of}
use Rattle.words.specs.Atom.{atom_size}
use Rattle.bodies.specs.Standing.{TabsAt, size_at, tabs_in}
use Rattle.bodies.proofs.BucketLaws.{bucket_in_lem}
use Rattle.bodies.proofs.Standing.{FirstTab, first_tab, no_tab_left, none_passed, size_tab, tabs_is, tabs_read}
use Rattle.merging.specs.Chains.{LinkAsks, LinkOneAsks, Linked, LinkedOne, LinksAt, MarksAt, bucket_at, last_in}
use Rattle.merging.proofs.ChainLaws.{Step, last_most, last_snoc, links_snoc, marks_snoc}

-- ---- one atom

bucket_there : (count : ℕ) (l : List ℕ) (p : ℕ) → 0 < count → bucket_at count l p < count
unfolding bucket_at
bucket_there count l p h = bucket_in_lem count (key_of (part l p (size_at l p - 1))) h

-- as the code comes to it
bucket_told : (count : ℕ) (l : List ℕ) (p z key b : ℕ) → z ≡ size_at l p → key ≡ key_of (part l p (z - 1)) → b ≡ bucket_of count key
    → b ≡ bucket_at count l p
unfolding bucket_at
bucket_told count l p z key b e f g = g ∙ ap (bucket_of count) (f ∙ ap (λ (k : ℕ). key_of (part l p (k - 1))) e)

-- a pair is two stores
pair : (l : List ℕ) (p v w : ℕ) → p + 1 < length l → splice l p (v ∷ w ∷ []) ≡ set (set l p v) (p + 1) w
pair l p v w h = sym (ap (λ (x : List ℕ). set x (p + 1) w) (splice_one l p v (omega arith)) ∙ splice_snoc l p (v ∷ []) (p + 1) w refl h)

set_only : (l : List ℕ) (p w a e : ℕ) → a ≤ p → p < e → p < length l → Only l (set l p w) a e
set_only l p w a e h k u =
    only_wide a e (subst (λ (x : List ℕ). Only l x p (p + 1)) (sym (splice_one l p w u)) (only_splice l p (w ∷ []) (p + 1) refl (omega arith))) h (omega arith)

-- four stores, each behind the one before
record Stored (l m : List ℕ) (a b c d v : ℕ) : Type 0 where
  first : get_or m a 0 ≡ v
  second : get_or m b 0 ≡ 0
  third : get_or m c 0 ≡ 0
  fourth : get_or m d 0 ≡ v
  others : (j : ℕ) → (j ≡ a → ⊥) → (j ≡ b → ⊥) → (j ≡ c → ⊥) → (j ≡ d → ⊥) → get_or m j 0 ≡ get_or l j 0
  only : (p q : ℕ) → p ≤ a → d < q → Only l m p q

stored : (l : List ℕ) (a b c d v : ℕ) → a < b → b < c → c < d → d < length l → Stored l (set (set (set (set l a v) b 0) c 0) d v) a b c d v
stored l a b c d v ab bc cd dl =
    let one : List ℕ = set l a v in
    let two : List ℕ = set (set l a v) b 0 in
    let three : List ℕ = set (set (set l a v) b 0) c 0 in
    let n1 : length one ≡ length l = length-set l a v in
    let n2 : length two ≡ length l = length-set one b 0 ∙ n1 in
    let n3 : length three ≡ length l = length-set two c 0 ∙ n2 in
    record {
      first = get_or-set_other three d a v 0 (λ e. absurd (omega (arith, e))) ∙ get_or-set_other two c a 0 0 (λ e. absurd (omega (arith, e)))
          ∙ get_or-set_other one b a 0 0 (λ e. absurd (omega (arith, e))) ∙ get_or-set_same l a v 0 (omega arith);
      second = get_or-set_other three d b v 0 (λ e. absurd (omega (arith, e))) ∙ get_or-set_other two c b 0 0 (λ e. absurd (omega (arith, e)))
          ∙ get_or-set_same one b 0 0 (omega (arith, n1));
      third = get_or-set_other three d c v 0 (λ e. absurd (omega (arith, e))) ∙ get_or-set_same two c 0 0 (omega (arith, n2));
      fourth = get_or-set_same three d v 0 (omega (arith, n3));
      others = λ j na nb nc nd.
          get_or-set_other three d j v 0 nd ∙ get_or-set_other two c j 0 0 nc ∙ get_or-set_other one b j 0 0 nb ∙ get_or-set_other l a j v 0 na;
      only = λ p q h k.
          only_then (set_only l a v p q h (omega arith) (omega arith))
          (only_then (set_only one b 0 p q (omega arith) (omega arith) (omega (arith, n1)))
          (only_then (set_only two c 0 p q (omega arith) (omega arith) (omega (arith, n2))) (set_only three d v p q (omega arith) k (omega (arith, n3)))));
    }

-- the bucket b of the atom is found, and the last atom in it, old
pub record Told (l : List ℕ) (from i links table count b old : ℕ) : Type 0 where
  pub asks : LinkOneAsks l from i links table count
  pub bucket : b ≡ bucket_at count l (from + i)
  pub last : old ≡ get_or l (table + b) 0
  pub before : old ≤ i
  pub links_in : links + i + 3 ≤ length l
  pub beyond : links + i + 2 < table + b
  pub in_table : b < count
  pub table_in : table + b < length l

pub told : {l : List ℕ} {from i links table count : ℕ} → LinkOneAsks l from i links table count → {z key b old : ℕ} {ws : List ℕ}
    → z ≡ size_at l (from + i) → ws ≡ part l (from + i) (z - 1) → key ≡ key_of ws → b ≡ bucket_of count key → old ≡ get_or l (table + b) 0
    → Told l from i links table count b old
told {l} {from} {i} {links} {table} {count} asks {z} {key} {b} {old} ez ew ek eb eo =
    let e : b ≡ bucket_at count l (from + i) = bucket_told count l (from + i) z key b ez (ek ∙ ap key_of ew) eb in
    let o : old ≡ get_or l (table + bucket_at count l (from + i)) 0 = eo ∙ ap (λ (k : ℕ). get_or l (table + k) 0) e in
    let in_table : b < count = omega (arith, bucket_there count l (from + i) asks.some) in
    record {
      asks = asks;
      bucket = e;
      last = eo;
      before = omega (arith, asks.last);
      links_in = omega (arith, asks.below, asks.begins.inside);
      beyond = omega (arith, asks.below, asks.beyond);
      in_table = in_table;
      table_in = omega (arith, asks.room);
    }

module _ {l : List ℕ} {from i links table count b old : ℕ} (t : Told l from i links table count b old) where
  abbrev stores : List ℕ
  stores = set (set (set (set l (links + old) (i + 1)) (links + i + 1) 0) (links + i + 2) 0) (table + b) (i + 1)

  linked_stores : LinkedOne l stores from i links table count
  linked_stores =
      let place : table + b ≡ table + bucket_at count l (from + i) = ap (λ (k : ℕ). table + k) t.bucket in
      let last : links + old ≡ links + get_or l (table + bucket_at count l (from + i)) 0 =
      ap (λ (k : ℕ). links + k) (t.last ∙ ap (λ (k : ℕ). get_or l k 0) place) in
      let f =
      stored l (links + old) (links + i + 1) (links + i + 2) (table + b) (i + 1) (omega (arith, t.before)) (omega arith) t.beyond t.table_in in
      record {
        before = sym (ap (λ (k : ℕ). get_or stores k 0) last) ∙ f.first;
        link = f.second;
        mark = f.third;
        newest = sym (ap (λ (k : ℕ). get_or stores k 0) place) ∙ f.fourth;
        others = λ j x y z u. f.others j (λ e. x (e ∙ last)) y z (λ e. u (e ∙ place));
        only = f.only links (table + count) (omega arith) (omega (arith, t.in_table));
      }

  -- the last one leads to it, which leaves l₁
  module _ {l₁ : List ℕ} (e₁ : l₁ ≡ set l (links + old) (i + 1)) where
    first_size : length l₁ ≡ length l
    first_size = ap length e₁ ∙ length-set l (links + old) (i + 1)

    pub pair_in : links + i + 1 + 2 ≤ length l₁
    pair_in = omega (arith, first_size, t.links_in)

    -- its own link and mark are 0, which leaves l₂
    module _ {l₂ : List ℕ} (e₂ : l₂ ≡ splice l₁ (links + i + 1) (0 ∷ 0 ∷ [])) where
      -- and it is the last one now
      pub linked_one : {m : List ℕ} → m ≡ set l₂ (table + b) (i + 1) → LinkedOne l m from i links table count
      linked_one {m} e₃ =
          let next : links + i + 1 + 1 ≡ links + i + 2 = omega arith in
          let two : l₂ ≡ set (set l₁ (links + i + 1) 0) (links + i + 2) 0 =
          e₂ ∙ pair l₁ (links + i + 1) 0 0 (omega (arith, pair_in)) ∙ ap (λ (k : ℕ). set (set l₁ (links + i + 1) 0) k 0) next in
          let all : m ≡ stores =
          e₃ ∙ ap (λ (x : List ℕ). set x (table + b) (i + 1)) (two ∙ ap (λ (x : List ℕ). set (set x (links + i + 1) 0) (links + i + 2) 0) e₁) in
          subst (λ (x : List ℕ). LinkedOne l x from i links table count) (sym all) linked_stores

-- ---- an atom that stands has the bucket that its words tell

bucket_tab : (count : ℕ) (t : Tab) (l : List ℕ) (p : ℕ) → EncodableTab t → At (tab_words t) l p → bucket_at count l p ≡ bucket_in count t
unfolding bucket_at bucket_in
bucket_tab count t l p f s =
    let ws : List ℕ = head_word t.head (suc (length t.ins)) ∷ t.ins in
    let n : size_at l p - 1 ≡ length ws = omega (arith, size_tab t f l p s, length_tab t) in
    let front : At ws l p = at_left (t.out ∷ []) s in
    ap (λ (x : List ℕ). bucket_of count (key_of x)) (ap (λ (k : ℕ). part l p k) n ∙ front.words)

-- words that are as they were
tabs_same : {ts : List Tab} {l m : List ℕ} {p n : ℕ} → TabsAt ts l p n → length m ≡ length l → ((k : ℕ) → p ≤ k → k < p + n → get_or m k 0 ≡ get_or l k 0)
    → TabsAt ts m p n
tabs_same {ts} {l} {m} {p} {n} s e k =
    let size : length (words_of tab_words ts) ≡ n = sym s.size in
    let same : part m p (length (words_of tab_words ts)) ≡ part l p (length (words_of tab_words ts)) =
    part_same l m p (length (words_of tab_words ts)) e (λ i h u. k i h (subst (λ (z : ℕ). i < p + z) size u)) in
    record {
      fits = s.fits;
      bare = s.bare;
      size = s.size;
      at = record { within = omega (arith, e, s.at.within); words = same ∙ s.at.words };
      within = omega (arith, e, s.within);
    }

-- ---- all of them

-- the atoms before offset i are linked: m is as l but for links, marks and the table, which holds the last one of each bucket
pub record Linking (l m : List ℕ) (from n links table count i : ℕ) : Type 0 where
  pub asks : LinkAsks l from n links table count
  pub done : List Tab
  pub left : List Tab
  pub whole : tabs_in l from n ≡ done ++ left
  pub offset : i ≡ length (words_of tab_words done)
  pub inside : i ≤ n
  pub stand : TabsAt left l (from + i) (n - i)
  pub same : (k : ℕ) → from ≤ k → k < from + n → get_or m k 0 ≡ get_or l k 0
  pub chained : LinksAt count done 0 m links
  pub marks : MarksAt [] done 0 m links
  pub lasts : (b : ℕ) → b < count → get_or m (table + b) 0 ≡ last_in count b done 0 0
  pub only : Only l m links (table + count)

-- ---- with an empty table

module _ {l m : List ℕ} {from n links table count : ℕ} (asks : LinkAsks l from n links table count) (e : m ≡ splice l table (replicate count 0)) where
  behind : table + count ≡ table + length {A = ℕ} (replicate count 0)
  behind = omega (arith, length-replicate {A = ℕ} count 0)

  emptied : Only l m table (table + count)
  emptied = subst (λ (x : List ℕ). Only l x table (table + count)) (sym e) (only_splice l table (replicate count 0) (table + count) behind asks.room)

  body_same : (k : ℕ) → from ≤ k → k < from + n → get_or m k 0 ≡ get_or l k 0
  body_same k h u =
      ap (λ (x : List ℕ). get_or x k 0) e ∙ get_or_splice_before l table (replicate count 0) k (omega (arith, asks.room)) (omega (arith, asks.beyond))

  tabs_then : TabsAt (tabs_in l from n) m from n
  tabs_then = tabs_same asks.tabs emptied.size body_same

  read_then : tabs_in m from n ≡ tabs_in l from n
  read_then = tabs_is m from n (tabs_in l from n) tabs_then

  empty_bucket : (b : ℕ) → b < count → get_or m (table + b) 0 ≡ last_in count b [] 0 0
  unfolding last_in
  empty_bucket b h =
      ap (λ (x : List ℕ). get_or x (table + b) 0) e
      ∙ get_or_splice_inside l table (replicate count 0) b (omega (arith, asks.room)) (omega (arith, length-replicate {A = ℕ} count 0))
      ∙ get_or-replicate count b 0 0 h

  asks_then : LinkAsks m from n links table count
  asks_then =
      record {
        tabs = tabs_read m from n (tabs_in l from n) tabs_then;
        some = asks.some;
        few = asks.few;
        small = asks.small;
        below = asks.below;
        beyond = asks.beyond;
        room = omega (arith, asks.room, emptied.size);
      }

  pub linking_start : Linking m m from n links table count 0
  unfolding LinksAt MarksAt
  linking_start =
      record {
        asks = asks_then;
        done = [];
        left = tabs_in m from n;
        whole = refl;
        offset = refl;
        inside = omega arith;
        stand = none_passed (tabs_in m from n) m from n asks_then.tabs;
        same = λ k h u. refl;
        chained = tt;
        marks = tt;
        lasts = empty_bucket;
        only = only_same m links (table + count);
      }

  pub linking_end : {k : List ℕ} {i : ℕ} → Linking m k from n links table count i → n ≤ i → Linked l k from n links table count
  linking_end {k} {i} g h =
      let none : g.left ≡ [] = no_tab_left g.left m (from + i) (n - i) g.stand (omega arith) in
      let all : g.done ≡ tabs_in l from n =
      sym (append-nil g.done) ∙ sym (ap (λ (x : List Tab). g.done ++ x) none) ∙ sym g.whole ∙ read_then in
      record {
        tabs = tabs_same tabs_then g.only.size g.same;
        chained = subst (λ (x : List Tab). LinksAt count x 0 k links) all g.chained;
        marks = subst (λ (x : List Tab). MarksAt [] x 0 k links) all g.marks;
        only = only_then (only_wide links (table + count) emptied (omega (arith, asks.below, asks.beyond)) (omega arith)) g.only;
      }

-- ---- an atom is left

module _ {l m : List ℕ} {from n links table count i : ℕ} (g : Linking l m from n links table count i) (more : i < n) where
  stand_now : TabsAt g.left m (from + i) (n - i)
  stand_now = tabs_same g.stand g.only.size (λ k h u. g.same k (omega (arith, h)) (omega (arith, u, g.inside)))

  first : FirstTab g.left m (from + i) (n - i)
  first = first_tab g.left m (from + i) (n - i) stand_now (omega arith)

  abbrev x : Tab
  x = first.atom

  its_bucket : bucket_at count m (from + i) ≡ bucket_in count x
  its_bucket = bucket_tab count x m (from + i) first.fits first.stands

  in_table : bucket_at count m (from + i) < count
  in_table = bucket_there count m (from + i) g.asks.some

  abbrev old : ℕ
  old = get_or m (table + bucket_at count m (from + i)) 0

  old_is : old ≡ last_in count (bucket_in count x) g.done 0 0
  old_is = g.lasts (bucket_at count m (from + i)) in_table ∙ ap (λ (b : ℕ). last_in count b g.done 0 0) its_bucket

  old_most : old ≤ i
  old_most = omega (arith, old_is, g.offset, last_most count (bucket_in count x) g.done 0 0 (omega arith))

  pub linking_size : (atom_size 1 ≤ size_at m (from + i)) × (i + size_at m (from + i) ≤ n)
  linking_size = (omega (arith, first.size, first.some), omega (arith, first.size, first.inside))

  pub linking_asks : LinkOneAsks m from i links table count
  linking_asks =
      let a = g.asks in
      record {
        begins = first.begins;
        output = linking_size.0;
        whole = omega (arith, g.only.size, linking_size, a.beyond, a.room);
        some = a.some;
        few = a.few;
        small = omega (arith, a.small);
        last = old_most;
        below = omega (arith, a.below, linking_size);
        beyond = omega (arith, a.beyond, linking_size);
        room = omega (arith, a.room, g.only.size);
      }

  -- it is linked, which leaves k
  module _ {k : List ℕ} (s : LinkedOne m k from i links table count) where
    low : links + i + 3 ≤ from
    low = linking_asks.below

    high : from + n ≤ table
    high = g.asks.beyond

    start : i ≡ 0 + length (words_of tab_words g.done)
    start = omega (arith, g.offset)

    step : Step m k links i old
    step =
        record {
          before = s.before;
          link = s.link;
          mark = s.mark;
          others = λ j h e.
              s.others (links + j) (λ z. e (omega (arith, z))) (λ z. absurd (omega (arith, z, h))) (λ z. absurd (omega (arith, z, h)))
              (λ z. absurd (omega (arith, z, h, low, high, more)));
        }

    body_now : (j : ℕ) → from ≤ j → j < from + n → get_or k j 0 ≡ get_or m j 0
    body_now j h u =
        s.others j (λ z. absurd (omega (arith, z, h, old_most, low))) (λ z. absurd (omega (arith, z, h, low))) (λ z. absurd (omega (arith, z, h, low)))
        (λ z. absurd (omega (arith, z, u, high)))

    lasts_now : (b : ℕ) → b < count → get_or k (table + b) 0 ≡ last_in count b (g.done ++ x ∷ []) 0 0
    lasts_now b h = go (eqb (bucket_in count x) b) refl ∙ sym (last_snoc count b g.done x 0 i 0 start)
      where
        go : (c : Bool) → eqb (bucket_in count x) b ≡ c → get_or k (table + b) 0 ≡ cond c (i + 1) (last_in count b g.done 0 0)
        go true p = ap (λ (z : ℕ). get_or k (table + z) 0) (sym (its_bucket ∙ eqb-true (bucket_in count x) b p)) ∙ s.newest
        go false p =
            s.others (table + b) (λ z. absurd (omega (arith, z, old_most, low, high, more))) (λ z. absurd (omega (arith, z, low, high, more)))
            (λ z. absurd (omega (arith, z, low, high, more))) (λ z. eqb-false (bucket_in count x) b p (sym its_bucket ∙ omega (arith, z))) ∙ g.lasts b h

    pub linking_next : {r : ℕ} → r ≡ size_at m (from + i) → Linking l k from n links table count (i + r)
    linking_next {r} e =
        let size : r ≡ length (tab_words x) = e ∙ first.size in
        record {
          asks = g.asks;
          done = g.done ++ x ∷ [];
          left = first.rest;
          whole = g.whole ∙ ap (λ (z : List Tab). g.done ++ z) first.is ∙ sym (append_assoc g.done (x ∷ []) first.rest);
          offset = omega (arith, size, g.offset, length_words_append tab_words g.done (x ∷ []), length-append (tab_words x) []);
          inside = omega (arith, size, first.inside);
          stand = tabs_same (first.after (from + (i + r)) (n - (i + r)) (omega (arith, size)) (omega (arith, size))) (sym g.only.size)
              (λ q h u. sym (g.same q (omega (arith, h)) (omega (arith, u, size, first.inside))));
          same = λ q h u. body_now q h u ∙ g.same q h u;
          chained = links_snoc count x m k links i g.done 0 0 old (omega arith) start old_is step g.chained;
          marks = marks_snoc count x m k links i g.done 0 0 old (omega arith) start old_is step g.marks;
          lasts = lasts_now;
          only = only_then g.only s.only;
        }
