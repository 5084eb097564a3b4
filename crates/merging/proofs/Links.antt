-- Links: the atom at an offset and what stands behind it, what a link tells of the atoms on both sides of the one that it leads to, and links that
-- stay as they are. Assumes nothing.
use mathlib.Core.Bool.{Bool, cond, false, false≢true, true}
use mathlib.Core.List.{List, [], ◌++◌, ◌∷◌}
use mathlib.Core.Path.{◌∙◌, ◌≡◌, ap, refl, subst, sym}
use Prim.Native.Nat.{◌+◌, ◌-◌, ◌<◌, ◌≤◌, suc, zero, ℕ}
use native.Mathlib.Numerals.{add-one}
use native.Mathlib.Omega.{arith}
use lib.Dec.{eqb}
use lib.ListN.{get_or, length, length-append}
use borrow.Author.Tests.{eq-eqb, eqb-true}
use Rattle.octets.proofs.Places.{at_left, at_right, get_or_only_after, get_or_only_before}
use Rattle.octets.specs.Regions.{At, Only}
use Rattle.rules.specs.Flat.{Tab, tab_words, words_of}
use Rattle.meaning.proofs.Lists.{all_right, length_words_append, words_append}
use Rattle.meaning.proofs.WordLaws.{two_tab}
use Rattle.meaning.specs.Meaning.{All}
use Rattle.meaning.specs.ReadBack.{EncodableTab}
use Rattle.bodies.specs.Buckets.{bucket_in}
use Rattle.words.specs.Atom.{BeginsGood, atom_size}
use Rattle.bodies.specs.Standing.{BareTab, TabsAt, size_at, tab_at}
use Rattle.bodies.proofs.Standing.{size_tab, tab_begins, tab_there}
use Rattle.merging.specs.Chains.{LinksAt, next_in}
use Rattle.merging.specs.RemoveDupVars.{LinksKept, behind}

-- ---- the atom at offset i of the n words at `from`

pub record Here (l : List ℕ) (from n i : ℕ) : Type 0 where
  pub fits : EncodableTab (tab_at l (from + i))
  pub bare : BareTab (tab_at l (from + i))
  pub stands : At (tab_words (tab_at l (from + i))) l (from + i)
  pub size : size_at l (from + i) ≡ length (tab_words (tab_at l (from + i)))
  pub begins : BeginsGood l (from + i)
  pub two : atom_size 1 ≤ size_at l (from + i)
  pub inside : i + size_at l (from + i) + length (words_of tab_words (behind l from n i)) ≤ n
  pub top : from + n ≤ length l

pub here : {l : List ℕ} {from n i : ℕ} → TabsAt (tab_at l (from + i) ∷ behind l from n i) l (from + i) (n - i) → i < n → Here l from n i
here {l} {from} {n} {i} s h =
    let stands : At (tab_words (tab_at l (from + i))) l (from + i) = at_left (words_of tab_words (behind l from n i)) s.at in
    let size = size_tab (tab_at l (from + i)) s.fits.0 l (from + i) stands in
    record {
      fits = s.fits.0;
      bare = s.bare.0;
      stands = stands;
      size = size;
      begins = tab_begins (tab_there (tab_at l (from + i)) l (from + i) s.fits.0 stands);
      two = omega (arith, size, two_tab (tab_at l (from + i)));
      inside = omega (arith, size, s.size, length-append (tab_words (tab_at l (from + i))) (words_of tab_words (behind l from n i)));
      top = omega (arith, s.within);
    }

-- ---- what a link tells

-- none of the atoms is of the bucket
abbrev pub Elsewhere : ℕ → ℕ → List Tab → Type 0
Elsewhere count b ts = All (λ (t : Tab). bucket_in count t ≡ b → ⊥) ts

pub unfound : (count b : ℕ) (ts : List Tab) (i : ℕ) → next_in count b ts i ≡ 0 → Elsewhere count b ts
unfolding next_in
unfound count b [] i e = tt
unfound count b (t ∷ ts) i e = go (eqb (bucket_in count t) b) refl e (λ h. unfound count b ts (i + length (tab_words t)) h)
  where
    go : (c : Bool) → eqb (bucket_in count t) b ≡ c → cond c (i + 1) (next_in count b ts (i + length (tab_words t))) ≡ 0
        → (next_in count b ts (i + length (tab_words t)) ≡ 0 → Elsewhere count b ts) → Elsewhere count b (t ∷ ts)
    go true p q k = absurd (omega (arith, q))
    go false p q k = (λ s. false≢true (sym p ∙ eq-eqb (bucket_in count t) b s), k q)

-- the atom that a link leads to, and those on both sides of it
pub record Found (count b : ℕ) (ts : List Tab) (i next : ℕ) : Type 0 where
  pub skip : List Tab
  pub atom : Tab
  pub rest : List Tab
  pub is : ts ≡ skip ++ atom ∷ rest
  pub none : Elsewhere count b skip
  pub bucket : bucket_in count atom ≡ b
  pub at : next ≡ i + length (words_of tab_words skip) + 1

pub found : (count b : ℕ) (ts : List Tab) (i next : ℕ) → next ≡ next_in count b ts i → (next ≡ 0 → ⊥) → Found count b ts i next
unfolding next_in
found count b [] i next e h = absurd (h e)
found count b (t ∷ ts) i next e h = go (eqb (bucket_in count t) b) refl e (λ k. found count b ts (i + length (tab_words t)) next k h)
  where
    go : (c : Bool) → eqb (bucket_in count t) b ≡ c → next ≡ cond c (i + 1) (next_in count b ts (i + length (tab_words t)))
        → (next ≡ next_in count b ts (i + length (tab_words t)) → Found count b ts (i + length (tab_words t)) next) → Found count b (t ∷ ts) i next
    go true p q k =
        record { skip = []; atom = t; rest = ts; is = refl; none = tt; bucket = eqb-true (bucket_in count t) b p; at = omega (arith, q) }
    go false p q k =
        let f = k q in
        record {
          skip = t ∷ f.skip;
          atom = f.atom;
          rest = f.rest;
          is = ap (λ (us : List Tab). t ∷ us) f.is;
          none = (λ s. false≢true (sym p ∙ eq-eqb (bucket_in count t) b s), f.none);
          bucket = f.bucket;
          at = omega (arith, f.at, length-append (tab_words t) (words_of tab_words f.skip));
        }

-- how far there is to go at most, by the link
abbrev pub left_from : ℕ → ℕ → ℕ
left_from n zero = 0
left_from n (suc x) = n - x

left_suc : (n x : ℕ) → left_from n (x + 1) ≡ n - x
left_suc n x = ap (left_from n) (add-one x)

pub next_falls : (count b n x : ℕ) (ts : List Tab) (i : ℕ) → x < n → x < i → left_from n (next_in count b ts i) < left_from n (x + 1)
unfolding next_in
next_falls count b n x [] i h k = omega (arith, left_suc n x)
next_falls count b n x (t ∷ ts) i h k = go (eqb (bucket_in count t) b) (next_falls count b n x ts (i + length (tab_words t)) h (omega arith))
  where
    go : (c : Bool) → left_from n (next_in count b ts (i + length (tab_words t))) < left_from n (x + 1)
        → left_from n (cond c (i + 1) (next_in count b ts (i + length (tab_words t)))) < left_from n (x + 1)
    go true r = omega (arith, left_suc n x, left_suc n i)
    go false r = r

-- ---- atoms and links of the second of two lists

pub tabs_right : (xs ys : List Tab) {l : List ℕ} {p n q m : ℕ} → TabsAt (xs ++ ys) l p n → q ≡ p + length (words_of tab_words xs)
    → m ≡ n - length (words_of tab_words xs) → TabsAt ys l q m
tabs_right xs ys {l} {p} {n} {q} {m} s eq em =
    let z : n ≡ length (words_of tab_words xs) + length (words_of tab_words ys) = s.size ∙ length_words_append tab_words xs ys in
    record {
      fits = all_right EncodableTab xs ys s.fits;
      bare = all_right BareTab xs ys s.bare;
      size = omega (arith, em, z);
      at = at_right (words_of tab_words xs) q (subst (λ (ws : List ℕ). At ws l p) (words_append tab_words xs ys) s.at) eq;
      within = omega (arith, eq, em, z, s.within);
    }

pub links_right : (count : ℕ) (xs ys : List Tab) (i j : ℕ) (l : List ℕ) (links : ℕ) → LinksAt count (xs ++ ys) i l links
    → j ≡ i + length (words_of tab_words xs) → LinksAt count ys j l links
unfolding LinksAt
links_right count [] ys i j l links h e = subst (λ (x : ℕ). LinksAt count ys x l links) (plus i j e) h
  where
    plus : (i j : ℕ) → j ≡ i + 0 → i ≡ j
    plus i j e = omega arith
links_right count (x ∷ xs) ys i j l links h e =
    links_right count xs ys (i + length (tab_words x)) j l links h.1 (omega (arith, e, length-append (tab_words x) (words_of tab_words xs)))

-- ---- links as they were

module _ (l m : List ℕ) (links : ℕ) where
  pub kept_join : (xs ys : List Tab) (i j : ℕ) → LinksKept xs i l m links → LinksKept ys j l m links → j ≡ i + length (words_of tab_words xs)
      → LinksKept (xs ++ ys) i l m links
  unfolding LinksKept
  kept_join [] ys i j h k e = subst (λ (x : ℕ). LinksKept ys x l m links) (plus i j e) k
    where
      plus : (i j : ℕ) → j ≡ i + 0 → j ≡ i
      plus i j e = omega arith
  kept_join (x ∷ xs) ys i j h k e =
      (h.0, kept_join xs ys (i + length (tab_words x)) j h.1 k (omega (arith, e, length-append (tab_words x) (words_of tab_words xs))))

  -- behind what is written
  pub kept_after : {to e : ℕ} → Only l m to e → (ts : List Tab) (i : ℕ) → e ≤ links + i + 1 → LinksKept ts i l m links
  unfolding LinksKept
  kept_after o [] i h = tt
  kept_after o (t ∷ ts) i h = (get_or_only_after (links + i + 1) o (omega arith), kept_after o ts (i + length (tab_words t)) (omega arith))

  -- after a step that leaves links and marks as they are up to an offset
  pub kept_on : (m₂ : List ℕ) (e : ℕ) → ((j : ℕ) → links + 2 ≤ j → j ≤ links + e → get_or m₂ j 0 ≡ get_or m j 0)
      → (ts : List Tab) (i : ℕ) → 2 ≤ i → i + length (words_of tab_words ts) ≤ e → LinksKept ts i l m links → LinksKept ts i l m₂ links
  unfolding LinksKept
  kept_on m₂ e same [] i b h k = tt
  kept_on m₂ e same (t ∷ ts) i b h k =
      let n = length-append (tab_words t) (words_of tab_words ts) in
      let two = two_tab t in
      (same (links + i + 1) (omega arith) (omega arith) ∙ k.0, kept_on m₂ e same ts (i + length (tab_words t)) (omega arith) (omega arith) k.1)

  pub links_after : (count : ℕ) (ts : List Tab) (i : ℕ) → LinksKept ts i l m links → LinksAt count ts i l links → LinksAt count ts i m links
  unfolding LinksKept LinksAt
  links_after count [] i h k = tt
  links_after count (t ∷ ts) i h k = (h.0 ∙ k.0, links_after count ts (i + length (tab_words t)) h.1 k.1)

  -- below what is written
  pub links_below : {a e : ℕ} → Only l m a e → (count : ℕ) (ts : List Tab) (i : ℕ) → links + i + length (words_of tab_words ts) < a
      → LinksAt count ts i l links → LinksAt count ts i m links
  unfolding LinksAt
  links_below o count [] i h k = tt
  links_below o count (t ∷ ts) i h k =
      let n = length-append (tab_words t) (words_of tab_words ts) in
      let two = two_tab t in
      (get_or_only_before (links + i + 1) o (omega arith) ∙ k.0, links_below o count ts (i + length (tab_words t)) (omega arith) k.1)
