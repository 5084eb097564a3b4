-- Linking, atom by atom: what links, marks and the table of last atoms say of the atoms met so far, and of one more. Assumes nothing.
use mathlib.Core.Bool.{Bool, cond, false, true}
use mathlib.Core.List.{List, [], ◌++◌, ◌∷◌}
use mathlib.Core.Path.{◌∙◌, ◌≡◌, ap, refl, sym}
use Prim.Native.Nat.{◌+◌, ◌<◌, ◌≤◌, ℕ}
use native.Mathlib.Omega.{arith}
use lib.Dec.{eqb}
use lib.ListN.{get_or, length, length-append}
use borrow.Author.Tests.{eq-eqb, eqb-false, eqb-true, ne_eqb}
use Rattle.rules.specs.Flat.{Tab, tab_words, words_of}
use Rattle.meaning.proofs.WordLaws.{two_tab}
use Rattle.bodies.specs.Buckets.{bucket_in}
use Rattle.merging.specs.Chains.{LinksAt, MarksAt, last_in, next_in}

-- ---- the next atom of a bucket, and the last one

-- the first atom's link, if it has the bucket
next_here : (count b : ℕ) (t : Tab) (ts : List Tab) (i : ℕ) → eqb (bucket_in count t) b ≡ true → next_in count b (t ∷ ts) i ≡ i + 1
unfolding next_in
next_here count b t ts i e = ap (λ (h : Bool). cond h (i + 1) (next_in count b ts (i + length (tab_words t)))) e

next_there : (count b : ℕ) (t : Tab) (ts : List Tab) (i : ℕ) → eqb (bucket_in count t) b ≡ false
    → next_in count b (t ∷ ts) i ≡ next_in count b ts (i + length (tab_words t))
unfolding next_in
next_there count b t ts i e = ap (λ (h : Bool). cond h (i + 1) (next_in count b ts (i + length (tab_words t)))) e

next_nothing : (count b i : ℕ) → next_in count b [] i ≡ 0
unfolding next_in
next_nothing count b i = refl

-- where there is none, the last one is as before; else it lies at or behind the first
last_none : (count b : ℕ) (ts : List Tab) (i none : ℕ) → next_in count b ts i ≡ 0 → last_in count b ts i none ≡ none
unfolding last_in
last_none count b [] i none e = refl
last_none count b (t ∷ ts) i none e = go (eqb (bucket_in count t) b) refl (last_none count b ts (i + length (tab_words t)) none)
  where
    go : (h : Bool) → eqb (bucket_in count t) b ≡ h → (next_in count b ts (i + length (tab_words t)) ≡ 0 → last_in count b ts (i + length (tab_words t)) none ≡ none)
        → last_in count b ts (i + length (tab_words t)) (cond h (i + 1) none) ≡ none
    go true p more = absurd (omega (arith, next_here count b t ts i p, e))
    go false p more = more (sym (next_there count b t ts i p) ∙ e)

last_least : (count b : ℕ) (ts : List Tab) (i none : ℕ) → none ≤ i → (next_in count b ts i ≡ 0 → ⊥) → i < last_in count b ts i none
unfolding last_in
last_least count b [] i none h n = absurd (n (next_nothing count b i))
last_least count b (t ∷ ts) i none h n =
    go (eqb (bucket_in count t) b) refl (eqb (next_in count b ts (i + length (tab_words t))) 0) refl (last_least count b ts (i + length (tab_words t)))
  where
    i₂ : ℕ
    i₂ = i + length (tab_words t)

    own : i + 1 ≤ i₂
    own = omega (arith, two_tab t)

    old : none ≤ i₂
    old = omega (arith, h)

    go : (c : Bool) → eqb (bucket_in count t) b ≡ c → (d : Bool) → eqb (next_in count b ts i₂) 0 ≡ d
        → ((o : ℕ) → o ≤ i₂ → (next_in count b ts i₂ ≡ 0 → ⊥) → i₂ < last_in count b ts i₂ o) → i < last_in count b ts i₂ (cond c (i + 1) none)
    go true p true q more = omega (arith, last_none count b ts i₂ (i + 1) (eqb-true (next_in count b ts i₂) 0 q))
    go true p false q more = omega (arith, own, more (i + 1) own (eqb-false (next_in count b ts i₂) 0 q))
    go false p true q more = absurd (n (next_there count b t ts i p ∙ eqb-true (next_in count b ts i₂) 0 q))
    go false p false q more = omega (arith, own, more none old (eqb-false (next_in count b ts i₂) 0 q))

-- nor does it lie behind the atoms
pub last_most : (count b : ℕ) (ts : List Tab) (i none : ℕ) → none ≤ i → last_in count b ts i none ≤ i + length (words_of tab_words ts)
unfolding last_in
last_most count b [] i none h = omega arith
last_most count b (t ∷ ts) i none h =
    omega (
      arith,
      length-append (tab_words t) (words_of tab_words ts),
      last_most count b ts (i + length (tab_words t)) (cond (eqb (bucket_in count t) b) (i + 1) none) (go (eqb (bucket_in count t) b)),
    )
  where
    go : (c : Bool) → cond c (i + 1) none ≤ i + length (tab_words t)
    go true = omega (arith, two_tab t)
    go false = omega (arith, h)

-- ---- one atom more

-- how many words atoms have
abbrev pub size : List Tab → ℕ
size ts = length (words_of tab_words ts)

size_more : (t : Tab) (ts : List Tab) → size (t ∷ ts) ≡ length (tab_words t) + size ts
size_more t ts = length-append (tab_words t) (words_of tab_words ts)

next_snoc_some : (count b : ℕ) (ts : List Tab) (x : Tab) (i : ℕ) → (next_in count b ts i ≡ 0 → ⊥) → next_in count b (ts ++ x ∷ []) i ≡ next_in count b ts i
unfolding next_in
next_snoc_some count b [] x i n = absurd (n refl)
next_snoc_some count b (t ∷ ts) x i n = go (eqb (bucket_in count t) b) refl (next_snoc_some count b ts x (i + length (tab_words t)))
  where
    go : (c : Bool) → eqb (bucket_in count t) b ≡ c
        → ((next_in count b ts (i + length (tab_words t)) ≡ 0 → ⊥)
        → next_in count b (ts ++ x ∷ []) (i + length (tab_words t)) ≡ next_in count b ts (i + length (tab_words t)))
        → cond c (i + 1) (next_in count b (ts ++ x ∷ []) (i + length (tab_words t))) ≡ cond c (i + 1) (next_in count b ts (i + length (tab_words t)))
    go true p more = refl
    go false p more = more (λ e. n (ap (λ (h : Bool). cond h (i + 1) (next_in count b ts (i + length (tab_words t)))) p ∙ e))

next_snoc_none : (count b : ℕ) (ts : List Tab) (x : Tab) (i j : ℕ) → j ≡ i + size ts → next_in count b ts i ≡ 0
    → next_in count b (ts ++ x ∷ []) i ≡ cond (eqb (bucket_in count x) b) (j + 1) 0
unfolding next_in
next_snoc_none count b [] x i j h e = ap (λ (k : ℕ). cond (eqb (bucket_in count x) b) (k + 1) 0) (omega arith)
next_snoc_none count b (t ∷ ts) x i j h e =
    go (eqb (bucket_in count t) b) refl (next_snoc_none count b ts x (i + length (tab_words t)) j (omega (arith, h, size_more t ts)))
  where
    go : (c : Bool) → eqb (bucket_in count t) b ≡ c
        → (next_in count b ts (i + length (tab_words t)) ≡ 0 → next_in count b (ts ++ x ∷ []) (i + length (tab_words t)) ≡ cond (eqb (bucket_in count x) b) (j + 1) 0)
        → cond c (i + 1) (next_in count b (ts ++ x ∷ []) (i + length (tab_words t))) ≡ cond (eqb (bucket_in count x) b) (j + 1) 0
    go true p more = absurd (omega (arith, sym (ap (λ (h : Bool). cond h (i + 1) (next_in count b ts (i + length (tab_words t)))) p) ∙ e))
    go false p more =
        more (sym (ap (λ (h : Bool). cond h (i + 1) (next_in count b ts (i + length (tab_words t)))) p) ∙ e)

pub last_snoc : (count b : ℕ) (ts : List Tab) (x : Tab) (i j none : ℕ) → j ≡ i + size ts
    → last_in count b (ts ++ x ∷ []) i none ≡ cond (eqb (bucket_in count x) b) (j + 1) (last_in count b ts i none)
unfolding last_in
last_snoc count b [] x i j none h = ap (λ (k : ℕ). cond (eqb (bucket_in count x) b) (k + 1) none) (omega arith)
last_snoc count b (t ∷ ts) x i j none h =
    last_snoc count b ts x (i + length (tab_words t)) j (cond (eqb (bucket_in count t) b) (i + 1) none) (omega (arith, h, size_more t ts))

-- the words that linking x, at offset j, leaves: `last` is the last atom of its bucket before
pub record Step (l m : List ℕ) (links j last : ℕ) : Type 0 where
  pub before : get_or m (links + last) 0 ≡ j + 1
  pub link : get_or m (links + j + 1) 0 ≡ 0
  pub mark : get_or m (links + j + 2) 0 ≡ 0
  pub others : (k : ℕ) → k ≤ j → (k ≡ last → ⊥) → get_or m (links + k) 0 ≡ get_or l (links + k) 0

module _ (count : ℕ) (x : Tab) (l m : List ℕ) (links j : ℕ) where
  abbrev pub its : ℕ
  its = bucket_in count x

  -- its own bucket's next one, and that of another bucket
  own : (ts : List Tab) (i last : ℕ) (o : ℕ) → o + 1 ≤ i → j ≡ i + size ts → last ≡ last_in count its ts i (o + 1) → Step l m links j last
      → get_or l (links + o + 1) 0 ≡ next_in count its ts i → get_or m (links + o + 1) 0 ≡ next_in count its (ts ++ x ∷ []) i
  own ts i last o h e f s g = go (eqb (next_in count its ts i) 0) refl
    where
      go : (d : Bool) → eqb (next_in count its ts i) 0 ≡ d → get_or m (links + o + 1) 0 ≡ next_in count its (ts ++ x ∷ []) i
      go true q =
          let none = eqb-true (next_in count its ts i) 0 q in
          let at : links + o + 1 ≡ links + last = omega (arith, f, last_none count its ts i (o + 1) none) in
          ap (λ (k : ℕ). get_or m k 0) at ∙ s.before ∙ sym (next_snoc_none count its ts x i j e none ∙ ap (λ (h : Bool). cond h (j + 1) 0) (eq-eqb its its refl))
      go false q =
          let some = eqb-false (next_in count its ts i) 0 q in
          let least = last_least count its ts i (o + 1) h some in
          let apart : o + 1 ≡ last → ⊥ = λ z. absurd (omega (arith, z, f, least, h)) in
          let at : links + o + 1 ≡ links + (o + 1) = omega arith in
          ap (λ (k : ℕ). get_or m k 0) at ∙ s.others (o + 1) (omega (arith, e)) apart ∙ sym (ap (λ (k : ℕ). get_or l k 0) at) ∙ g
          ∙ sym (next_snoc_some count its ts x i some)

  -- a slot that is not the last one's is as it was
  still : (k last : ℕ) → k ≤ j → (k ≡ last → ⊥) → Step l m links j last → (q : ℕ) → q ≡ links + k → get_or m q 0 ≡ get_or l q 0
  still k last h n s q e = ap (λ (x : ℕ). get_or m x 0) e ∙ s.others k h n ∙ sym (ap (λ (x : ℕ). get_or l x 0) e)

  -- the last one is not at k, where k lies behind `none` and before i
  elsewhere : (ts : List Tab) (i none last k : ℕ) → last ≡ last_in count its ts i none → none < k → none ≤ i → k ≤ i → k ≡ last → ⊥
  elsewhere ts i none last k f h g u z = go (eqb (next_in count its ts i) 0) refl
    where
      go : (d : Bool) → eqb (next_in count its ts i) 0 ≡ d → ⊥
      go true q = absurd (omega (arith, z, f, last_none count its ts i none (eqb-true (next_in count its ts i) 0 q)))
      go false q = absurd (omega (arith, z, f, last_least count its ts i none g (eqb-false (next_in count its ts i) 0 q)))

  -- the next one of another bucket
  other : (a : ℕ) (ts : List Tab) (i : ℕ) → j ≡ i + size ts → eqb its a ≡ false → next_in count a (ts ++ x ∷ []) i ≡ next_in count a ts i
  other a ts i e p = go (eqb (next_in count a ts i) 0) refl
    where
      go : (d : Bool) → eqb (next_in count a ts i) 0 ≡ d → next_in count a (ts ++ x ∷ []) i ≡ next_in count a ts i
      go true q =
          next_snoc_none count a ts x i j e (eqb-true (next_in count a ts i) 0 q) ∙ ap (λ (h : Bool). cond h (j + 1) 0) p ∙ sym (eqb-true (next_in count a ts i) 0 q)
      go false q = next_snoc_some count a ts x i (eqb-false (next_in count a ts i) 0 q)

  pub links_snoc : (ts : List Tab) (i none last : ℕ) → none ≤ i → j ≡ i + size ts → last ≡ last_in count its ts i none → Step l m links j last
      → LinksAt count ts i l links → LinksAt count (ts ++ x ∷ []) i m links
  unfolding LinksAt last_in
  links_snoc [] i none last h e f s u =
      (ap (λ (k : ℕ). get_or m (links + k + 1) 0) (omega arith) ∙ s.link ∙ sym (next_nothing count (bucket_in count x) (i + length (tab_words x))), tt)
  links_snoc (t ∷ ts) i none last h e f s u =
      go (eqb (bucket_in count t) its) refl f (λ o k g. links_snoc ts (i + length (tab_words t)) o last k (omega (arith, e, size_more t ts)) g s u.1)
    where
      i₂ : ℕ
      i₂ = i + length (tab_words t)

      e₂ : j ≡ i₂ + size ts
      e₂ = omega (arith, e, size_more t ts)

      go : (c : Bool) → eqb (bucket_in count t) its ≡ c → last ≡ last_in count its ts i₂ (cond c (i + 1) none)
          → ((o : ℕ) → o ≤ i₂ → last ≡ last_in count its ts i₂ o → LinksAt count (ts ++ x ∷ []) i₂ m links)
          → (get_or m (links + i + 1) 0 ≡ next_in count (bucket_in count t) (ts ++ x ∷ []) i₂) × LinksAt count (ts ++ x ∷ []) i₂ m links
      go true p g more =
          let is = eqb-true (bucket_in count t) its p in
          let before = u.0 ∙ ap (λ (a : ℕ). next_in count a ts i₂) is in (
            own ts i₂ last i (omega (arith, two_tab t)) e₂ g s before ∙ sym (ap (λ (a : ℕ). next_in count a (ts ++ x ∷ []) i₂) is),
            more (i + 1) (omega (arith, two_tab t)) g,
          )
      go false p g more =
          let apart = elsewhere ts i₂ none last (i + 1) g (omega (arith, h)) (omega (arith, h)) (omega (arith, two_tab t)) in
          let unlike : eqb its (bucket_in count t) ≡ false = ne_eqb its (bucket_in count t) (λ z. eqb-false (bucket_in count t) its p (sym z)) in (
            still (i + 1) last (omega (arith, e₂, two_tab t)) apart s (links + i + 1) (omega arith) ∙ u.0 ∙ sym (other (bucket_in count t) ts i₂ e₂ unlike),
            more none (omega (arith, h)) g,
          )

  pub marks_snoc : (ts : List Tab) (i none last : ℕ) → none ≤ i → j ≡ i + size ts → last ≡ last_in count its ts i none → Step l m links j last
      → MarksAt [] ts i l links → MarksAt [] (ts ++ x ∷ []) i m links
  unfolding MarksAt last_in
  marks_snoc [] i none last h e f s u = (ap (λ (k : ℕ). get_or m (links + k + 2) 0) (omega arith) ∙ s.mark, tt)
  marks_snoc (t ∷ ts) i none last h e f s u =
      go (eqb (bucket_in count t) its) refl f (λ o k g. marks_snoc ts (i + length (tab_words t)) o last k (omega (arith, e, size_more t ts)) g s u.1)
    where
      i₂ : ℕ
      i₂ = i + length (tab_words t)

      e₂ : j ≡ i₂ + size ts
      e₂ = omega (arith, e, size_more t ts)

      go : (c : Bool) → eqb (bucket_in count t) its ≡ c → last ≡ last_in count its ts i₂ (cond c (i + 1) none)
          → ((o : ℕ) → o ≤ i₂ → last ≡ last_in count its ts i₂ o → MarksAt [] (ts ++ x ∷ []) i₂ m links)
          → (get_or m (links + i + 2) 0 ≡ 0) × MarksAt [] (ts ++ x ∷ []) i₂ m links
      go true p g more =
          let apart = elsewhere ts i₂ (i + 1) last (i + 2) g (omega arith) (omega (arith, two_tab t)) (omega (arith, two_tab t)) in
          (still (i + 2) last (omega (arith, e₂, two_tab t)) apart s (links + i + 2) (omega arith) ∙ u.0, more (i + 1) (omega (arith, two_tab t)) g)
      go false p g more =
          let apart = elsewhere ts i₂ none last (i + 2) g (omega (arith, h)) (omega (arith, h)) (omega (arith, two_tab t)) in
          (still (i + 2) last (omega (arith, e₂, two_tab t)) apart s (links + i + 2) (omega arith) ∙ u.0, more none (omega (arith, h)) g)
