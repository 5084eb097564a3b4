-- Marks: which atoms a group marks, marks that stay as they are, and the ways out of `member`, which marks one atom. Assumes nothing.
use mathlib.Core.Bool.{Bool, ◌||◌, cond, false, true}
use mathlib.Core.List.{List, [], ◌++◌, ◌∷◌}
use mathlib.Core.Path.{◌∙◌, ◌≡◌, ap, ap₂, refl, subst, sym}
use Prim.Native.Nat.{◌%◌, ◌+◌, ◌<◌, ◌≤◌, ℕ}
use native.Mathlib.Omega.{arith}
use lib.ListN.{get_or, length, length-append, set}
use Rattle.octets.proofs.Places.{at_first, at_splice, get_or_only_after, get_or_only_before, only_same, only_splice, only_wide}
use Rattle.octets.proofs.Splice.{splice_nil, splice_one}
use Rattle.octets.specs.Regions.{Only, splice}
use Rattle.rules.specs.Flat.{Tab, tab_words, words_of}
use Rattle.rules.specs.RemoveDupVars.{alike, seen}
use Rattle.rules.specs.Signature.{same_term}
use Rattle.rules.specs.Words.{limit16}
use Rattle.meaning.proofs.WordLaws.{two_tab}
use Rattle.meaning.specs.ReadBack.{tab_from}
use Rattle.bodies.specs.Buckets.{bucket_in}
use Rattle.words.specs.Atom.{lead_size, terms_from}
use Rattle.bodies.specs.Standing.{TabAt, tab_at}
use Rattle.bodies.proofs.BucketLaws.{alike_bucket}
use Rattle.merging.specs.Chains.{MarksAt, mark_of}
use Rattle.merging.specs.RemoveDupVars.{MarkedBy, Member, MemberAsks, cells_of, marked}
use Rattle.merging.proofs.Links.{Elsewhere}

-- ---- marks of a group

-- atoms of other buckets are unlike
pub other_unlike : (count : ℕ) (a b : Tab) → (bucket_in count b ≡ bucket_in count a → ⊥) → alike a b ≡ false
other_unlike count a b n = go (alike a b) refl
  where
    go : (c : Bool) → alike a b ≡ c → c ≡ false
    go true p = absurd (n (sym (alike_bucket count a b p)))
    go false p = refl

module _ (a : Tab) (l m : List ℕ) (links : ℕ) where
  pub marked_join : (xs ys : List Tab) (i j : ℕ) → MarkedBy a xs i l m links → MarkedBy a ys j l m links → j ≡ i + length (words_of tab_words xs)
      → MarkedBy a (xs ++ ys) i l m links
  unfolding MarkedBy
  marked_join [] ys i j h k e = subst (λ (x : ℕ). MarkedBy a ys x l m links) (plus i j e) k
    where
      plus : (i j : ℕ) → j ≡ i + 0 → j ≡ i
      plus i j e = omega arith
  marked_join (x ∷ xs) ys i j h k e =
      (h.0, marked_join xs ys (i + length (tab_words x)) j h.1 k (omega (arith, e, length-append (tab_words x) (words_of tab_words xs))))

  -- atoms of other buckets are not marked, as long as nothing from them on is changed
  pub marked_elsewhere : {to e : ℕ} → Only l m to e → (count : ℕ) (ts : List Tab) (i : ℕ) → e ≤ links + i + 1 → Elsewhere count (bucket_in count a) ts
      → MarkedBy a ts i l m links
  unfolding MarkedBy
  marked_elsewhere o count [] i h k = tt
  marked_elsewhere o count (t ∷ ts) i h k = (
    get_or_only_after (links + i + 2) o (omega arith) ∙ ap (λ (c : Bool). cond c 1 (get_or l (links + i + 2) 0)) (sym (other_unlike count a t k.0)),
    marked_elsewhere o count ts (i + length (tab_words t)) (omega arith) k.1,
  )

  -- after a step that leaves links and marks as they are up to an offset
  pub marked_on : (m₂ : List ℕ) (e : ℕ) → ((j : ℕ) → links + 2 ≤ j → j ≤ links + e → get_or m₂ j 0 ≡ get_or m j 0)
      → (ts : List Tab) (i : ℕ) → 2 ≤ i → i + length (words_of tab_words ts) ≤ e → MarkedBy a ts i l m links → MarkedBy a ts i l m₂ links
  unfolding MarkedBy
  marked_on m₂ e same [] i b h k = tt
  marked_on m₂ e same (t ∷ ts) i b h k =
      let n = length-append (tab_words t) (words_of tab_words ts) in
      let two = two_tab t in
      (same (links + i + 2) (omega arith) (omega arith) ∙ k.0, marked_on m₂ e same ts (i + length (tab_words t)) (omega arith) (omega arith) k.1)

-- ---- marks of a pass

module _ (l m : List ℕ) (links : ℕ) where
  -- after the group of one more first atom
  pub marks_after : (a : Tab) (firsts ts : List Tab) (i : ℕ) → MarkedBy a ts i l m links → MarksAt firsts ts i l links → MarksAt (a ∷ firsts) ts i m links
  unfolding MarkedBy MarksAt
  marks_after a firsts [] i h k = tt
  marks_after a firsts (t ∷ ts) i h k = (
    h.0 ∙ ap (λ (w : ℕ). cond (alike a t) 1 w) k.0 ∙ either (alike a t) (seen t firsts),
    marks_after a firsts ts (i + length (tab_words t)) h.1 k.1,
  )
    where
      either : (b c : Bool) → cond b 1 (mark_of c) ≡ mark_of (b || c)
      either true c = refl
      either false c = refl

  -- below what is written
  pub marks_below : {a e : ℕ} → Only l m a e → (firsts ts : List Tab) (i : ℕ) → links + i + length (words_of tab_words ts) < a
      → MarksAt firsts ts i l links → MarksAt firsts ts i m links
  unfolding MarksAt
  marks_below o firsts [] i h k = tt
  marks_below o firsts (t ∷ ts) i h k =
      let n = length-append (tab_words t) (words_of tab_words ts) in
      let two = two_tab t in
      (get_or_only_before (links + i + 2) o (omega arith) ∙ k.0, marks_below o firsts ts (i + length (tab_words t)) (omega arith) k.1)

-- ---- one mark

pub marked_only : (b : Bool) (l : List ℕ) (mark : ℕ) → mark < length l → Only l (marked b l mark) mark (mark + 1)
marked_only true l mark h = only_splice l mark (1 ∷ []) (mark + 1) (omega arith) (omega arith)
marked_only false l mark h = only_same l mark (mark + 1)

pub marked_word : (b : Bool) (l : List ℕ) (mark : ℕ) → mark < length l → get_or (marked b l mark) mark 0 ≡ cond b 1 (get_or l mark 0)
marked_word true l mark h = at_first (at_splice l mark (1 ∷ []) (omega arith))
marked_word false l mark h = refl

-- an atom beyond what a step changed
tab_after : {l m : List ℕ} {a e : ℕ} (p : ℕ) → Only l m a e → e ≤ p → tab_at m p ≡ tab_at l p
unfolding tab_at
tab_after {l} {m} {a} {e} p o h = ap₂ tab_from (get_or_only_after p o h) (only_wide a (terms_from p) o (omega arith) (omega arith)).after

there_after : {l m : List ℕ} {a e : ℕ} (p : ℕ) → Only l m a e → e ≤ p → TabAt l p → TabAt m p
there_after {l} {m} p o h s =
    let w : get_or l p 0 ≡ get_or m p 0 = sym (get_or_only_after p o h) in
    record {
      low = omega (arith, w, s.low);
      high = omega (arith, w, s.high);
      some = subst (λ (x : ℕ). 1 ≤ x % limit16) w s.some;
      within = subst (λ (x : ℕ). p + x % limit16 + lead_size ≤ length m) w (omega (arith, o.size, s.within));
    }

-- ---- the ways out of `member`

-- they are unlike
pub member_unlike : {l : List ℕ} {p q : ℕ} (mark to : ℕ) → alike (tab_at l p) (tab_at l q) ≡ false → Member l l p q mark to 0
member_unlike {l} {p} {q} mark to e =
    let s = same_term (tab_at l p).out (tab_at l q).out in
    let o = (tab_at l q).out in
    record {
      size = ap (λ (b : Bool). length (cells_of b s o)) (sym e);
      words = sym (splice_nil l to) ∙ ap (λ (b : Bool). splice (marked b l mark) to (cells_of b s o)) (sym e);
    }

-- they are alike, and the mark is set, which leaves m
pub record Alike (l m : List ℕ) (p q mark to : ℕ) : Type 0 where
  pub alike_is : alike (tab_at l p) (tab_at l q) ≡ true
  pub put : m ≡ splice l mark (1 ∷ [])
  pub room : to < length m
  pub first : TabAt m p
  pub later : TabAt m q
  pub first_out : (tab_at m p).out ≡ (tab_at l p).out
  pub later_out : (tab_at m q).out ≡ (tab_at l q).out

pub is_alike : {l m : List ℕ} {p q mark to : ℕ} → MemberAsks l p q mark to → alike (tab_at l p) (tab_at l q) ≡ true → m ≡ set l mark 1 → Alike l m p q mark to
is_alike {l} {m} {p} {q} {mark} {to} c are e =
    let inside : mark < length l = omega (arith, c.below, c.first.within) in
    let put : m ≡ splice l mark (1 ∷ []) = e ∙ splice_one l mark 1 inside in
    let o : Only l m mark (mark + 1) =
    subst (λ (x : List ℕ). Only l x mark (mark + 1)) (sym put) (only_splice l mark (1 ∷ []) (mark + 1) (omega arith) (omega arith)) in
    let below-p : mark + 1 ≤ p = omega (arith, c.below) in
    let below-q : mark + 1 ≤ q = omega (arith, c.behind) in
    record {
      alike_is = are;
      put = put;
      room = omega (arith, c.apart, o.size);
      first = there_after p o below-p c.first;
      later = there_after q o below-q c.later;
      first_out = ap (λ (t : Tab). t.out) (tab_after p o below-p);
      later_out = ap (λ (t : Tab). t.out) (tab_after q o below-q);
    }

module _ {l m : List ℕ} {p q mark to : ℕ} (k : Alike l m p q mark to) where
  -- both outputs are read, a and b
  module _ {a b : ℕ} (ea : a ≡ (tab_at m p).out) (eb : b ≡ (tab_at m q).out) where
    same_is : same_term a b ≡ same_term (tab_at l p).out (tab_at l q).out
    same_is = ap₂ same_term (ea ∙ k.first_out) (eb ∙ k.later_out)

    pub member_same : same_term a b ≡ true → Member l m p q mark to 0
    member_same f =
        let o = (tab_at l q).out in
        let g : true ≡ same_term (tab_at l p).out (tab_at l q).out = sym f ∙ same_is in
        record {
          size = ap₂ (λ (x y : Bool). length (cells_of x y o)) (sym k.alike_is) g;
          words = k.put ∙ sym (splice_nil (splice l mark (1 ∷ [])) to)
              ∙ ap₂ (λ (x y : Bool). splice (marked x l mark) to (cells_of x y o)) (sym k.alike_is) g;
        }

    pub member_other : {m₂ : List ℕ} → same_term a b ≡ false → m₂ ≡ set m to b → Member l m₂ p q mark to 1
    member_other f e =
        let o = (tab_at l q).out in
        let g : false ≡ same_term (tab_at l p).out (tab_at l q).out = sym f ∙ same_is in
        record {
          size = ap₂ (λ (x y : Bool). length (cells_of x y o)) (sym k.alike_is) g;
          words = e ∙ splice_one m to b k.room ∙ ap₂ (λ (x : List ℕ) (w : ℕ). splice x to (w ∷ [])) k.put (eb ∙ k.later_out)
              ∙ ap₂ (λ (x y : Bool). splice (marked x l mark) to (cells_of x y o)) (sym k.alike_is) g;
        }
