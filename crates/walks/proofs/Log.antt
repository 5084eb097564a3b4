-- Laws of the log: what takes a use back, what a counter gives, and the loop that takes uses back. Assumes nothing.
use mathlib.Core.Path.{◌≡◌, refl, sym, ap, ◌∙◌}
use mathlib.Core.List.{List, [], ◌∷◌, ◌++◌}
use Prim.Native.Nat.{ℕ, zero, suc, ◌+◌, ◌-◌, ◌≤◌, ◌<◌}
use native.Mathlib.Numerals.{add-one}
use native.Mathlib.Omega.{arith}
use lib.ListN.{length, get_or, set}
use lib.Seq.{set-set, set-get_or, set_out}
use borrow.Author.Tests.{lt-ltb}
use Rattle.octets.specs.Regions.{part}
use Rattle.octets.proofs.Splice.{part_all, take_more}
use Rattle.rules.specs.Words.{limit12, limit16, fresh_word}
use Rattle.rules.specs.ToQuery.{count, fresh}
use Rattle.std.specs.Prelude.{Ok}
use Rattle.walks.specs.Log.{used_head, used_count, undone, total, Taken}

pub undone_append : (xs ys cs : List ℕ) → undone (xs ++ ys) cs ≡ undone xs (undone ys cs)
unfolding undone
undone_append [] ys cs = refl
undone_append (x ∷ xs) ys cs = ap (λ (l : List ℕ). set l (used_head x) (used_count x)) (undone_append xs ys cs)

pub undone_one : (v : ℕ) (cs : List ℕ) → undone (v ∷ []) cs ≡ set cs (used_head v) (used_count v)
unfolding undone
undone_one v cs = refl

pub undone_none : (cs : List ℕ) → undone [] cs ≡ cs
unfolding undone
undone_none cs = refl

-- one counter says something else
total_set : (cs : List ℕ) (h v : ℕ) → h < length cs → total (set cs h v) + get_or cs h 0 ≡ total cs + v
unfolding total
total_set [] h v k = absurd (omega arith)
total_set (c ∷ cs) zero v k = omega arith
total_set (c ∷ cs) (suc h) v k = omega (arith, total_set cs h v (omega arith))

-- inside, what the definition reads past the end does not show
count_in_lem : (cs : List ℕ) (h : ℕ) → h < length cs → count cs h ≡ get_or cs h 0
count_in_lem [] h k = absurd (omega arith)
count_in_lem (c ∷ cs) zero k = refl
count_in_lem (c ∷ cs) (suc h) k = count_in_lem cs h (omega arith)

used_head_lem : (h c : ℕ) → h < limit12 → c < limit16 → used_head (fresh_word h c) ≡ h
used_head_lem h c a b = omega arith

used_count_lem : (h c : ℕ) → c < limit16 → used_count (fresh_word h c) ≡ c
used_count_lem h c b = omega arith

-- ---- c is what the counter of the head h says

pub record Counter (cs : List ℕ) (h c : ℕ) : Type 0 where
  pub small : h < limit12
  pub inside : h < length cs
  pub is : c ≡ get_or cs h 0

module _ {cs : List ℕ} {h c : ℕ} (k : Counter cs h c) (lg : ℕ) (s : List ℕ) where
  counts : c ≡ count cs h
  counts = k.is ∙ sym (count_in_lem cs h k.inside)

  -- where it is not used up it grows, and the variable is logged
  pub took : c < limit16 → {s1 cs1 : List ℕ} → cs1 ≡ set cs h (c + 1) → s1 ≡ set s lg (fresh_word h c) → (p : ℕ)
      → Taken (fresh p h cs) lg s cs s1 cs1 (Ok (fresh_word h c))
  took low {s1} {cs1} grown logged p =
      let small : count cs h < limit16 = omega (arith, counts) in
      rw (lt-ltb (count cs h) limit16 small)
      (record {
        var = ap (fresh_word h) counts;
        large = omega arith;
        next = grown ∙ ap (set cs h) (add-one c ∙ ap suc counts);
        grown = ap total grown ∙ omega (arith, total_set cs h (c + 1) k.inside, k.is);
        logged = logged;
        undo = back;
      })
    where
      back : set cs1 (used_head (fresh_word h c)) (used_count (fresh_word h c)) ≡ cs
      back =
          let uh : used_head (fresh_word h c) ≡ h = used_head_lem h c k.small low in
          let uc : used_count (fresh_word h c) ≡ get_or cs h 0 = used_count_lem h c low ∙ k.is in
          (λ i. set (grown i) (uh i) (uc i)) ∙ set-set cs h (c + 1) (get_or cs h 0) ∙ set-get_or cs h 0

-- ---- the loop that takes uses back: of the words s of the log the first k are left, and cs is what the others make of cs0

pub record Taking (s cs0 : List ℕ) (k : ℕ) (cs : List ℕ) : Type 0 where
  pub most : k ≤ length s
  pub same : undone (part s 0 k) cs ≡ undone s cs0

pub taking_start : {s cs : List ℕ} → Taking s cs (length s) cs
taking_start {s} {cs} = record { most = omega arith; same = ap (λ (l : List ℕ). undone l cs) (part_all s) }

module _ {s cs0 : List ℕ} {k : ℕ} {cs : List ℕ} (t : Taking s cs0 k cs) where
  pub taking_end : k ≤ 0 → cs ≡ undone s cs0
  taking_end none =
      let z : k ≡ 0 = omega arith in
      sym (undone_none cs) ∙ ap (λ (j : ℕ). undone (part s 0 j) cs) (sym z) ∙ t.same

  -- the use v is the last of those left
  module _ (some : 0 < k) {v : ℕ} (is : v ≡ get_or s (k - 1) 0) where
    pub taking_next : {cs1 : List ℕ} → cs1 ≡ set cs (used_head v) (used_count v) → Taking s cs0 (k - 1) cs1
    taking_next {cs1} put =
        let e : k - 1 + 1 ≡ k = omega arith in
        let last : part s 0 k ≡ part s 0 (k - 1) ++ (v ∷ []) =
        ap (part s 0) (sym e) ∙ take_more s (k - 1) (omega (arith, t.most)) ∙ ap (λ (w : ℕ). part s 0 (k - 1) ++ (w ∷ [])) (sym is) in
        record {
          most = omega (arith, t.most);
          same =
              ap (undone (part s 0 (k - 1))) (put ∙ sym (undone_one v cs)) ∙ sym (undone_append (part s 0 (k - 1)) (v ∷ []) cs)
              ∙ ap (λ (l : List ℕ). undone l cs) (sym last) ∙ t.same;
        }

    -- where its head has no counter, nothing is stored
    pub taking_out : length cs ≤ used_head v → Taking s cs0 (k - 1) cs
    taking_out out = taking_next (sym (set_out cs (used_head v) (used_count v) out))
