-- One atom of a pass: what is known at each step of `merge_one`, as records over the words and the pass so far, and its two ways out. Assumes nothing.
use mathlib.Core.Bool.{Bool, false, true}
use mathlib.Core.List.{List, ◌∷◌}
use mathlib.Core.Path.{◌∙◌, ◌≡◌, ap, refl, subst, sym}
use Prim.Native.Nat.{◌+◌, ◌-◌, ◌^◌, ◌<◌, ◌≤◌, ℕ}
use native.Mathlib.Omega.{arith}
use lib.ListN.{get_or, length}
use Rattle.octets.specs.Regions.{part, splice}
use Rattle.rules.specs.Flat.{Tab}
use Rattle.rules.specs.RemoveDupVars.{seen}
use Rattle.bodies.specs.Standing.{size_at, tab_at}
use Rattle.merging.specs.declared.Merging.{Merging}
use Rattle.merging.specs.Chains.{MarksAt, mark_of}
use Rattle.merging.specs.RemoveDupVars.{DroppedOne, GroupAsks, Grouped, KeptOne, MergeOneAsks, MergedOne, OneStep, behind, group_of, group_words}
use Rattle.merging.proofs.Links.{Here, here}

-- ---- the atom stands, and it has a mark

pub record Begun (l : List ℕ) (from n i eqs links : ℕ) (t : Merging) : Type 0 where
  pub asks : MergeOneAsks l from n i eqs links t
  pub first : Here l from n i
  pub mark : links + i + 2 < length l
  pub run : from + t.start + (i - t.start) ≤ length l
  pub fits : length l < 2 ^ 64

pub begun : {l : List ℕ} {from n i eqs links : ℕ} {t : Merging} → MergeOneAsks l from n i eqs links t → length l < 2 ^ 64 → Begun l from n i eqs links t
begun asks fits =
    let h = here asks.tabs asks.inside in
    record {
      asks = asks;
      first = h;
      mark = omega (arith, h, asks.below);
      run = omega (arith, h.top, asks.run, asks.inside);
      fits = fits;
    }

-- what a mark tells
is_marked : (b : Bool) (w : ℕ) → w ≡ mark_of b → (w ≡ 0 → ⊥) → b ≡ true
is_marked true w e h = refl
is_marked false w e h = absurd (h e)

is_unmarked : (b : Bool) (w : ℕ) → w ≡ mark_of b → w ≡ 0 → b ≡ false
is_unmarked true w e h = absurd (omega (arith, e, h))
is_unmarked false w e h = refl

module _ {l : List ℕ} {from n i eqs links : ℕ} {t : Merging} (b : Begun l from n i eqs links t) where
  mark_tells : (firsts : List Tab) → MarksAt firsts (tab_at l (from + i) ∷ behind l from n i) i l links
      → get_or l (links + i + 2) 0 ≡ mark_of (seen (tab_at l (from + i)) firsts)
  unfolding MarksAt
  mark_tells firsts h = h.0

  -- ---- it is marked, w, and goes, of z words; the run before it is carried down, which leaves m

  pub one_dropped : {w z q : ℕ} {m : List ℕ} → w ≡ get_or l (links + i + 2) 0 → (w ≡ 0 → ⊥) → z ≡ size_at l (from + i)
      → (q ≡ t.done.kept + (i - t.start)) × (m ≡ splice l (from + t.done.kept) (part l (from + t.start) (i - t.start)))
      → MergedOne l m from n i eqs links t (record { done = record { eqs = t.done.eqs; kept = q; atoms = t.done.atoms }; start = i + z })
  one_dropped {w} {z} {q} {m} e h ez em =
      let r : Merging = record { done = record { eqs = t.done.eqs; kept = q; atoms = t.done.atoms }; start = i + z } in
      let dropped : DroppedOne l m from i t r =
      record { words = em.1; eqs_end = refl; kept_end = em.0; atoms_end = refl; start_end = ap (λ (x : ℕ). i + x) ez } in
      record {
        step = λ firsts k.
            subst (λ (b : Bool). OneStep b l m from n i eqs links t r) (sym (is_marked (seen (tab_at l (from + i)) firsts) w (e ∙ mark_tells firsts k) h)) dropped;
      }

  -- ---- it is not, and its group has room

  pub record Unmarked : Type 0 where
    pub unseen : (firsts : List Tab) → MarksAt firsts (tab_at l (from + i) ∷ behind l from n i) i l links → seen (tab_at l (from + i)) firsts ≡ false
    pub room : eqs + t.done.eqs + length (group_words (group_of (tab_at l (from + i)) (behind l from n i))) ≤ links
    pub group : GroupAsks l from n i links (eqs + t.done.eqs)
    pub fits : links < 2 ^ 64

  pub unmarked : {w : ℕ} → w ≡ get_or l (links + i + 2) 0 → w ≡ 0 → Unmarked
  unmarked {w} e h =
      let c = b.asks in
      let unseen : (firsts : List Tab) → MarksAt firsts (tab_at l (from + i) ∷ behind l from n i) i l links → seen (tab_at l (from + i)) firsts ≡ false =
      λ firsts k. is_unmarked (seen (tab_at l (from + i)) firsts) w (e ∙ mark_tells firsts k) h in
      let room = c.room (unseen c.firsts c.marks) in
      record {
        unseen = unseen;
        room = room;
        group = record { tabs = c.tabs; buckets = c.buckets; linked = c.linked; inside = c.inside; small = c.small; below = c.below; room = room };
        fits = omega (arith, b.mark, b.fits);
      }

-- ---- its group is written, g words, which leaves m

module _ {l : List ℕ} {from n i eqs links : ℕ} {t : Merging} {b : Begun l from n i eqs links t} (u : Unmarked b) {m : List ℕ} {g : ℕ}
    (k : Grouped l m from n i links (eqs + t.done.eqs) g) where
  pub one_kept : MergedOne l m from n i eqs links t
      (record { done = record { eqs = t.done.eqs + g; kept = t.done.kept; atoms = t.done.atoms + 1 }; start = t.start })
  one_kept =
      let r : Merging = record { done = record { eqs = t.done.eqs + g; kept = t.done.kept; atoms = t.done.atoms + 1 }; start = t.start } in
      let kept : KeptOne l m from n i eqs links t r =
      record { more = g; group = k; eqs_end = refl; kept_end = refl; atoms_end = refl; start_end = refl } in
      record { step = λ firsts q. subst (λ (x : Bool). OneStep x l m from n i eqs links t r) (sym (u.unseen firsts q)) kept }
