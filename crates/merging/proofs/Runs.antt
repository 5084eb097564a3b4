-- A run of atoms that moves down: where it stands then, and what stays. Assumes nothing.
use mathlib.Core.List.{List, ◌++◌}
use mathlib.Core.Path.{◌∙◌, ◌≡◌, ap, refl, subst, sym}
use Prim.Native.Nat.{◌+◌, ◌-◌, ◌≤◌, ℕ}
use native.Mathlib.Omega.{arith}
use lib.ListN.{length}
use Rattle.octets.proofs.Places.{at_splice, only_splice, only_wide}
use Rattle.octets.specs.Regions.{At, Only, part, splice}
use Rattle.rules.specs.Flat.{Tab, tab_words, words_of}
use Rattle.bodies.specs.Standing.{TabsAt}
use Rattle.bodies.proofs.Standing.{tabs_before, tabs_join}

-- the same atoms, by other numbers
pub tabs_to : {ts : List Tab} {l : List ℕ} {p n q k : ℕ} → TabsAt ts l p n → p ≡ q → n ≡ k → TabsAt ts l q k
tabs_to {ts} {l} {p} {n} {q} {k} h e f = subst (λ (x : ℕ). TabsAt ts l x k) e (subst (λ (x : ℕ). TabsAt ts l p x) f h)

-- the run moves behind `held`, which were moved before, and nothing is written but below its end
pub record Moved (held run : List Tab) (m m₂ : List ℕ) (from i kept start : ℕ) : Type 0 where
  pub only : Only m m₂ (from + kept) (from + i)
  pub tabs : TabsAt (held ++ run) m₂ from (kept + (i - start))

pub moved : {held run : List Tab} {m m₂ : List ℕ} {from i kept start : ℕ} → TabsAt held m from kept → TabsAt run m (from + start) (i - start)
    → kept ≤ start → start ≤ i → m₂ ≡ splice m (from + kept) (part m (from + start) (i - start)) → Moved held run m m₂ from i kept start
moved {held} {run} {m} {m₂} {from} {i} {kept} {start} hs rs down up em =
    let ws : List ℕ = words_of tab_words run in
    let is : m₂ ≡ splice m (from + kept) ws =
    em ∙ ap (λ (k : ℕ). splice m (from + kept) (part m (from + start) k)) rs.size ∙ ap (splice m (from + kept)) rs.at.words in
    let fits : from + kept + length (words_of tab_words run) ≤ length m = omega (arith, rs.size, rs.within) in
    let narrow : Only m m₂ (from + kept) (from + kept + length ws) =
    subst (λ (x : List ℕ). Only m x (from + kept) (from + kept + length ws)) (sym is)
    (only_splice m (from + kept) ws (from + kept + length ws) refl fits) in
    let only : Only m m₂ (from + kept) (from + i) = only_wide (from + kept) (from + i) narrow (omega arith) (omega (arith, rs.size)) in
    let there : TabsAt run m₂ (from + kept) (i - start) =
    record {
      fits = rs.fits;
      bare = rs.bare;
      size = rs.size;
      at = subst (λ (x : List ℕ). At ws x (from + kept)) (sym is) (at_splice m (from + kept) ws fits);
      within = omega (arith, rs.size, fits, only.size);
    } in
    record { only = only; tabs = tabs_join held run m₂ from kept (from + kept) (i - start) (tabs_before only hs (omega arith)) there refl }
