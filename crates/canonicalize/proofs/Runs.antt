-- Runs of atoms that are no equalities: where one ends, and that it is resolved as it stands; and how many equalities there are. Assumes nothing.
use mathlib.Core.List.{List, [], ◌++◌, ◌∷◌, append_assoc, map}
use Rattle.std.specs.Prelude.{filter}
use Rattle.bodies.specs.Shapes.{shape, shapes}
use mathlib.Core.Path.{◌∙◌, ◌≡◌, ap, refl, subst, sym}
use Prim.Native.Nat.{◌+◌, ◌-◌, ◌≤◌, suc, ℕ}
use native.Mathlib.Omega.{arith}
use lib.ListN.{length, length-append}
use Rattle.octets.proofs.Places.{at_left, at_right}
use Rattle.octets.specs.Regions.{At}
use Rattle.rules.specs.Canonicalize.{resolve}
use Rattle.rules.specs.Flat.{Atom, Tab, atom_words, eqn, tab, tab_words, words_of}
use Rattle.rules.specs.Signature.{Sig}
use Rattle.meaning.proofs.MergePass.{IsEqn}
use Rattle.meaning.specs.Meaning.{All}
use Rattle.meaning.specs.ReadBack.{Encodable, EncodableTab}
use Rattle.bodies.specs.Standing.{AtomsAt, Bare, BareTab, TabsAt, atoms_in}
use Rattle.canonicalize.specs.Canonicalize.{until_eqn}
use Rattle.canonicalize.specs.Spans.{equations_in}

-- ---- a run, and the atoms from the first equality on

unfoldable pub from_eqn : List Atom → List Atom
from_eqn [] = []
from_eqn (eqn p a b ∷ xs) = eqn p a b ∷ xs
from_eqn (tab t ∷ xs) = from_eqn xs

abbrev pub StartsEqn : List Atom → Type 0
StartsEqn [] = Unit {0}
StartsEqn (x ∷ xs) = IsEqn x

pub from_starts : (xs : List Atom) → StartsEqn (from_eqn xs)
unfolding from_eqn
from_starts [] = tt
from_starts (eqn p a b ∷ xs) = tt
from_starts (tab t ∷ xs) = from_starts xs

-- resolving leaves a run as it is
pub until_resolve : (s : Sig) (xs : List Atom) → resolve s xs ≡ until_eqn xs ++ resolve s (from_eqn xs)
unfolding until_eqn from_eqn
until_resolve s [] = refl
until_resolve s (eqn p a b ∷ xs) = refl
until_resolve s (tab t ∷ xs) = ap (λ (ts : List Tab). t ∷ ts) (until_resolve s xs)

until_words : (xs : List Atom) → words_of atom_words xs ≡ words_of tab_words (until_eqn xs) ++ words_of atom_words (from_eqn xs)
unfolding until_eqn from_eqn
until_words [] = refl
until_words (eqn p a b ∷ xs) = refl
until_words (tab t ∷ xs) =
    ap (λ (ws : List ℕ). tab_words t ++ ws) (until_words xs) ∙ sym (append_assoc (tab_words t) (words_of tab_words (until_eqn xs)) (words_of atom_words (from_eqn xs)))

until_all : (P : Atom → Type 0) (Q : Tab → Type 0) → ((t : Tab) → P (tab t) → Q t) → (xs : List Atom) → All P xs → All Q (until_eqn xs)
unfolding until_eqn
until_all P Q f [] h = tt
until_all P Q f (eqn p a b ∷ xs) h = tt
until_all P Q f (tab t ∷ xs) h = (f t h.0, until_all P Q f xs h.1)

from_all : (P : Atom → Type 0) (xs : List Atom) → All P xs → All P (from_eqn xs)
unfolding from_eqn
from_all P [] h = tt
from_all P (eqn p a b ∷ xs) h = h
from_all P (tab t ∷ xs) h = from_all P xs h.1

-- where they stand
module _ {xs : List Atom} {l : List ℕ} {p n r : ℕ} (s : AtomsAt xs l p n) (e : r ≡ length (words_of tab_words (until_eqn xs))) where
  words_at : At (words_of tab_words (until_eqn xs) ++ words_of atom_words (from_eqn xs)) l p
  words_at = subst (λ (ws : List ℕ). At ws l p) (until_words xs) s.at

  sizes : n ≡ r + length (words_of atom_words (from_eqn xs))
  sizes =
      s.size ∙ ap length (until_words xs) ∙ length-append (words_of tab_words (until_eqn xs)) (words_of atom_words (from_eqn xs))
      ∙ ap (λ (k : ℕ). k + length (words_of atom_words (from_eqn xs))) (sym e)

  pub run_inside : r ≤ n
  run_inside = omega (arith, sizes)

  pub run_tabs : TabsAt (until_eqn xs) l p r
  run_tabs =
      record {
        fits = until_all Encodable EncodableTab (λ t h. h) xs s.fits;
        bare = until_all Bare BareTab (λ t h. h) xs s.bare;
        size = e;
        at = at_left (words_of atom_words (from_eqn xs)) words_at;
        within = omega (arith, run_inside, s.within);
      }

  pub run_rest : (q m : ℕ) → q ≡ p + r → m ≡ n - r → AtomsAt (from_eqn xs) l q m
  run_rest q m eq em =
      record {
        fits = from_all Encodable xs s.fits;
        bare = from_all Bare xs s.bare;
        size = omega (arith, sizes);
        at = at_right (words_of tab_words (until_eqn xs)) q words_at (omega (arith, e));
        within = omega (arith, run_inside, s.within);
      }

-- ---- how many equalities there are

equations_filter : (xs : List Atom) → length (filter (λ x. x.0) (map shape xs)) ≡ equations_in xs
unfolding equations_in
equations_filter [] = refl
equations_filter (eqn p a b ∷ xs) = ap suc (equations_filter xs)
equations_filter (tab t ∷ xs) = equations_filter xs

pub equations_shapes : (ws : List ℕ) → length (filter (λ x. x.0) (shapes ws)) ≡ equations_in (atoms_in ws 0 (length ws))
unfolding shapes
equations_shapes ws = equations_filter (atoms_in ws 0 (length ws))
