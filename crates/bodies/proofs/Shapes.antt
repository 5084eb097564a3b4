-- Walking over a body: its first atom is read as it is, and what is left of the words is a body again. Assumes nothing.
use mathlib.Core.List.{List, [], ◌∷◌, map}
use mathlib.Core.Path.{◌∙◌, ◌≡◌, ap, refl, sym}
use Prim.Native.Nat.{◌-◌, ◌<◌, ◌≤◌, suc, ℕ}
use native.Mathlib.Omega.{arith}
use lib.Dec.{eqb}
use lib.ListN.{get_or, length, length-append}
use borrow.Author.Tests.{eq-eqb, ne_eqb}
use Rattle.octets.proofs.Places.{at_first}
use Rattle.octets.specs.Regions.{At, part}
use Rattle.rules.specs.Flat.{Atom, atom_words, eqn, tab, words_of}
use Rattle.rules.specs.Words.{equality_word, head_word}
use Rattle.meaning.proofs.WordLaws.{two_atom}
use Rattle.words.proofs.AtomLaws.{head_other, sign_word}
use Rattle.words.specs.Atom.{AtomSays, FirstWord}
use Rattle.words.specs.declared.Atom as word
use Rattle.words.specs.declared.HeadOrEq.{HeadOrEq}
use Rattle.words.specs.declared.HeadOrEq.TheVariants.{Eq, Head}
use Rattle.bodies.specs.Shapes.{is_eq, is_eqn, seen, shape, shapes}
use Rattle.bodies.specs.Standing.{AtomsAt, Body, atoms_in}
use Rattle.bodies.proofs.Standing.{First, atoms_is, atoms_read, first_atom, lent_body, lent_whole, next_at_lem, none_left}

-- what is read of an atom tells whether its first word is that of an equality
pub told_equality : {r : word.Atom} {w at : ℕ} → FirstWord w → AtomSays r w at → is_eq r.head ≡ eqb w equality_word
told_equality {r} {w} f says = go r.head (λ e. sign_word f says e) (λ h e. head_other f says e)
  where
    go : (h : HeadOrEq) → (h ≡ Eq → w ≡ equality_word) → ((k : ℕ) → h ≡ Head k → w ≡ equality_word → ⊥) → is_eq h ≡ eqb w equality_word
    go Eq one other = sym (eq-eqb w equality_word (one refl))
    go (Head k) one other = sym (ne_eqb w equality_word (other k refl))

-- and so does what stands there
pub stands_equality : (x : Atom) {l : List ℕ} {p : ℕ} → At (atom_words x) l p → eqb (get_or l p 0) equality_word ≡ is_eqn x
stands_equality (eqn q a b) s = eq-eqb _ equality_word (at_first s)
stands_equality (tab t) s = ne_eqb _ equality_word (λ e. no (suc (length t.ins)) (sym (at_first s) ∙ e))
  where
    no : (n : ℕ) → head_word t.head n ≡ equality_word → ⊥
    no n e = omega arith

-- an atom has at least two words
few : (xs : List Atom) → length (map shape xs) ≤ length (words_of atom_words xs)
few [] = omega arith
few (x ∷ xs) = omega (arith, few xs, two_atom x, length-append (atom_words x) (words_of atom_words xs))

module _ {ws : List ℕ} (b : Body ws) where
  pub few_shapes : length (shapes ws) ≤ length ws
  unfolding shapes
  few_shapes = omega (arith, few (atoms_in ws 0 (length ws)), b.size)

  pub no_shapes : length ws ≤ 0 → shapes ws ≡ []
  unfolding shapes
  no_shapes h = ap (map shape) (none_left (atoms_in ws 0 (length ws)) ws 0 (length ws) b h)

  module _ (h : 0 < length ws) where
    pub first_here : First (atoms_in ws 0 (length ws)) ws 0 (length ws)
    first_here = first_atom (atoms_in ws 0 (length ws)) ws 0 (length ws) b h

    module _ {a : word.Atom} (says : AtomSays a (get_or ws 0 0) 0) where
      -- its next place is its size
      next_size : a.next ≡ length (atom_words first_here.atom)
      next_size = omega (arith, next_at_lem first_here.begins says, first_here.size)

      pub next_inside : a.next ≤ length ws
      next_inside = omega (arith, next_size, first_here.inside)

      left_atoms : (m : ℕ) → m ≡ length ws - a.next → AtomsAt first_here.rest ws a.next m
      left_atoms m e = first_here.after a.next m (omega (arith, next_size)) (omega (arith, next_size))

      module _ {us : List ℕ} (m : ℕ) (e : m ≡ length ws - a.next) (lent : us ≡ part ws a.next m) where
        pub left_body : Body us
        left_body = lent_body a.next m lent (atoms_read ws a.next m first_here.rest (left_atoms m e))

        left_is : atoms_in us 0 (length us) ≡ first_here.rest
        left_is = lent_whole ws a.next m lent (omega (arith, next_inside)) ∙ atoms_is ws a.next m first_here.rest (left_atoms m e)

        pub shapes_next : shapes ws ≡ seen a ∷ shapes us
        unfolding shapes
        shapes_next =
            let kind : is_eqn first_here.atom ≡ is_eq a.head = sym (told_equality first_here.begins.first says ∙ stands_equality first_here.atom first_here.stands) in
            ap (map shape) (first_here.is ∙ ap (λ (xs : List Atom). first_here.atom ∷ xs) (sym left_is))
            ∙ (λ i. (kind i, sym next_size i) ∷ map shape (atoms_in us 0 (length us)))
