-- How far a run of equalities goes, or one of other atoms: the sizes of the atoms in front that are of its kind, added up. Assumes nothing.
use mathlib.Core.Bool.{Bool, beq, false, true}
use mathlib.Core.List.{List, [], ◌++◌, ◌∷◌, map}
use mathlib.Core.Path.{◌∙◌, ◌≡◌, ap, ap₂, refl, subst, sym}
use Prim.Native.Nat.{◌+◌, ◌-◌, ◌<◌, ◌≤◌, suc, ℕ}
use native.Mathlib.Nat.{zero-add}
use native.Mathlib.Omega.{arith}
use lib.ListN.{get_or, length, length-append, take}
use Rattle.std.specs.List.{prefix_len}
use Rattle.std.specs.Prelude.{sum_by}
use Rattle.std.proofs.lemmas.List.Sums.{sum_by-cons}
use Rattle.octets.proofs.Splice.{get_d_part}
use Rattle.octets.specs.Regions.{part}
use Rattle.rules.specs.Flat.{Atom, atom_words, eqn, tab, tab_words, words_of}
use Rattle.meaning.proofs.MergePass.{IsEqn}
use Rattle.meaning.specs.Meaning.{All}
use Rattle.bodies.specs.Shapes.{shape, shapes}
use Rattle.bodies.specs.Standing.{AtomsAt, Body, atoms_in}
use Rattle.bodies.proofs.Standing.{atoms_is, atoms_left, atoms_read, atoms_right, first_atom, lent_atoms, lent_read, lent_size, lent_whole}
use Rattle.canonicalize.specs.Canonicalize.{Runs, until_eqn}
use Rattle.canonicalize.proofs.Replacing.{eqn_met}
use Rattle.canonicalize.proofs.Runs.{run_inside}

-- ---- sizes added up

abbrev pub sizes_of : (equalities : Bool) → List (Bool × ℕ) → ℕ
sizes_of e ys = sum_by (λ x. x.1) (take (prefix_len (λ x. beq x.0 e) ys) ys)

-- one more atom of the kind
one_more : (n : ℕ) (y : Bool × ℕ) (ys : List (Bool × ℕ)) → sum_by (λ x. x.1) (take (1 + n) (y ∷ ys)) ≡ y.1 + sum_by (λ x. x.1) (take n ys)
one_more n y ys =
    let one : 1 + n ≡ suc n = omega arith in
    ap (λ (m : ℕ). sum_by (λ x. x.1) (take m (y ∷ ys))) one ∙ sum_by-cons (λ x. x.1) y (take n ys)

-- the equalities in front, and the atoms from the first other one on

unfoldable eqns_of : List Atom → List Atom
eqns_of [] = []
eqns_of (eqn p a b ∷ xs) = eqn p a b ∷ eqns_of xs
eqns_of (tab t ∷ xs) = []

unfoldable after_eqns : List Atom → List Atom
after_eqns [] = []
after_eqns (eqn p a b ∷ xs) = after_eqns xs
after_eqns (tab t ∷ xs) = tab t ∷ xs

whole_eqns : (xs : List Atom) → xs ≡ eqns_of xs ++ after_eqns xs
unfolding eqns_of after_eqns
whole_eqns [] = refl
whole_eqns (eqn p a b ∷ xs) = ap (λ (ys : List Atom). eqn p a b ∷ ys) (whole_eqns xs)
whole_eqns (tab t ∷ xs) = refl

all_eqns : (xs : List Atom) → All IsEqn (eqns_of xs)
unfolding eqns_of
all_eqns [] = tt
all_eqns (eqn p a b ∷ xs) = (tt, all_eqns xs)
all_eqns (tab t ∷ xs) = tt

-- none of them follows
none_follows : (xs : List Atom) (x : Atom) (ys : List Atom) → after_eqns xs ≡ x ∷ ys → IsEqn x → ⊥
unfolding after_eqns
none_follows [] x ys e h = cc
none_follows (eqn p a b ∷ xs) x ys e h = none_follows xs x ys e h
none_follows (tab t ∷ xs) x ys e h =
    let is : tab t ≡ x = cc in
    subst (λ (y : Atom). IsEqn y) (sym is) h

eqns_size : (xs : List Atom) → sizes_of true (map shape xs) ≡ length (words_of atom_words (eqns_of xs))
unfolding eqns_of
eqns_size [] = refl
eqns_size (eqn p a b ∷ xs) =
    one_more (prefix_len (λ x. beq x.0 true) (map shape xs)) (shape (eqn p a b)) (map shape xs) ∙ ap (λ (n : ℕ). length (atom_words (eqn p a b)) + n) (eqns_size xs)
    ∙ sym (length-append (atom_words (eqn p a b)) (words_of atom_words (eqns_of xs)))
eqns_size (tab t ∷ xs) = refl

others_size : (xs : List Atom) → sizes_of false (map shape xs) ≡ length (words_of tab_words (until_eqn xs))
unfolding until_eqn
others_size [] = refl
others_size (eqn p a b ∷ xs) = refl
others_size (tab t ∷ xs) =
    one_more (prefix_len (λ x. beq x.0 false) (map shape xs)) (shape (tab t)) (map shape xs) ∙ ap (λ (n : ℕ). length (tab_words t) + n) (others_size xs)
    ∙ sym (length-append (tab_words t) (words_of tab_words (until_eqn xs)))

module _ {ws : List ℕ} (b : Body ws) where
  abbrev xs : List Atom
  xs = atoms_in ws 0 (length ws)

  cut : AtomsAt (eqns_of xs ++ after_eqns xs) ws 0 (length ws)
  cut = subst (λ (ys : List Atom). AtomsAt ys ws 0 (length ws)) (whole_eqns xs) b

  pub run_far : (equalities : Bool) (r : ℕ) → r ≡ sizes_of equalities (shapes ws) → Runs equalities ws 0 (length ws) r
  unfolding shapes
  run_far false r e = e ∙ others_size xs
  run_far true r e =
      let size : r ≡ length (words_of atom_words (eqns_of xs)) = e ∙ eqns_size xs in
      let front = atoms_left (eqns_of xs) (after_eqns xs) cut r size in
      let behind = atoms_right (eqns_of xs) (after_eqns xs) cut (0 + r) (length ws - r) (omega (arith, size)) (omega (arith, size)) in
      let a = atoms_is ws 0 r (eqns_of xs) front in
      let inside : r ≤ length ws = omega (arith, front.within) in
      record {
        inside = inside;
        last = λ h w.
            let next = first_atom (after_eqns xs) ws (0 + r) (length ws - r) behind (omega arith) in
            none_follows xs next.atom next.rest next.is (eqn_met next.atom next.stands w);
        eqs = atoms_read ws 0 r (eqns_of xs) front;
        equalities = subst (λ (us : List Atom). All IsEqn us) (sym a) (all_eqns xs);
        others = atoms_read ws (0 + r) (length ws - r) (after_eqns xs) behind;
        whole = whole_eqns xs ∙ ap₂ ◌++◌ (sym a) (sym (atoms_is ws (0 + r) (length ws - r) (after_eqns xs) behind));
      }

  pub sizes_fit : (equalities : Bool) → sizes_of equalities (shapes ws) ≤ length ws
  unfolding shapes
  sizes_fit false = run_inside b (others_size xs)
  sizes_fit true = (run_far true (sizes_of true (shapes ws)) refl).inside

-- ---- the words are lent: how far they go is how far those go where they stand

module _ {ws : List ℕ} (l : List ℕ) (p n : ℕ) (e : ws ≡ part l p n) (h : p + n ≤ length l) where
  pub lent_runs : (equalities : Bool) (r : ℕ) → Runs equalities ws 0 (length ws) r → Runs equalities l p n r
  lent_runs false r k = k ∙ ap (λ (xs : List Atom). length (words_of tab_words (until_eqn xs))) (lent_whole l p n e h)
  lent_runs true r k =
      let size = lent_size l p n e h in
      let left : length ws - r ≡ n - r = ap (λ (m : ℕ). m - r) size in
      let first : atoms_in ws 0 r ≡ atoms_in l p r = lent_read l p n e h 0 p r (omega arith) (omega (arith, k.inside, size)) in
      let rest : atoms_in ws (0 + r) (length ws - r) ≡ atoms_in l (p + r) (length ws - r) =
      lent_read l p n e h (0 + r) (p + r) (length ws - r) (omega arith) (omega (arith, k.inside, size)) in
      let word : r < n → get_or ws (0 + r) 0 ≡ get_or l (p + r) 0 =
      λ m. ap (λ (x : List ℕ). get_or x (0 + r) 0) e ∙ get_d_part l p n (0 + r) (omega arith) ∙ ap (λ (i : ℕ). get_or l (p + i) 0) (zero-add r) in
      record {
        inside = omega (arith, k.inside, size);
        last = λ m w. k.last (omega (arith, size)) (word m ∙ w);
        eqs = lent_atoms l p n e h 0 p r (omega arith) k.eqs;
        equalities = subst (λ (us : List Atom). All IsEqn us) first k.equalities;
        others = subst (λ (m : ℕ). AtomsAt (atoms_in l (p + r) m) l (p + r) m) left
            (lent_atoms l p n e h (0 + r) (p + r) (length ws - r) (omega arith) k.others);
        whole = sym (lent_whole l p n e h) ∙ k.whole ∙ ap₂ ◌++◌ first (rest ∙ ap (λ (m : ℕ). atoms_in l (p + r) m) left);
      }
