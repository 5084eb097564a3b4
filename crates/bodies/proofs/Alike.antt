-- Atoms compared where they stand: the first words and then the terms, one by one, tell whether two are alike; and the output is the last word.
-- Assumes nothing.
use mathlib.Core.Bool.{Bool, ◌&&◌, false, true}
use mathlib.Core.List.{List, [], ◌∷◌}
use mathlib.Core.Path.{◌∙◌, ◌≡◌, ap, ap₂, refl, sym}
use Prim.Native.Nat.{◌%◌, ◌+◌, ◌-◌, ◌<◌, ◌≤◌, ℕ}
use native.Mathlib.Omega.{arith}
use lib.Dec.{eqb}
use lib.ListN.{get_or, length, take}
use lib.Seq.{get_or-drop}
use borrow.Author.Tests.{eq-eqb}
use Rattle.octets.proofs.Splice.{length_part, take_more}
use Rattle.octets.specs.Regions.{part}
use Rattle.rules.specs.RemoveDupVars.{alike}
use Rattle.rules.specs.Signature.{same_term, same_terms}
use Rattle.rules.specs.Words.{count_of, head_base, head_of, head_word, limit16, literal_base}
use Rattle.meaning.proofs.MergePass.{alike_count, alike_head}
use Rattle.meaning.proofs.SameTerms.{terms_append, terms_at_lem}
use Rattle.words.proofs.AtomLaws.{atom_head}
use Rattle.words.specs.Atom.{AtomSays, terms_from}
use Rattle.words.specs.declared.Atom.{Atom}
use Rattle.bodies.specs.Standing.{TabAt, tab_at}

-- ---- first words

-- a head word is told by its parts
whole_word : (w : ℕ) → head_base ≤ w → w < literal_base → w ≡ head_word (head_of w) (w % limit16)
whole_word w a b = omega arith

count_low : (w : ℕ) → head_base ≤ w → count_of w ≡ w % limit16
count_low w h = omega arith

-- the atom of a head that was read at p
pub record Read (l : List ℕ) (p : ℕ) (x : Atom) : Type 0 where
  pub terms : x.terms ≡ terms_from p
  pub count : x.count ≡ count_of (get_or l p 0)
  pub next : x.next ≡ terms_from p + x.count
  pub some : 1 ≤ x.count
  pub within : x.next ≤ length l

pub read : {l : List ℕ} {p : ℕ} {x : Atom} → TabAt l p → AtomSays x (get_or l p 0) p → Read l p x
read {l} {p} a s =
    let n = (atom_head s a.low).1 in
    let c = count_low (get_or l p 0) a.low in
    record { terms = s.terms_at; count = n; next = s.next_at; some = omega (arith, n, c, a.some); within = omega (arith, s.next_at, n, c, a.within) }

module _ {l : List ℕ} {p q : ℕ} (a : TabAt l p) (b : TabAt l q) where
  pub heads_differ : (get_or l p 0 ≡ get_or l q 0 → ⊥) → alike (tab_at l p) (tab_at l q) ≡ false
  unfolding tab_at
  heads_differ k = go (alike (tab_at l p) (tab_at l q)) refl
    where
      ca : count_of (get_or l p 0) ≡ get_or l p 0 % limit16
      ca = count_low (get_or l p 0) a.low

      cb : count_of (get_or l q 0) ≡ get_or l q 0 % limit16
      cb = count_low (get_or l q 0) b.low

      go : (c : Bool) → alike (tab_at l p) (tab_at l q) ≡ c → c ≡ false
      go false e = refl
      go true e =
          let n : count_of (get_or l p 0) - 1 ≡ count_of (get_or l q 0) - 1 =
          sym (length_part l (terms_from p) (count_of (get_or l p 0) - 1) (omega (arith, a.within, a.some, ca))) ∙ alike_count (tab_at l p) (tab_at l q) e
          ∙ length_part l (terms_from q) (count_of (get_or l q 0) - 1) (omega (arith, b.within, b.some, cb)) in
          let m : get_or l p 0 % limit16 ≡ get_or l q 0 % limit16 = omega (arith, a.some, b.some, ca, cb, n) in
          absurd (k (whole_word (get_or l p 0) a.low a.high ∙ ap₂ head_word (alike_head (tab_at l p) (tab_at l q) e) m ∙ sym (whole_word (get_or l q 0) b.low b.high)))

  -- with one first word their inputs decide
  pub heads_same : {x y : Atom} → AtomSays x (get_or l p 0) p → AtomSays y (get_or l q 0) q → get_or l p 0 ≡ get_or l q 0
      → same_terms (part l x.terms (x.count - 1)) (part l y.terms (x.count - 1)) ≡ alike (tab_at l p) (tab_at l q)
  unfolding tab_at
  heads_same {x} {y} sx sy e =
      let rx : Read l p x = read a sx in
      let ry : Read l q y = read b sy in
      let n₁ : x.count - 1 ≡ count_of (get_or l p 0) - 1 = ap (λ (k : ℕ). k - 1) rx.count in
      let n₂ : x.count - 1 ≡ count_of (get_or l q 0) - 1 = n₁ ∙ ap (λ (w : ℕ). count_of w - 1) e in
      let h : true ≡ eqb (head_of (get_or l p 0)) (head_of (get_or l q 0)) = sym (eq-eqb _ _ (ap head_of e)) in
      λ i. h i && same_terms (part l (rx.terms i) (n₁ i)) (part l (ry.terms i) (n₂ i))

-- ---- the output

pub out_at : {l : List ℕ} {p : ℕ} {x : Atom} → Read l p x → get_or l (x.next - 1) 0 ≡ (tab_at l p).out
unfolding tab_at
out_at {l} {p} {x} r =
    let place : x.next - 1 ≡ terms_from p + (count_of (get_or l p 0) - 1) = omega (arith, r.next, r.some, r.count) in
    ap (λ (k : ℕ). get_or l k 0) place ∙ sym (get_or-drop (terms_from p) l (count_of (get_or l p 0) - 1) 0)

-- ---- terms compared one by one: the first i of xs and of as many terms ys are equal, each to each

pub record Agreeing (xs ys : List ℕ) (i : ℕ) : Type 0 where
  pub most : i ≤ length xs
  pub same : same_terms (take i xs) (take i ys) ≡ true

module _ {xs ys : List ℕ} {i : ℕ} (g : Agreeing xs ys i) {a b : ℕ} (ea : a ≡ get_or xs i 0) (eb : b ≡ get_or ys i 0) where
  -- the next two are equal too
  pub agreeing_next : i < length xs → length xs ≡ length ys → same_term a b ≡ true → Agreeing xs ys (i + 1)
  agreeing_next h long e =
      let x = get_or xs i 0 in
      let y = get_or ys i 0 in
      record {
        most = omega arith;
        same =
            ap₂ same_terms (take_more xs i h) (take_more ys i (omega arith)) ∙ terms_append (take i xs) (take i ys) (x ∷ []) (y ∷ []) g.same
            ∙ ap (λ (c : Bool). c && true) (ap₂ same_term (sym ea) (sym eb) ∙ e);
      }

  -- they are not
  pub agreeing_not : same_term a b ≡ false → false ≡ same_terms xs ys
  agreeing_not e = go (same_terms xs ys) refl
    where
      go : (c : Bool) → same_terms xs ys ≡ c → false ≡ c
      go true k = sym e ∙ ap₂ same_term ea eb ∙ terms_at_lem xs ys k i
      go false k = refl
