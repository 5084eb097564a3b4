-- The end of a call: one count of the head of its kind 3 word is used for its variable, and action 7, the variable, that word and the terms on the stack
-- are written behind the words of the walk over them. Assumes nothing.
use mathlib.Core.Path.{◌≡◌, refl, sym, subst}
use mathlib.Core.List.{List, [], ◌∷◌, ◌++◌}
use Prim.Native.Nat.{ℕ, ◌+◌}
use native.Mathlib.Omega.{arith}
use lib.ListN.{length}
use Rattle.octets.specs.Regions.{splice, part}
use Rattle.rules.specs.Words.{head_word, head_of, count_of, action_word}
use Rattle.rules.specs.ToQuery.{Fresh}
use Rattle.std.specs.Prelude.{Ok}
use Rattle.walks.specs.Steps.{Piece, reached_at, InAnswer, OnStack}
use Rattle.walks.specs.declared.Walk.{Walk}
use Rattle.walks.proofs.Steps.{Own}
use Rattle.walks.proofs.Uses.{Used, used_done}
use Rattle.walks.proofs.Words.{head_word_lem}
use Rattle.head_exprs.specs.Lowered.{call_piece, Binds}

module _ {w place sp : ℕ} {s1 cs1 : List ℕ} {a : Walk} {s2 cs2 : List ℕ} where
  -- the words are written, up to e, which leaves s3
  pub bound_done : {v : ℕ} {s3 : List ℕ} {e n : ℕ} → Used 3 w (count_of w) sp place s1 cs1 a s2 cs2 (Ok v) → n ≡ count_of w
      → (e ≡ a.to + 3 + n) × (s3 ≡ splice s2 a.to (action_word 7 ∷ v ∷ w ∷ part s2 sp n))
      → Binds w place sp s1 cs1 s3 cs2 a (Ok (reached_at a.next e (a.log + 1) v))
  bound_done {v} {s3} {e} {n} o counts written at to size lg x s cs t =
      used_done t o 1 (InAnswer lg) s3 (action_word 7 ∷ v ∷ w ∷ []) e v (call_piece (head_of w)) refl (omega arith) (omega arith) put own
    where
      put : (e ≡ a.to + 3 + count_of w) × (s3 ≡ splice s2 a.to (action_word 7 ∷ v ∷ w ∷ part s2 sp (count_of w)))
      put = subst (λ (j : ℕ). (e ≡ a.to + 3 + j) × (s3 ≡ splice s2 a.to (action_word 7 ∷ v ∷ w ∷ part s2 sp j))) counts written

      own : (p : Piece) (f : Fresh) → OnStack sp (count_of w) lg s2 a p → v ≡ f.var
          → Own (InAnswer lg (reached_at a.next e (a.log + 1) v)) p (action_word 7 ∷ v ∷ w ∷ part s2 sp (count_of w)) f.next (call_piece (head_of w) p f)
      own p f on ev =
          let hd : w ≡ head_word (head_of w) (length p.terms) = omega (arith, head_word_lem w o.fits.high, on.size) in
          record {
            words = λ i. p.words ++ (action_word 7 ∷ sym ev i ∷ sym hd i ∷ sym on.terms i);
            counters = refl;
            terms = record { term = λ i. sym ev i ∷ []; uses = omega (arith, on.uses) };
          }
