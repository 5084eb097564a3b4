-- The end of an action with a head: one count of the head of its kind 3 word is used, and its code, that word and the terms on the stack are written
-- behind the words of the walk over them. Assumes nothing.
use mathlib.Core.Path.{◌≡◌, refl, sym}
use mathlib.Core.List.{List, [], ◌∷◌, ◌++◌}
use Prim.Native.Nat.{ℕ, ◌+◌, ◌-◌}
use native.Mathlib.Omega.{arith}
use lib.ListN.{length}
use Rattle.octets.specs.Regions.{splice, part}
use Rattle.rules.specs.Words.{head_word, head_of, count_of}
use Rattle.std.specs.Prelude.{Result, Ok}
use Rattle.rules.specs.ToQuery.{Fresh}
use Rattle.walks.specs.Steps.{Piece, reached_at, OnStack}
use Rattle.walks.specs.declared.Walk.{Walk}
use Rattle.walks.specs.declared.Stopped.{Stopped}
use Rattle.walks.proofs.Steps.{Own}
use Rattle.walks.proofs.Uses.{Used, used_done}
use Rattle.walks.proofs.Words.{head_word_lem}
use Rattle.actions.specs.Acts.{acted_at, change_piece, Gave}
use Rattle.actions.specs.Lowers.{Closes}
use Rattle.actions.specs.declared.Acted.{Acted}

module _ {w n place sp lg : ℕ} {s1 cs1 : List ℕ} {a : Walk} {s2 cs2 : List ℕ} (code : ℕ) where
  -- the words are written, up to e, which leaves s3
  pub closed : {u : ℕ} {s3 : List ℕ} {e : ℕ} → Used 2 w n sp place s1 cs1 a s2 cs2 (Ok u) → (e ≡ a.to + 2 + n) × (s3 ≡ splice s2 a.to (code ∷ w ∷ part s2 sp n))
      → Closes code w n place sp lg s1 cs1 s3 cs2 a (Ok (acted_at a.next e (a.log + 1) 0 (a.log - lg + 1)))
  closed {u} {s3} {e} o put = (
    refl,
    λ more at to size x s cs counts t. used_done t o 0 (Gave r) s3 (code ∷ w ∷ []) e 0 (change_piece code more (head_of w)) refl (omega arith) (omega arith)
        put (own more counts),
  )
    where
      r : Result Acted Stopped
      r = Ok (acted_at a.next e (a.log + 1) 0 (a.log - lg + 1))

      own : (more : ℕ) → n ≡ count_of w + more → (p : Piece) (f : Fresh) → OnStack sp n lg s2 a p → u ≡ f.var
          → Own (Gave r (reached_at a.next e (a.log + 1) 0)) p (code ∷ w ∷ part s2 sp n) f.next (change_piece code more (head_of w) p f)
      own more counts p f on ev =
          let hd : w ≡ head_word (head_of w) (length p.terms - more) = omega (arith, on.size, head_word_lem w o.fits.high) in
          record { words = λ i. p.words ++ (code ∷ sym hd i ∷ sym on.terms i); counters = refl; terms = omega (arith, on.uses) }
