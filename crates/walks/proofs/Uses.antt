-- The use of a counter behind a walk whose terms are on the stack: one count of the head of the kind 3 word w, then the own words of a call or of an
-- action, and the terms behind these. Assumes nothing.
use mathlib.Core.Path.{◌≡◌, ◌∙◌, subst}
use mathlib.Core.List.{List, ◌++◌}
use Prim.Native.Nat.{ℕ, ◌+◌, ◌*◌, ◌≤◌}
use native.Mathlib.Omega.{arith}
use lib.ListN.{length, length-append}
use Rattle.octets.specs.Regions.{splice, part}
use Rattle.octets.proofs.Splice.{length_part}
use Rattle.std.specs.Prelude.{Result, Ok}
use Rattle.rules.specs.Words.{head_of}
use Rattle.rules.specs.Refusals.{Res, ok, ◌>>=◌}
use Rattle.rules.specs.ToQuery.{Fresh, fresh}
use Rattle.walks.specs.Log.{Taken}
use Rattle.walks.specs.Steps.{Piece, reached_at, Walked, OnStack, Termed, UseFits}
use Rattle.walks.specs.declared.Walk.{Walk}
use Rattle.walks.specs.declared.Stopped.{Stopped}
use Rattle.walks.proofs.Steps.{Own, last_done}

-- a fresh variable of the head of w was asked for at the place q, which answers v and leaves s2 and cs2
pub record Used (own w n sp q : ℕ) (s1 cs1 : List ℕ) (a : Walk) (s2 cs2 : List ℕ) (v : Result ℕ Stopped) : Type 0 where
  pub fits : UseFits own w n sp a s1 cs1
  pub taken : Taken (fresh q (head_of w) cs1) a.log s1 cs1 s2 cs2 v
  pub size : length s2 ≡ length s1
  pub counters : length cs2 ≡ length cs1

-- the head h that was asked is that of w
pub head_used : {own w n sp h q : ℕ} {s1 cs1 : List ℕ} {a : Walk} {s2 cs2 : List ℕ} {v : Result ℕ Stopped} → UseFits own w n sp a s1 cs1 → h ≡ head_of w
    → Taken (fresh q h cs1) a.log s1 cs1 s2 cs2 v → length s2 ≡ length s1 → length cs2 ≡ length cs1 → Used own w n sp q s1 cs1 a s2 cs2 v
head_used {q = q} {s1 = s1} {cs1 = cs1} {a = a} {s2 = s2} {cs2 = cs2} {v = v} fits is taken size counters =
    record { fits = fits; taken = subst (λ (h : ℕ). Taken (fresh q h cs1) a.log s1 cs1 s2 cs2 v) is taken; size = size; counters = counters }

-- what is made of the piece x, its counter used at the place q
abbrev pub and_use : (q h : ℕ) → Res Piece → (Piece → Fresh → Piece) → Res Piece
and_use q h x g = ◌>>=◌ x (λ p. ◌>>=◌ (fresh q h p.next) (λ f. ok (g p f)))

module _ {own w n sp q : ℕ} {s1 cs1 : List ℕ} {a : Walk} {s2 cs2 : List ℕ} {front at to size lg : ℕ} {x : Res Piece} {s cs : List ℕ}
    (t : Termed front at to size n sp lg x s cs s1 cs1 a) where
  -- the own words xs and the terms are written, up to e, which leaves s3
  pub used_done : {v : ℕ} (o : Used own w n sp q s1 cs1 a s2 cs2 (Ok v)) (m : ℕ) (T : Walk → Piece → Type 0) (s3 xs : List ℕ) (e u : ℕ)
      (g : Piece → Fresh → Piece)
      → own ≡ length xs → 1 ≤ front → own + m ≤ 4 * front → (e ≡ a.to + own + n) × (s3 ≡ splice s2 a.to (xs ++ part s2 sp n))
      → ((p : Piece) (f : Fresh) → OnStack sp n lg s2 a p → v ≡ f.var → Own (T (reached_at a.next e (a.log + 1) u)) p (xs ++ part s2 sp n) f.next (g p f))
      → Walked m T (and_use q (head_of w) x g) size at to sp lg s cs s3 cs2 (Ok (reached_at a.next e (a.log + 1) u))
  used_done {v} o m T s3 xs e u g many some few put mine =
      let whole = t.whole in
      let kept : length s2 ≡ length s = o.size ∙ t.walk.kept.size in
      let terms = t.many in
      let ly : length (xs ++ part s2 sp n) ≡ own + n =
      omega (arith, length-append xs (part s2 sp n), length_part s2 sp n (omega (arith, t.stack, t.log)), many) in
      last_done t.behind size (at + front) at to sp lg (head_of w) q s cs s1 cs1 s2 cs2 a v n m T s3 (xs ++ part s2 sp n) e u
      t.words t.stack t.log (omega arith) terms (omega arith) (omega arith) o.counters put.1 (omega (arith, put.0)) x g t.walk o.taken mine
