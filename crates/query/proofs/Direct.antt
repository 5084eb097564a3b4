-- A call whose arguments are all names and literals: what flattening makes of such words, and the two ways on from there.
-- Assumes nothing.
use mathlib.Core.Path.{◌≡◌, refl, sym, ap, ◌∙◌, subst}
use mathlib.Core.List.{List, [], ◌∷◌, ◌++◌}
use Prim.Native.Nat.{ℕ, zero, suc, ◌+◌, ◌-◌, ◌*◌, ◌≤◌, ◌<◌}
use native.Mathlib.Omega.{arith}
use lib.ListN.{length, get_or, set}
use Rattle.std.specs.Prelude.{Result, Ok}
use Rattle.octets.specs.Regions.{splice, part}
use Rattle.octets.proofs.Splice.{length_part, splice_nil, splice_itself, splice_one, splice_put, splice_carry}
use Rattle.rules.specs.Words.{limit12, literal_base}
use Rattle.rules.specs.Refusals.{Res, ok}
use Rattle.rules.specs.Signature.{Sig, heads}
use Rattle.rules.specs.Written.{Exprs, leaf, ◌then◌}
use Rattle.walks.specs.Steps.{Piece, Kept, reached_at, Walked, OnStack, Room, ExprsAt}
use Rattle.walks.specs.Leaves.{leaves_up_to}
use Rattle.walks.specs.declared.Walk.{Walk}
use Rattle.walks.specs.declared.Stopped.{Stopped}
use Rattle.walks.proofs.Frames.{kept_none, kept_then, kept_put, spliced}
use Rattle.walks.proofs.Read.{exprs_many, leaf_cases, first_cases, none_cases, recount}
use Rattle.walks.proofs.LeavesUpTo.{part_first, leaves_each}
use Rattle.query.specs.Flattened.{flattened_all}
use Rattle.query.proofs.Pieces.{flattened_leaf, flattened_row}
use Rattle.query.proofs.Spots.{Spot}

-- ---- a row of names and literals: they are their own terms, and nothing is written

abbrev leaves_piece : List ℕ → List ℕ → Piece
leaves_piece ts cs = record { terms = ts; words = []; count = 0; next = cs }

-- it has a word for each
record Leaves (es : Exprs) (size n : ℕ) (ts : List ℕ) : Type 0 where
  pub flat : (cs : List ℕ) → flattened_all es cs ≡ ok (leaves_piece ts cs)
  pub each : size ≡ n

module _ (sig : Sig) (ws : List ℕ) (few : heads sig ≤ limit12) (d : ℕ) where
  leaves_row : (n at : ℕ) (es : ExprsAt sig ws d n at) → ((i : ℕ) → i < n → literal_base ≤ get_or ws (at + i) 0) → Leaves es.value es.size n (part ws at n)
  leaves_row zero at es high =
      none_cases sig ws (λ t k. Leaves t k zero (part ws at zero)) d zero at es refl (record { flat = λ cs. flattened_row.none cs; each = refl })
  leaves_row (suc n) at es high =
      first_cases sig ws (λ t k. Leaves t k (suc n) (part ws at (suc n))) d (suc n) at es (omega arith)
      (λ f fs. leaf_cases sig ws few (λ t k. (fs : ExprsAt sig ws d (suc n - 1) (at + k)) → Leaves (t then fs.value) (k + fs.size) (suc n) (part ws at (suc n)))
      d at (get_or ws at 0) f refl here (λ i old gs. more i gs (leaves_row n (at + 1) (recount sig ws d (suc n - 1) n (at + 1) (omega arith) gs) rest)) fs)
    where
      here : literal_base ≤ get_or ws at 0
      here =
          let z : at + 0 ≡ at = omega arith in
          let k = high 0 (omega arith) in
          omega (arith, ap (λ (j : ℕ). get_or ws j 0) z)

      rest : (i : ℕ) → i < n → literal_base ≤ get_or ws (at + 1 + i) 0
      rest i h =
          let z : at + suc i ≡ at + 1 + i = omega arith in
          let k = high (suc i) (omega arith) in
          omega (arith, ap (λ (j : ℕ). get_or ws j 0) z)

      more : at < length ws → (fs : ExprsAt sig ws d (suc n - 1) (at + 1)) → Leaves fs.value fs.size n (part ws (at + 1) n)
          → Leaves (leaf at (get_or ws at 0) then fs.value) (1 + fs.size) (suc n) (part ws at (suc n))
      more i fs l =
          let w = get_or ws at 0 in
          let p = part_first ws at n (suc n) i (omega arith) in
          record {
            flat =
                λ cs. flattened_row.more (leaf at w) fs.value cs ∙ rw (flattened_leaf at w cs, l.flat cs)
                (λ i. ok (leaves_piece (sym p i) cs));
            each = omega (arith, l.each);
          }

-- ---- the call whose arguments these are

-- a word before n words that stand, and one behind them
pub around : (l m k : List ℕ) (at head n out : ℕ) → at + n + 2 ≤ length l → length m ≡ length l → m ≡ set l at head → k ≡ set m (at + 1 + n) out
    → k ≡ splice l at (head ∷ (part l (at + 1) n ++ (out ∷ [])))
around l m k at head n out room size first last =
    let one : m ≡ splice l at (head ∷ []) = first ∙ splice_one l at head (omega arith) in
    let terms =
    splice_carry l at (head ∷ []) (at + 1) [] (at + 1) n one (sym (splice_itself m (at + 1) n (omega arith))) refl (omega arith) (omega arith) in
    splice_put _ _ _ _ _ terms last (omega (arith, length_part l (at + 1) n (omega arith))) (omega arith)

-- room for its atom, which has two words more than it has arguments
pub record AtomRoom (p : Spot) (n : ℕ) : Type 0 where
  pub inside : p.at + 1 + n ≤ length p.ws
  pub words : p.tops.to + n + 2 ≤ length p.s

pub atom_room : (p : Spot) (sig : Sig) (d n : ℕ) → ExprsAt sig p.ws d n (p.at + 1) → Room (length p.ws) p.at p.tops (length p.s) → AtomRoom p n
atom_room p sig d n es room =
    let i = es.inside in
    let m = exprs_many sig p.ws d n (p.at + 1) es in
    record { inside = omega arith; words = omega (arith, room.words, room.stack, room.log) }

-- from p on n arguments stand. k of them are written one word behind p's `to`, which leaves s1, and all are yet to be walked
pub record Behind (p : Spot) (n k : ℕ) (s1 : List ℕ) : Type 0 where
  pub room : Room (length p.ws) p.at p.tops (length p.s)
  pub most : k ≤ n
  pub put : s1 ≡ splice p.s (p.tops.to + 1) (part p.ws p.at k)

module _ {p : Spot} {n k : ℕ} {s1 : List ℕ} (b : Behind p n k s1) (sig : Sig) (d : ℕ) (es : ExprsAt sig p.ws d n p.at) where
  within : (p.at + n ≤ length p.ws) × (n ≤ es.size)
  within =
      let i = es.inside in
      let m = exprs_many sig p.ws d n p.at es in
      (omega arith, m)

  abbrev Left-alone : List ℕ → Type 0
  Left-alone x = Kept p.tops.to (p.tops.to + 4 * es.size) p.tops.sp (p.tops.sp + es.size) p.tops.log (p.tops.log + es.size) p.s p.cs x p.cs p.tops.log

  leaves_kept : (k : ℕ) → k ≤ n → s1 ≡ splice p.s (p.tops.to + 1) (part p.ws p.at k) → Left-alone s1
  leaves_kept zero h e =
      subst Left-alone (sym (e ∙ splice_nil p.s (p.tops.to + 1)))
      (kept_none p.tops.to (p.tops.to + 4 * es.size) p.tops.sp (p.tops.sp + es.size) p.tops.log (p.tops.log + es.size) p.s p.cs (omega arith))
  leaves_kept (suc j) h e =
      let r = b.room in
      let i = es.inside in
      let w = within in
      let l = length_part p.ws p.at (suc j) (omega (arith, w.0)) in
      kept_put p.tops.to (p.tops.to + 4 * es.size) p.tops.sp (p.tops.sp + es.size) p.tops.log (p.tops.log + es.size)
      (p.tops.to + 1) (part p.ws p.at (suc j)) p.s p.cs s1
      (omega arith) (omega (arith, w.1)) (omega (arith, r.words)) (omega arith) (omega (arith, r.stack, r.log)) (omega arith) e

  -- a walk of them writes over these words
  pub walked_anew : {m : ℕ} {T : Walk → Piece → Type 0} {x : Res Piece} {s2 cs2 : List ℕ} {r : Result Walk Stopped}
      → Walked m T x es.size p.at p.tops.to p.tops.sp p.tops.log s1 p.cs s2 cs2 r
      → Walked m T x es.size p.at p.tops.to p.tops.sp p.tops.log p.s p.cs s2 cs2 r
  walked_anew w =
      let r = b.room in
      let i = es.inside in
      record { kept = kept_then (omega (arith, r.stack)) (leaves_kept k b.most b.put) w.kept; ended = w.ended }

  -- where these are all, they are walked: their terms stand there
  pub leaves_walked : (bound : ℕ) → heads sig ≤ limit12 → p.tops.to + 1 ≤ length p.s → k ≡ leaves_up_to bound (part p.ws p.at n) → k ≡ n
      → Walked n (OnStack (p.tops.to + 1) n p.tops.log s1) (flattened_all es.value p.cs) es.size p.at p.tops.to p.tops.sp p.tops.log p.s p.cs s1 p.cs
      (Ok (reached_at (p.at + k) p.tops.to p.tops.log 0))
  leaves_walked bound few more run all =
      let i = es.inside in
      let w = within in
      let row = part p.ws p.at n in
      let low : (i : ℕ) → i < n → literal_base ≤ get_or p.ws (p.at + i) 0 =
      λ i h. (leaves_each bound p.ws p.at n w.0 i (subst (◌<◌ i) (sym all ∙ run) h)).low in
      let l = leaves_row sig p.ws few d n p.at es low in
      let z = length_part p.ws p.at n w.0 in
      let e = l.each in
      let there : part s1 (p.tops.to + 1) (length row) ≡ row =
      spliced p.s s1 row (p.tops.to + 1) more (b.put ∙ ap (λ (j : ℕ). splice p.s (p.tops.to + 1) (part p.ws p.at j)) all) in
      rw (l.flat p.cs)
      (record {
        kept = leaves_kept k b.most b.put;
        ended = (
          record { next = omega arith; to = omega arith; counters = refl; written = refl; fits = omega arith },
          record { size = z; terms = ap (part s1 (p.tops.to + 1)) (sym z) ∙ there; uses = omega arith },
        );
      })
