-- A call with its variable, on its way through its arguments: what is known at each step of `flatten_call` from there on, as records over the words
-- that each step leaves, and the ways out. Assumes nothing.
use mathlib.Core.Path.{◌≡◌, refl, sym, ap, ◌∙◌, subst}
use mathlib.Core.List.{List, [], ◌∷◌, ◌++◌}
use Prim.Native.Nat.{ℕ, ◌+◌, ◌-◌, ◌≤◌, ◌<◌}
use native.Mathlib.Omega.{arith}
use lib.ListN.{length, get_or}
use Rattle.std.specs.Prelude.{Result, Ok, Err}
use Rattle.octets.specs.Regions.{splice, part}
use Rattle.rules.specs.Words.{literal_base, count_of}
use Rattle.words.specs.Word.{head_word_of}
use Rattle.words.specs.declared.HeadWord.{HeadWord}
use Rattle.walks.specs.Leaves.{leaves_up_to}
use Rattle.walks.specs.Steps.{reached_at}
use Rattle.walks.specs.declared.Walk.{Walk}
use Rattle.walks.specs.declared.Stopped.{Stopped}
use Rattle.walks.specs.declared.Tops.{Tops}
use Rattle.walks.proofs.Asks.{counted_kept}
use Rattle.walks.proofs.LeavesUpTo.{leaves_most, leaves_in}
use Rattle.walks.proofs.Words.{head_says, count_says}
use Rattle.query.specs.Flattened.{AsksExpr}
use Rattle.query.proofs.Spots.{Spot, spot_of, ExprsAsked, ExprAnswers, ExprsAnswers}
use Rattle.query.proofs.Direct.{Behind, walked_anew, leaves_walked}
use Rattle.query.proofs.Exprs.{Begun, begun, Asked, Named, named, inner, inner_room, Walked-on, walked_stop, walked_room, walked_done}

-- ---- of its n arguments k, which are names and literals, are written behind the place of its head word, which leaves sl

pub record Fronted (p : Spot) (d w v n k : ℕ) (s1 cs1 sl : List ℕ) : Type 0 where
  pub start : Begun p d w
  pub own : Named start v s1 cs1
  pub count : n ≡ count_of w
  pub bound : ℕ
  pub run : k ≡ leaves_up_to bound (part p.ws (p.at + 1) (count_of w))
  pub put : sl ≡ splice s1 (p.tops.to + 1) (part p.ws (p.at + 1) k)
  pub left : length sl ≡ length s1

-- so it is by what is asked of the call, its word, its variable, which is what is answered, r, and the arguments in front
pub fronted : {ws s cs row : List ℕ} {at d w v k : ℕ} {t : Tops} {q : HeadWord} (s1 cs1 sl : List ℕ) (bound : ℕ) → AsksExpr ws d at t s cs
    → (w ≡ get_or ws at 0) × (w < literal_base)
    → q ≡ head_word_of w → (r : Result ℕ Stopped) → Asked (spot_of ws s cs at t) q.head r s1 cs1 → r ≡ Ok v → length cs1 ≡ length cs → length s1 ≡ length s
    → row ≡ part ws (at + 1) q.count → (k ≡ leaves_up_to bound row) × (sl ≡ splice s1 (t.to + 1) (part row 0 k)) → length sl ≡ length s1
    → Fronted (spot_of ws s cs at t) d w v q.count k s1 cs1 sl
fronted {ws} {s} {cs} {at = at} {d} {w} {v} {t = t} {q = q} s1 cs1 sl bound asks word is r answered taken counters scratch row leaves left =
    let asked : Asked (spot_of ws s cs at t) q.head (Ok v) s1 cs1 = subst (λ (x : Result ℕ Stopped). Asked (spot_of ws s cs at t) q.head x s1 cs1) taken answered in
    let begins : Begun (spot_of ws s cs at t) d w = begun asks word in
    let count = count_says is in
    let front = leaves_in ws (at + 1) q.count bound s1 (t.to + 1) (omega (arith, begins.atom.inside, count)) row leaves in
    record {
      start = begins;
      own = named begins s1 cs1 (head_says is) asked counters scratch;
      count = count;
      bound = bound;
      run = front.0 ∙ ap (λ (i : ℕ). leaves_up_to bound (part ws (at + 1) i)) count;
      put = front.1;
      left = left;
    }

-- the words of an atom around those that stand at `from`
abbrev atom_of : (w v from : ℕ) → List ℕ → ℕ → List ℕ
atom_of w v from l n = (w + 1) ∷ (part l from n ++ (v ∷ []))

module _ {p : Spot} {d w v n k : ℕ} {s1 cs1 sl : List ℕ} (f : Fronted p d w v n k s1 cs1 sl) where
  behind : Behind (inner f.own s1) (count_of w) k sl
  behind =
      let m = leaves_most f.bound p.ws (p.at + 1) (count_of w) f.start.atom.inside in
      record { room = inner_room f.own s1 refl; most = omega (arith, f.run); put = f.put }

  -- the atom around them has room
  pub around_room : p.tops.to + n + 2 ≤ length sl
  around_room = omega (arith, f.start.atom.words, f.left, f.own.scratch)

  -- where these are all, they are walked
  whole : k ≡ n → Walked-on f.own (p.tops.to + 1) sl cs1 (Ok (reached_at (p.at + 1 + k) p.tops.to (p.tops.log + 1) 0))
  whole all =
      let r = around_room in
      let hl = f.left in
      record { walk = λ sig es c. leaves_walked behind sig (d - 1) es f.bound c.few (omega arith) f.run (all ∙ f.count) }

  -- and the atom around them is the call's
  pub leaves_answer : (s3 : List ℕ) (e : ℕ) → k ≡ n → e ≡ p.tops.to + n + 2 → s3 ≡ splice sl p.tops.to (atom_of w v (p.tops.to + 1) sl n)
      → ExprAnswers p d s3 cs1 (Ok (reached_at (p.at + 1 + k) e (p.tops.log + 1) v))
  leaves_answer s3 e all there put =
      walked_done f.own (whole all) s3 e (omega arith) (omega (arith, around_room))
      (put ∙ ap (λ (i : ℕ). splice sl p.tops.to (atom_of w v (p.tops.to + 1) sl i)) f.count)

  -- what the walk of all arguments asks, where a call stands among them
  pub args_asked : ExprsAsked (inner f.own sl) (d - 1) n
  args_asked =
      subst (ExprsAsked (inner f.own sl) (d - 1)) (sym f.count)
      (record {
        under = record { sig = f.start.asks.under.sig; known = (f.start.facts.args, counted_kept f.start.asks.under.known.1 f.own.counters) };
        room = inner_room f.own sl f.left;
      })

  -- ---- all arguments are walked, over what was written of them, with s2 and cs2 left behind

  module _ {s2 cs2 : List ℕ} where
    anew : {r : Result Walk Stopped} → ExprsAnswers (inner f.own sl) (d - 1) n s2 cs2 r → Walked-on f.own p.tops.sp s2 cs2 r
    anew {r} walk =
        let all = subst (λ (i : ℕ). ExprsAnswers (inner f.own sl) (d - 1) i s2 cs2 r) f.count walk in
        record { walk = λ sig es c. walked_anew behind sig (d - 1) es (all sig es (counted_kept c f.own.counters)) }

    -- an argument that is refused refuses the call
    pub args_refused : {e : Stopped} → ExprsAnswers (inner f.own sl) (d - 1) n s2 cs2 (Err e) → ExprAnswers p d s2 cs2 (Err e)
    args_refused walk = walked_stop f.own (anew walk)

    module _ {a : Walk} (walk : ExprsAnswers (inner f.own sl) (d - 1) n s2 cs2 (Ok a)) (scratch : length s2 ≡ length sl) where
      room : (a.to + 2 ≤ p.tops.sp) × (p.tops.sp + count_of w ≤ length s2)
      room = walked_room f.own (anew walk) (scratch ∙ f.left ∙ f.own.scratch)

      -- what the atom asks, whose arguments are on the stack
      pub atom_asks : (a.to + 2 ≤ p.tops.sp) × (p.tops.sp + n ≤ length s2)
      atom_asks = let r = room in (r.0, omega (arith, r.1, f.count))

      -- and with it the call is flattened
      pub call_answer : (s3 : List ℕ) (e : ℕ) → e ≡ a.to + n + 2 → s3 ≡ splice s2 a.to (atom_of w v p.tops.sp s2 n)
          → ExprAnswers p d s3 cs2 (Ok (reached_at a.next e a.log v))
      call_answer s3 e there put =
          walked_done f.own (anew walk) s3 e (omega (arith, f.count)) room.1 (put ∙ ap (λ (i : ℕ). splice s2 a.to (atom_of w v p.tops.sp s2 i)) f.count)
