-- An expression on its way through flattening: a name or a literal, or a call from its head word to its variable, and each of its ends, by what is
-- known of the walk of its arguments. Records over the spot p where it starts, its depth d and its first word w. Assumes nothing.
use mathlib.Core.Path.{◌≡◌, refl, sym, ◌∙◌, subst}
use mathlib.Core.List.{List, [], ◌∷◌, ◌++◌}
use Prim.Native.Nat.{ℕ, suc, ◌+◌, ◌-◌, ◌*◌, ◌≤◌, ◌<◌}
use native.Mathlib.Omega.{arith}
use lib.ListN.{length, get_or, length-append}
use Rattle.std.specs.Prelude.{Result, Ok, Err}
use Rattle.octets.specs.Regions.{splice, part}
use Rattle.octets.proofs.Splice.{length_part}
use Rattle.rules.specs.Words.{literal_base, head_base, head_word, head_of, count_of}
use Rattle.rules.specs.Refusals.{Res, ok, ◌>>=◌}
use Rattle.rules.specs.Signature.{Sig}
use Rattle.rules.specs.Written.{Exprs}
use Rattle.rules.specs.ToQuery.{Fresh, fresh}
use Rattle.walks.specs.Log.{Taken}
use Rattle.walks.specs.Steps.{Piece, reached_at, tops, Walked, InAnswer, OnStack, Room, Counted, ExprsAt}
use Rattle.walks.specs.declared.Walk.{Walk}
use Rattle.walks.specs.declared.Stopped.{Stopped}
use Rattle.walks.specs.declared.Tops.{Tops}
use Rattle.walks.proofs.Asks.{room_in, CallFacts, call_facts}
use Rattle.walks.proofs.Frames.{kept_none}
use Rattle.walks.proofs.Steps.{went, Own, full_first, first_stop, first_done}
use Rattle.walks.proofs.Read.{leaf_cases, call_cases, exprs_many}
use Rattle.walks.proofs.Words.{head_word_lem}
use Rattle.query.specs.Flattened.{AsksExpr, flattened, flattened_all}
use Rattle.query.proofs.Pieces.{call_piece, flattened_leaf, flattened_call}
use Rattle.query.proofs.Spots.{Spot, spot_of, ExprAsked, ExprWalked, ExprAnswers}
use Rattle.query.proofs.Direct.{AtomRoom, atom_room}

-- a name or a literal is its own term
pub leaf_answer : (p : Spot) (d w : ℕ) → w ≡ get_or p.ws p.at 0 → literal_base ≤ w
    → ExprAnswers p d p.s p.cs (Ok (reached_at (p.at + 1) p.tops.to p.tops.log w))
leaf_answer p d w is high sig x c =
    let t = p.tops in
    leaf_cases sig p.ws c.few (λ e k. ExprWalked p (flattened e p.cs) k p.s p.cs (Ok (reached_at (p.at + 1) t.to t.log w))) d p.at w x is high
    (λ i old. rw (flattened_leaf p.at w p.cs)
    (record {
      kept = kept_none t.to (t.to + 4 * 1) t.sp (t.sp + 1) t.log (t.log + 1) p.s p.cs (omega arith);
      ended = (
        record { next = refl; to = omega arith; counters = refl; written = refl; fits = omega arith },
        record { term = refl; uses = omega arith },
      );
    }))

-- ---- a call at its head word, with room for its walk and for its atom

pub record Begun (p : Spot) (d w : ℕ) : Type 0 where
  pub asks : ExprAsked p d
  pub is : w ≡ get_or p.ws p.at 0
  pub low : w < literal_base
  pub facts : CallFacts asks.under.sig p.ws d p.at w p.cs
  pub atom : AtomRoom p (count_of w)
  pub log : p.tops.log < length p.s

-- so it is where the word is below the literals
pub begun : {ws s cs : List ℕ} {at d w : ℕ} {t : Tops} → AsksExpr ws d at t s cs → (w ≡ get_or ws at 0) × (w < literal_base) → Begun (spot_of ws s cs at t) d w
begun {ws} {s} {cs} {at} {d} {w} {t} q word =
    let p = spot_of ws s cs at t in
    let u = q.under in
    let f = call_facts u.sig p.ws d p.at p.cs w u.known.0 u.known.1 word.0 word.1 in
    record {
      asks = q;
      is = word.0;
      low = word.1;
      facts = f;
      atom = atom_room p u.sig (d - 1) (count_of w) f.args q.room;
      log = omega (arith, q.room.log, f.inside);
    }

-- what its clause gives
abbrev call_result : ℕ → ℕ → Exprs → List ℕ → Res Piece
call_result at h es cs = ◌>>=◌ (fresh at h cs) (λ f. ◌>>=◌ (flattened_all es f.next) (λ q. ok (call_piece h f q)))

module _ {p : Spot} {d w : ℕ} (g : Begun p d w) where
  abbrev ArgsAt : Sig → Type 0
  ArgsAt sig = ExprsAt sig p.ws (d - 1) (count_of w) (p.at + 1)

  -- a walk of the call, by its arguments, is one of the expression
  answer : (s' cs' : List ℕ) (r : Result Walk Stopped)
      → ((sig : Sig) (es : ArgsAt sig) → Counted sig p.cs → head_base ≤ w
      → ExprWalked p (call_result p.at (head_of w) es.value p.cs) (1 + es.size) s' cs' r)
      → ExprAnswers p d s' cs' r
  answer s' cs' r walk sig x c =
      call_cases sig p.ws c.few (λ t k. ExprWalked p (flattened t p.cs) k s' cs' r) d p.at w x g.is g.low
      (λ es deep high h. rw (flattened_call p.at (head_of w) es.value p.cs) (walk sig es c high))

-- ---- a variable is asked for, which answers v and leaves s1 and cs1

abbrev pub Asked : Spot → ℕ → Result ℕ Stopped → List ℕ → List ℕ → Type 0
Asked p h v s1 cs1 = Taken (fresh p.at h p.cs) p.tops.log p.s p.cs s1 cs1 v

-- there is none: what is answered, r, is the refusal e. The head h that was asked is that of w
pub none_left : {p : Spot} {d w h : ℕ} (g : Begun p d w) {e : Stopped} (s1 cs1 : List ℕ) → h ≡ head_of w → (r : Result ℕ Stopped) → Asked p h r s1 cs1
    → r ≡ Err e
    → ExprAnswers p d s1 cs1 (Err e)
none_left {p} {d} {w} {h} g {e} s1 cs1 is r asked refused =
    let full : Asked p h (Err e) s1 cs1 = subst (λ (x : Result ℕ Stopped). Asked p h x s1 cs1) refused asked in
    answer g s1 cs1 (Err e)
    (λ sig es c high. full_first (1 + es.size) p.at p.tops.to p.tops.sp p.tops.log p.s p.cs s1 cs1 e (fresh p.at (head_of w) p.cs) _
    (subst (λ (i : ℕ). Asked p i (Err e) s1 cs1) is full))

pub record Named {p : Spot} {d w : ℕ} (g : Begun p d w) (v : ℕ) (s1 cs1 : List ℕ) : Type 0 where
  pub asked : Asked p (head_of w) (Ok v) s1 cs1
  pub counters : length cs1 ≡ length p.cs
  pub scratch : length s1 ≡ length p.s

-- it is v
pub named : {p : Spot} {d w h : ℕ} (g : Begun p d w) {v : ℕ} (s1 cs1 : List ℕ) → h ≡ head_of w → Asked p h (Ok v) s1 cs1 → length cs1 ≡ length p.cs
    → length s1 ≡ length p.s
    → Named g v s1 cs1
named {p} g {v} s1 cs1 is asked counters scratch =
    record { asked = subst (λ (i : ℕ). Asked p i (Ok v) s1 cs1) is asked; counters = counters; scratch = scratch }

module _ {p : Spot} {d w : ℕ} {g : Begun p d w} {v : ℕ} {s1 cs1 : List ℕ} (o : Named g v s1 cs1) where
  -- where its arguments start
  abbrev pub inner : List ℕ → Spot
  inner s2 = spot_of p.ws s2 cs1 (p.at + 1) (tops p.tops.to p.tops.sp (p.tops.log + 1))

  pub inner_room : (s2 : List ℕ) → length s2 ≡ length s1 → let q = inner s2 in Room (length p.ws) q.at q.tops (length s2)
  inner_room s2 e = room_in 1 (length s2) g.asks.room (omega arith) (e ∙ o.scratch)

-- ---- its arguments are walked: r, with s2 and cs2 left behind, and their terms stand at `from`: on the stack, or where the atom goes

pub record Walked-on {p : Spot} {d w : ℕ} {g : Begun p d w} {v : ℕ} {s1 cs1 : List ℕ} (o : Named g v s1 cs1) (from : ℕ) (s2 cs2 : List ℕ)
    (r : Result Walk Stopped) : Type 0 where
  pub walk : (sig : Sig) (es : ExprsAt sig p.ws (d - 1) (count_of w) (p.at + 1)) → Counted sig p.cs
      → Walked (count_of w) (OnStack from (count_of w) (p.tops.log + 1) s2) (flattened_all es.value cs1) es.size
      (p.at + 1) p.tops.to p.tops.sp (p.tops.log + 1) s1 cs1 s2 cs2 r

module _ {p : Spot} {d w : ℕ} {g : Begun p d w} {v : ℕ} {s1 cs1 : List ℕ} (o : Named g v s1 cs1) where
  rooms : (sig : Sig) (es : ArgsAt g sig)
      → (p.tops.to + 4 * (1 + es.size) ≤ p.tops.sp) × (p.tops.sp + (1 + es.size) ≤ p.tops.log) × (p.tops.log + (1 + es.size) ≤ length p.s)
  rooms sig es =
      let r = g.asks.room in
      let i = es.inside in
      (omega (arith, r.words), omega (arith, r.stack), omega (arith, r.log))

  module _ {from : ℕ} {s2 cs2 : List ℕ} where
    -- one of them is refused
    pub walked_stop : {e : Stopped} → Walked-on o from s2 cs2 (Err e) → ExprAnswers p d s2 cs2 (Err e)
    walked_stop {e} m =
        answer g s2 cs2 (Err e)
        (λ sig es c high. first_stop es.size p.at p.tops.to p.tops.sp p.tops.log v p.s p.cs s1 cs1 s2 cs2
        (rooms sig es).0 (rooms sig es).1 (rooms sig es).2 o.counters (fresh p.at (head_of w) p.cs) (flattened_all es.value) (call_piece (head_of w))
        o.asked (m.walk sig es c))

    module _ {a : Walk} (m : Walked-on o from s2 cs2 (Ok a)) where
      -- what the call's own atom asks, whose arguments are on the stack
      pub walked_room : length s2 ≡ length p.s → (a.to + 2 ≤ p.tops.sp) × (p.tops.sp + count_of w ≤ length s2)
      walked_room size =
          let q = g.asks.under in
          let es = g.facts.args in
          let u = went (flattened_all es.value cs1) (m.walk q.sig es q.known.1) in
          let r = rooms q.sig es in
          let many = exprs_many q.sig p.ws (d - 1) (count_of w) (p.at + 1) es in
          (omega (arith, u.up_to, r.0), omega (arith, r.1, r.2))

      -- with that atom, up to e, the call is flattened
      pub walked_done : (s3 : List ℕ) (e : ℕ) → e ≡ a.to + count_of w + 2 → from + count_of w ≤ length s2
          → s3 ≡ splice s2 a.to ((w + 1) ∷ (part s2 from (count_of w) ++ (v ∷ [])))
          → ExprAnswers p d s3 cs2 (Ok (reached_at a.next e a.log v))
      walked_done s3 e there inside put = answer g s3 cs2 (Ok r) (λ sig es c high. done sig es c high)
        where
          n : ℕ
          n = count_of w

          ys : List ℕ
          ys = (w + 1) ∷ (part s2 from n ++ (v ∷ []))

          r : Walk
          r = reached_at a.next e a.log v

          own : head_base ≤ w → (f : Fresh) (q : Piece) → v ≡ f.var → OnStack from n (p.tops.log + 1) s2 a q
              → Own (InAnswer p.tops.log r) q ys q.next (call_piece (head_of w) f q)
          own high f q ev on =
              let hd : w + 1 ≡ head_word (head_of w) (suc (length q.terms)) = omega (arith, head_word_lem w high, on.size) in
              record {
                words = λ i. q.words ++ (sym hd i ∷ (sym on.terms i ++ (sym ev i ∷ [])));
                counters = refl;
                terms = record { term = λ i. sym ev i ∷ []; uses = omega (arith, on.uses) };
              }

          done : (sig : Sig) (es : ArgsAt g sig) → Counted sig p.cs → head_base ≤ w
              → ExprWalked p (call_result p.at (head_of w) es.value p.cs) (1 + es.size) s3 cs2 (Ok r)
          done sig es c high =
              let lp = length_part s2 from n inside in
              let ly : length ys ≡ n + 2 = omega (arith, length-append (part s2 from n) (v ∷ [])) in
              first_done es.size p.at p.tops.to p.tops.sp p.tops.log v p.s p.cs s1 cs1 s2 cs2
              (rooms sig es).0 (rooms sig es).1 (rooms sig es).2 o.counters 1 (InAnswer p.tops.log) s3 ys a e v (fresh p.at (head_of w) p.cs)
              (flattened_all es.value) (call_piece (head_of w)) (omega arith) o.asked (m.walk sig es c) put (omega arith) (own high)
