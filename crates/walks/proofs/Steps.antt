-- Laws of walks, whatever they make: a refusal is handed on, one walk follows another, terms go onto the stack, words are written behind, and
-- a fresh variable is taken before or after. Both walks of lowering are built of these. Assumes nothing.
use mathlib.Core.Path.{◌≡◌, refl, sym, ap, ◌∙◌, subst}
use mathlib.Core.List.{List, ◌++◌}
use Prim.Native.Nat.{ℕ, ◌+◌, ◌*◌, ◌≤◌, ◌<◌}
use native.Mathlib.Omega.{arith}
use lib.ListN.{length, get_or, set, length-append, length-set}
use lib.Seq.{get_or-set_same, get_or-set_other}
use Rattle.std.specs.Prelude.{Result, Ok, Err}
use Rattle.octets.specs.Regions.{splice, part}
use Rattle.octets.proofs.Splice.{part_same, part_join, part_one}
use Rattle.rules.specs.Refusals.{Res, ok, refuse, ◌>>=◌}
use Rattle.rules.specs.ToQuery.{Fresh, fresh}
use Rattle.walks.specs.Log.{Taken}
use Rattle.walks.specs.Steps.{Piece, nothing, both, and_then, Kept, reached_at, Walked, InAnswer, OnStack}
use Rattle.walks.specs.declared.Walk.{Walk}
use Rattle.walks.specs.declared.Stopped.{Stopped}
use Rattle.walks.proofs.Frames.{kept_none, kept_wide, kept_then, kept_log, kept_push, kept_put, joined, spliced}

-- ---- what an answer says

-- of a walk that is done

pub record Went (m k at to lg : ℕ) (a : Walk) : Type 0 where
  pub next : a.next ≡ at + k
  pub from : to ≤ a.to
  pub up_to : a.to + m ≤ to + 4 * k
  pub log_from : lg ≤ a.log
  pub log_up_to : a.log ≤ lg + k

pub went : {m k at to sp lg : ℕ} {T : Walk → Piece → Type 0} {s cs s1 cs1 : List ℕ} {a : Walk} (x : Res Piece) → Walked m T x k at to sp lg s cs s1 cs1 (Ok a)
    → Went m k at to lg a
went (ok p) w =
    let o = w.ended.0 in
    record {
      next = o.next;
      from = omega (arith, o.to);
      up_to = omega (arith, o.to, o.fits);
      log_from = omega (arith, w.kept.up_to);
      log_up_to = w.kept.in_log;
    }
went (refuse n p) w = absurd w.ended

-- where it is refused, the frame is as wide as one likes, and what would have followed does not count
pub stop : {m m' k at to sp lg : ℕ} {T T' : Walk → Piece → Type 0} {s cs s1 cs1 : List ℕ} {e : Stopped} (k' at' : ℕ) (x : Res Piece) (f : Piece → Res Piece)
    → Walked m T x k at to sp lg s cs s1 cs1 (Err e) → k ≤ k' → Walked m' T' (◌>>=◌ x f) k' at' to sp lg s cs s1 cs1 (Err e)
stop k' at' (ok p) f w h = absurd w.ended
stop {to = to} {sp = sp} {lg = lg} k' at' (refuse n q) f w h =
    record {
      kept = kept_wide to (to + 4 * k') sp (sp + k') (lg + k') w.kept (omega arith) (omega arith) (omega arith) (omega arith) (omega arith);
      ended = w.ended;
    }

-- another reading of where the terms are
pub with_terms : {m m' k at to sp lg : ℕ} {T T' : Walk → Piece → Type 0} {s cs s1 cs1 : List ℕ} {a : Walk} (x : Res Piece) (g : Piece → Piece)
    → Walked m T x k at to sp lg s cs s1 cs1 (Ok a) → m' ≤ m → ((p : Piece) → ((g p).words ≡ p.words) × ((g p).next ≡ p.next))
    → ((p : Piece) → T a p → T' a (g p))
    → Walked m' T' (◌>>=◌ x (λ p. ok (g p))) k at to sp lg s cs s1 cs1 (Ok a)
with_terms {to = to} {s1 = s1} (ok p) g w h same j =
    let o = w.ended.0 in
    let n : length (g p).words ≡ length p.words = ap length (same p).0 in
    record {
      kept = w.kept;
      ended = (
        record {
          next = o.next;
          to = omega (arith, o.to);
          counters = o.counters ∙ sym (same p).1;
          written = ap (part s1 to) n ∙ o.written ∙ sym (same p).0;
          fits = omega (arith, o.fits);
        },
        j p w.ended.1,
      );
    }
with_terms (refuse n q) g w h same j = absurd w.ended

-- the same words, read at another place
pub placed : {m k at to sp lg : ℕ} {T T' : Walk → Piece → Type 0} {s cs s1 cs1 : List ℕ} {a : Walk} (at' : ℕ) (b : Walk) (x : Res Piece)
    → Walked m T x k at to sp lg s cs s1 cs1 (Ok a) → b.next ≡ at' + k → b.to ≡ a.to → a.log ≡ b.log → ((p : Piece) → T a p → T' b p)
    → Walked m T' x k at' to sp lg s cs s1 cs1 (Ok b)
placed at' b (refuse n q) w en et el j = absurd w.ended
placed {m} {k} {at} {to} {sp} {lg} {T} {T'} {s} {cs} {s1} {cs1} {a} at' b (ok p) w en et el j =
    let o = w.ended.0 in
    record {
      kept = subst (Kept to (to + 4 * k) sp (sp + k) lg (lg + k) s cs s1 cs1) el w.kept;
      ended = (record { next = en; to = et ∙ o.to; counters = o.counters; written = o.written; fits = o.fits }, j p w.ended.1);
    }

-- nothing is walked
pub none_walked : {T : Walk → Piece → Type 0} (sp : ℕ) (s cs : List ℕ) (a : Walk) → T a (nothing cs)
    → Walked 0 T (ok (nothing cs)) 0 a.next a.to sp a.log s cs s cs (Ok a)
none_walked sp s cs a h =
    record {
      kept = kept_none a.to (a.to + 4 * 0) sp (sp + 0) a.log (a.log + 0) s cs (omega arith);
      ended = (record { next = omega arith; to = omega arith; counters = refl; written = refl; fits = omega arith }, h);
    }

-- ---- one walk after another, whose stack starts at sp2

module _ (k1 k2 at to sp sp2 lg : ℕ) (s cs s1 cs1 s2 cs2 : List ℕ) (a : Walk) (stackRoom : sp + (k1 + k2) ≤ lg) (spFrom : sp ≤ sp2) (spTo : sp2 ≤ sp + k1) where
  rest : {log : ℕ} → Kept to (to + 4 * k1) sp (sp + k1) lg (lg + k1) s cs s1 cs1 a.log → a.to ≤ to + 4 * k1
      → Kept a.to (a.to + 4 * k2) sp2 (sp2 + k2) a.log (a.log + k2) s1 cs1 s2 cs2 log
      → Kept a.to (to + 4 * (k1 + k2)) sp (sp + (k1 + k2)) a.log (lg + (k1 + k2)) s1 cs1 s2 cs2 log
  rest one u two =
      let i = one.in_log in
      kept_wide a.to (to + 4 * (k1 + k2)) sp (sp + (k1 + k2)) (lg + (k1 + k2)) two (omega arith) (omega arith) (omega arith) (omega arith) (omega arith)

  whole : {log : ℕ} → Kept to (to + 4 * k1) sp (sp + k1) lg (lg + k1) s cs s1 cs1 a.log → to ≤ a.to → a.to ≤ to + 4 * k1
      → Kept a.to (a.to + 4 * k2) sp2 (sp2 + k2) a.log (a.log + k2) s1 cs1 s2 cs2 log
      → Kept to (to + 4 * (k1 + k2)) sp (sp + (k1 + k2)) lg (lg + (k1 + k2)) s cs s2 cs2 log
  whole one f u two =
      kept_then (omega arith)
      (kept_wide to (to + 4 * (k1 + k2)) sp (sp + (k1 + k2)) (lg + (k1 + k2)) one (omega arith) (omega arith) (omega arith) (omega arith) (omega arith))
      (kept_wide to (to + 4 * (k1 + k2)) sp (sp + (k1 + k2)) (lg + (k1 + k2)) (rest one u two) f (omega arith) (omega arith) (omega arith) (omega arith))

  pub walk_then : {m1 m2 : ℕ} {T1 T2 : Walk → Piece → Type 0} {r : Result Walk Stopped} (m : ℕ) (T : Walk → Piece → Type 0) (x : Res Piece)
      (y : List ℕ → Res Piece)
      → m ≡ m1 + m2 → Walked m1 T1 x k1 at to sp lg s cs s1 cs1 (Ok a)
      → Walked m2 T2 (y cs1) k2 a.next a.to sp2 a.log s1 cs1 s2 cs2 r
      → ((b : Walk) (p q : Piece) → T1 a p → T2 b q → T b (both p q)) → Walked m T (and_then x y) (k1 + k2) at to sp lg s cs s2 cs2 r
  walk_then m T (refuse n q) y e w w2 j = absurd w.ended
  walk_then {m1} {m2} {T1} {T2} {r} m T (ok p) y e w w2 j =
      last (y p.next) r (subst (λ (l : List ℕ). Walked m2 T2 (y l) k2 a.next a.to sp2 a.log s1 cs1 s2 cs2 r) w.ended.0.counters w2)
    where
      last : (z : Res Piece) (v : Result Walk Stopped) → Walked m2 T2 z k2 a.next a.to sp2 a.log s1 cs1 s2 cs2 v
          → Walked m T (◌>>=◌ z (λ q. ok (both p q))) (k1 + k2) at to sp lg s cs s2 cs2 v
      last (refuse n q) (Ok b) z = absurd z.ended
      last (ok q) (Err f) z = absurd z.ended
      last (refuse n q) (Err f) z =
          let g = went (ok p) w in
          record { kept = whole w.kept g.from (omega (arith, g.up_to)) z.kept; ended = z.ended }
      last (ok q) (Ok b) z =
          let g = went (ok p) w in
          let u = w.ended.0 in
          let v = z.ended.0 in
          let l = length-append p.words q.words in
          record {
            kept = whole w.kept g.from (omega (arith, g.up_to)) z.kept;
            ended = (
              record {
                next = omega (arith, u.next, v.next);
                to = omega (arith, u.to, v.to);
                counters = v.counters;
                written = joined to p.words q.words (rest w.kept (omega (arith, g.up_to)) z.kept) u.to u.written v.written;
                fits = omega (arith, u.fits, v.fits);
              },
              j b p q w.ended.1 z.ended.1,
            );
          }

-- ---- the stack

-- a word goes onto it
pub stored : {m k at to sp lg : ℕ} {T T' : Walk → Piece → Type 0} {s cs s1 cs1 s2 : List ℕ} {a : Walk} (v : ℕ) (x : Res Piece)
    → Walked m T x k at to sp lg s cs s1 cs1 (Ok a)
    → s2 ≡ set s1 sp v → 0 < k → to + 4 * k ≤ sp → sp + k ≤ lg → lg + k ≤ length s → ((p : Piece) → get_or s2 sp 0 ≡ v → sp < length s2 → T a p → T' a p)
    → Walked m T' x k at to sp lg s cs s2 cs1 (Ok a)
stored v (refuse n q) w put h r1 r2 r3 j = absurd w.ended
stored {m} {k} {at} {to} {sp} {lg} {T} {T'} {s} {cs} {s1} {cs1} {s2} {a} v (ok p) w put h r1 r2 r3 j =
    let o = w.ended.0 in
    let g = went (ok p) w in
    let z = w.kept.size in
    let n : length s2 ≡ length s1 = ap length put ∙ length-set s1 sp v in
    let here : get_or s2 sp 0 ≡ v = ap (λ (l : List ℕ). get_or l sp 0) put ∙ get_or-set_same s1 sp v 0 (omega arith) in
    let same : (i : ℕ) → i < sp → get_or s2 i 0 ≡ get_or s1 i 0 = λ i j. ap (λ (l : List ℕ). get_or l i 0) put ∙ get_or-set_other s1 sp i v 0 (λ e. omega arith) in
    let t = o.to in
    let f = g.up_to in
    let lf = g.log_from in
    let lt = g.log_up_to in
    record {
      kept = kept_then (omega arith) w.kept (kept_push to (to + 4 * k) sp (sp + k) a.log (lg + k) v s1 cs1 s2 (omega arith) (omega arith) lt put);
      ended = (
        record {
          next = o.next;
          to = o.to;
          counters = o.counters;
          written = part_same s1 s2 to (length p.words) n (λ i c d. same i (omega arith)) ∙ o.written;
          fits = o.fits;
        },
        j p here (omega arith) w.ended.1,
      );
    }

-- the term of an expression does
pub pushed : {k at to sp lg : ℕ} {s cs s1 cs1 s2 : List ℕ} {a : Walk} (x : Res Piece) → Walked 1 (InAnswer lg) x k at to sp lg s cs s1 cs1 (Ok a)
    → s2 ≡ set s1 sp a.term → 0 < k → to + 4 * k ≤ sp → sp + k ≤ lg → lg + k ≤ length s → Walked 1 (OnStack sp 1 lg s2) x k at to sp lg s cs s2 cs1 (Ok a)
pushed {sp = sp} {s2 = s2} {a = a} x w put h r1 r2 r3 =
    stored a.term x w put h r1 r2 r3
    (λ p here room t. record { size = ap length t.term; terms = part_one s2 sp a.term room here ∙ sym t.term; uses = t.uses })

-- terms below those of a walk that follows stay where they are
pub stacked : {to te sp m1 m2 se lg l1 le : ℕ} {s1 cs1 s2 cs2 : List ℕ} {a : Walk} {log : ℕ} (b : Walk) (p q : Piece) (n : ℕ) → n ≡ m1 + m2 → te ≤ sp
    → l1 ≡ a.log
    → Kept to te (sp + m1) se l1 le s1 cs1 s2 cs2 log → OnStack sp m1 lg s1 a p → OnStack (sp + m1) m2 l1 s2 b q → OnStack sp n lg s2 b (both p q)
stacked {sp = sp} {m1 = m1} {m2 = m2} {s1 = s1} {s2 = s2} b p q n e h el k u v =
    let l = length-append p.terms q.terms in
    let low : part s2 sp m1 ≡ p.terms = part_same s1 s2 sp m1 k.size (λ i c d. k.between i (omega arith) d) ∙ u.terms in
    record {
      size = omega (arith, u.size, v.size);
      terms = ap (part s2 sp) e ∙ part_join s2 sp m1 m2 ∙ (λ i. low i ++ v.terms i);
      uses = omega (arith, u.uses, v.uses);
    }

-- ---- words behind what was written

-- a piece with the words ys behind it, and these counters
pub record Own (T : Piece → Type 0) (p : Piece) (ys next : List ℕ) (g : Piece) : Type 0 where
  pub words : g.words ≡ p.words ++ ys
  pub counters : g.next ≡ next
  pub terms : T g

-- K words were read from `at` on, and the piece p was made of them, whose words end at w. With ys there, up to e, the piece is g
module _ (m K at to sp lg w log e t : ℕ) (s cs s2 cs2 s3 ys next : List ℕ) (p g : Piece)
    (wordsRoom : to + 4 * K ≤ sp) (stackRoom : sp + K ≤ lg) (logRoom : lg + K ≤ length s)
    (one : Kept to (to + 4 * K) sp (sp + K) lg (lg + K) s cs s2 cs2 log) (here : w ≡ to + length p.words) (there : part s2 to (length p.words) ≡ p.words)
    (fits : length p.words + (length ys + m) ≤ 4 * K) (put : s3 ≡ splice s2 w ys) (ends : e ≡ w + length ys) where
  behind : Kept w (to + 4 * K) sp (sp + K) log (lg + K) s2 cs2 s3 cs2 log
  behind =
      let z = one.size in
      let l = one.in_log in
      kept_put w (to + 4 * K) sp (sp + K) log (lg + K) w ys s2 cs2 s3 (omega arith) (omega arith) (omega arith) (omega arith) (omega arith) (omega arith) put

  own_done : {T : Walk → Piece → Type 0} (nx : ℕ) → nx ≡ at + K → cs2 ≡ next → Own (T (reached_at nx e log t)) p ys next g
      → Walked m T (ok g) K at to sp lg s cs s3 cs2 (Ok (reached_at nx e log t))
  own_done nx en ec o =
      let l = length-append p.words ys in
      let n : length g.words ≡ length (p.words ++ ys) = ap length o.words in
      let z = one.size in
      record {
        kept = kept_then (omega arith) one (kept_wide to (to + 4 * K) sp (sp + K) (lg + K) behind (omega arith) (omega arith) (omega arith) (omega arith) (omega arith));
        ended = (
          record {
            next = en;
            to = omega arith;
            counters = ec ∙ sym o.counters;
            written = ap (part s3 to) n ∙ joined to p.words ys behind here there (spliced s2 s3 ys w (omega arith) put) ∙ sym o.words;
            fits = omega arith;
          },
          o.terms,
        );
      }

-- K words were read in all, of which the walk read k
pub written : {m1 : ℕ} {T1 : Walk → Piece → Type 0} (m : ℕ) (T : Walk → Piece → Type 0) (k K at1 at to sp lg : ℕ) (s cs s1 cs1 s2 ys : List ℕ) (a : Walk)
    (e t : ℕ) (x : Res Piece)
    (g : Piece → Piece) → to + 4 * K ≤ sp → sp + K ≤ lg → lg + K ≤ length s → k ≤ K → at1 + k ≡ at + K → 4 * k + (length ys + m) ≤ m1 + 4 * K
    → Walked m1 T1 x k at1 to sp lg s cs s1 cs1 (Ok a) → s2 ≡ splice s1 a.to ys → e ≡ a.to + length ys
    → ((p : Piece) → T1 a p → Own (T (reached_at a.next e a.log t)) p ys p.next (g p))
    → Walked m T (◌>>=◌ x (λ p. ok (g p))) K at to sp lg s cs s2 cs1 (Ok (reached_at a.next e a.log t))
written m T k K at1 at to sp lg s cs s1 cs1 s2 ys a e t (refuse n q) g r1 r2 r3 h ha few w put ee own = absurd w.ended
written m T k K at1 at to sp lg s cs s1 cs1 s2 ys a e t (ok p) g r1 r2 r3 h ha few w put ee own =
    let o = w.ended.0 in
    let kk = kept_wide to (to + 4 * K) sp (sp + K) (lg + K) w.kept (omega arith) (omega arith) (omega arith) (omega arith) (omega arith) in
    own_done m K at to sp lg a.to a.log e t s cs s1 cs1 s2 ys p.next p (g p) r1 r2 r3 kk o.to o.written (omega (arith, o.fits)) put ee
    {T = T} a.next (omega (arith, o.next)) o.counters (own p w.ended.1)

-- ---- a fresh variable

-- its counter is used up, before anything else
pub full_first : {m : ℕ} {T : Walk → Piece → Type 0} (k at to sp lg : ℕ) (s cs s1 cs1 : List ℕ) (e : Stopped) (x : Res Fresh) (f : Fresh → Res Piece)
    → Taken x lg s cs s1 cs1 (Err e)
    → Walked m T (◌>>=◌ x f) k at to sp lg s cs s1 cs1 (Err e)
full_first k at to sp lg s cs s1 cs1 e (ok g) f u = absurd u
full_first k at to sp lg s cs s1 cs1 e (refuse n p) f u =
    record {
      kept = rw (u.counters, u.scratch, u.log) (kept_none to (to + 4 * k) sp (sp + k) lg (lg + k) s cs (omega arith));
      ended = u.refuses;
    }

-- it is taken first, and a walk follows whose frame starts behind the use
module _ (k at to sp lg v : ℕ) (s cs s1 cs1 s2 cs2 : List ℕ)
    (wordsRoom : to + 4 * (1 + k) ≤ sp) (stackRoom : sp + (1 + k) ≤ lg) (logRoom : lg + (1 + k) ≤ length s) (hc : length cs1 ≡ length cs) where
  entered : {log : ℕ} (f : Fresh) → Taken (ok f) lg s cs s1 cs1 (Ok v) → Kept to (to + 4 * k) sp (sp + k) (lg + 1) (lg + 1 + k) s1 cs1 s2 cs2 log
      → Kept to (to + 4 * (1 + k)) sp (sp + (1 + k)) lg (lg + (1 + k)) s cs s2 cs2 log
  entered f u w =
      kept_then (omega arith)
      (kept_log to (to + 4 * (1 + k)) sp (sp + (1 + k)) lg (lg + (1 + k)) v s cs s1 cs1 (omega arith) (omega arith) (omega arith) (omega arith) u.logged hc u.grown u.undo)
      (kept_wide to (to + 4 * (1 + k)) sp (sp + (1 + k)) (lg + (1 + k)) w (omega arith) (omega arith) (omega arith) (omega arith) (omega arith))

  -- what follows is refused
  pub first_stop : {m m' : ℕ} {T T' : Walk → Piece → Type 0} {e : Stopped} (x : Res Fresh) (y : List ℕ → Res Piece) (g : Fresh → Piece → Piece)
      → Taken x lg s cs s1 cs1 (Ok v)
      → Walked m T (y cs1) k (at + 1) to sp (lg + 1) s1 cs1 s2 cs2 (Err e)
      → Walked m' T' (◌>>=◌ x (λ f. ◌>>=◌ (y f.next) (λ p. ok (g f p)))) (1 + k) at to sp lg s cs s2 cs2 (Err e)
  first_stop (refuse n p) y g u w = absurd u
  first_stop {m} {m'} {T} {T'} {e} (ok f) y g u w =
      go (y f.next) (subst (λ (l : List ℕ). Walked m T (y l) k (at + 1) to sp (lg + 1) s1 cs1 s2 cs2 (Err e)) u.next w)
    where
      go : (z : Res Piece) → Walked m T z k (at + 1) to sp (lg + 1) s1 cs1 s2 cs2 (Err e)
          → Walked m' T' (◌>>=◌ z (λ p. ok (g f p))) (1 + k) at to sp lg s cs s2 cs2 (Err e)
      go (ok p) w = absurd w.ended
      go (refuse n p) w = record { kept = entered f u w.kept; ended = w.ended }

  -- the words ys are written behind it
  pub first_done : {n : ℕ} {T : Walk → Piece → Type 0} (m : ℕ) (T' : Walk → Piece → Type 0) (s3 ys : List ℕ) (a : Walk) (e t : ℕ) (x : Res Fresh)
      (y : List ℕ → Res Piece)
      (g : Fresh → Piece → Piece) → length ys + m ≤ n + 4 → Taken x lg s cs s1 cs1 (Ok v)
      → Walked n T (y cs1) k (at + 1) to sp (lg + 1) s1 cs1 s2 cs2 (Ok a) → s3 ≡ splice s2 a.to ys → e ≡ a.to + length ys
      → ((f : Fresh) (p : Piece) → v ≡ f.var → T a p → Own (T' (reached_at a.next e a.log t)) p ys p.next (g f p))
      → Walked m T' (◌>>=◌ x (λ f. ◌>>=◌ (y f.next) (λ p. ok (g f p)))) (1 + k) at to sp lg s cs s3 cs2 (Ok (reached_at a.next e a.log t))
  first_done m T' s3 ys a e t (refuse i p) y g few u w put ee own = absurd u
  first_done {n} {T} m T' s3 ys a e t (ok f) y g few u w put ee own =
      go (y f.next) (subst (λ (l : List ℕ). Walked n T (y l) k (at + 1) to sp (lg + 1) s1 cs1 s2 cs2 (Ok a)) u.next w)
    where
      go : (z : Res Piece) → Walked n T z k (at + 1) to sp (lg + 1) s1 cs1 s2 cs2 (Ok a)
          → Walked m T' (◌>>=◌ z (λ p. ok (g f p))) (1 + k) at to sp lg s cs s3 cs2 (Ok (reached_at a.next e a.log t))
      go (refuse i p) w = absurd w.ended
      go (ok p) w =
          let o = w.ended.0 in
          own_done m (1 + k) at to sp lg a.to a.log e t s cs s2 cs2 s3 ys p.next p (g f p) wordsRoom stackRoom logRoom (entered f u w.kept) o.to o.written
          (omega (arith, o.fits)) put ee {T = T'} a.next (omega (arith, o.next)) o.counters (own f p u.var w.ended.1)

-- it is taken after a walk: K words were read in all, of which the walk read k. The place of the kind 3 word is q
module _ (k K at1 at to sp lg h q : ℕ) (s cs s1 cs1 s2 cs2 : List ℕ) (a : Walk) where
  -- the words ys are written behind what the walk wrote
  module _ (v n m : ℕ) (T : Walk → Piece → Type 0) (s3 ys : List ℕ) (e t : ℕ) (wordsRoom : to + 4 * K ≤ sp) (stackRoom : sp + K ≤ lg)
      (logRoom : lg + K ≤ length s)
      (less : 1 + k ≤ K) (many : n ≤ k) (ends : at1 + k ≡ at + K) (few : 4 * k + (length ys + m) ≤ n + 4 * K) (hc : length cs2 ≡ length cs1)
      (put : s3 ≡ splice s2 a.to ys) (there : e ≡ a.to + length ys) where
    logs : (f : Fresh) → Taken (ok f) a.log s1 cs1 s2 cs2 (Ok v) → Kept to (to + 4 * k) sp (sp + k) lg (lg + k) s cs s1 cs1 a.log → a.to ≤ sp
        → Kept a.to (to + 4 * K) sp sp a.log (lg + K) s1 cs1 s2 cs2 (a.log + 1)
    logs f u w r =
        let z = w.size in
        let up = w.up_to in
        let il = w.in_log in
        kept_log a.to (to + 4 * K) sp sp a.log (lg + K) v s1 cs1 s2 cs2 (omega arith) (omega arith) (omega arith) (omega arith) u.logged hc u.grown u.undo

    pub last_done : (x : Res Piece) (g : Piece → Fresh → Piece) → Walked n (OnStack sp n lg s1) x k at1 to sp lg s cs s1 cs1 (Ok a)
        → Taken (fresh q h cs1) a.log s1 cs1 s2 cs2 (Ok v)
        → ((p : Piece) (f : Fresh) → OnStack sp n lg s2 a p → v ≡ f.var → Own (T (reached_at a.next e (a.log + 1) t)) p ys f.next (g p f))
        → Walked m T (◌>>=◌ x (λ p. ◌>>=◌ (fresh q h p.next) (λ f. ok (g p f)))) K at to sp lg s cs s3 cs2 (Ok (reached_at a.next e (a.log + 1) t))
    last_done (refuse i p) g w u own = absurd w.ended
    last_done (ok p) g w u own =
        go (fresh q h p.next) (subst (λ (l : List ℕ). Taken (fresh q h l) a.log s1 cs1 s2 cs2 (Ok v)) w.ended.0.counters u)
      where
        go : (y : Res Fresh) → Taken y a.log s1 cs1 s2 cs2 (Ok v)
            → Walked m T (◌>>=◌ y (λ f. ok (g p f))) K at to sp lg s cs s3 cs2 (Ok (reached_at a.next e (a.log + 1) t))
        go (refuse i j) u = absurd u
        go (ok f) u =
            let o = w.ended.0 in
            let st = w.ended.1 in
            let w1 = went (ok p) w in
            let g1 = w1.from in
            let g2 = w1.up_to in
            let g3 = w1.log_from in
            let g4 = w1.log_up_to in
            let kl = logs f u w.kept (omega arith) in
            let kk =
            kept_then (omega arith)
            (kept_wide to (to + 4 * K) sp (sp + K) (lg + K) w.kept (omega arith) (omega arith) (omega arith) (omega arith) (omega arith))
            (kept_wide to (to + 4 * K) sp (sp + K) (lg + K) kl g1 (omega arith) (omega arith) (omega arith) (omega arith)) in
            let on : OnStack sp n lg s2 a p = record { size = st.size; terms = part_same s1 s2 sp n kl.size (λ i c d. kl.above i c (omega arith)) ∙ st.terms; uses = st.uses } in
            let old : part s2 to (length p.words) ≡ p.words =
            part_same s1 s2 to (length p.words) kl.size (λ i c d. kl.below i (omega (arith, o.to))) ∙ o.written in
            own_done m K at to sp lg a.to (a.log + 1) e t s cs s2 cs2 s3 ys f.next p (g p f) wordsRoom stackRoom logRoom kk o.to old (omega (arith, o.fits)) put there
            {T = T} a.next (omega (arith, o.next)) u.next (own p f on u.var)

-- a walk that is done tells no term where its piece says so
pub none_told : {m k at to sp lg : ℕ} {T : Walk → Piece → Type 0} {s cs s1 cs1 : List ℕ} {a : Walk} (x : Res Piece)
    → Walked m T x k at to sp lg s cs s1 cs1 (Ok a)
    → ((p : Piece) → T a p → a.term ≡ 0) → a.term ≡ 0
none_told (ok p) w j = j p w.ended.1
none_told (refuse n q) w j = absurd w.ended

-- of a walk that is refused nothing is said of a piece
pub halted : {m m' k at to sp lg : ℕ} {T T' : Walk → Piece → Type 0} {s cs s1 cs1 : List ℕ} {e : Stopped} (x : Res Piece)
    → Walked m T x k at to sp lg s cs s1 cs1 (Err e)
    → Walked m' T' x k at to sp lg s cs s1 cs1 (Err e)
halted (ok p) w = absurd w.ended
halted (refuse n q) w = record { kept = w.kept; ended = w.ended }

-- the same walk, more said of its piece
pub retold : {m k at to sp lg : ℕ} {T T' : Walk → Piece → Type 0} {s cs s1 cs1 : List ℕ} {r : Result Walk Stopped} (x : Res Piece)
    → Walked m T x k at to sp lg s cs s1 cs1 r
    → ((a : Walk) (p : Piece) → T a p → T' a p) → Walked m T' x k at to sp lg s cs s1 cs1 r
retold {r = Ok a} (ok p) w j = record { kept = w.kept; ended = (w.ended.0, j a p w.ended.1) }
retold {r = Err e} (refuse n q) w j = record { kept = w.kept; ended = w.ended }
retold {r = Ok a} (refuse n q) w j = absurd w.ended
retold {r = Err e} (ok p) w j = absurd w.ended
