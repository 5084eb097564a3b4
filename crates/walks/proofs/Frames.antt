-- Laws of the frame that every step keeps: nothing done, one step after another, and each single store. Assumes nothing.
use mathlib.Core.Path.{◌≡◌, refl, sym, ap, ◌∙◌}
use mathlib.Core.List.{List, ◌++◌}
use Prim.Native.Nat.{ℕ, ◌+◌, ◌-◌, ◌≤◌, ◌<◌}
use native.Mathlib.Omega.{arith}
use lib.ListN.{length, get_or, set, length-append, length-set}
use lib.Seq.{get_or-set_other, get_or-set_same}
use Rattle.octets.specs.Regions.{splice, part}
use Rattle.octets.proofs.Splice.{part_splice, length_splice, get_or_splice_before, get_or_splice_after, part_same, part_join, part_one}
use Rattle.walks.specs.Log.{undone, total, used_head, used_count}
use Rattle.walks.proofs.Log.{undone_append, undone_one, undone_none}
use Rattle.walks.specs.Steps.{Kept}

pub kept_none : (to te sp se lg le : ℕ) (s cs : List ℕ) → lg ≤ le → Kept to te sp se lg le s cs s cs lg
kept_none to te sp se lg le s cs h =
    record {
      used = 0;
      up_to = omega arith;
      counts = refl;
      in_log = h;
      size = refl;
      heads = refl;
      undo = undone_none cs;
      below = λ i a. refl;
      between = λ i a b. refl;
      above = λ i a b. refl;
    }

-- wider bounds
pub kept_wide : {to te sp se lg le log : ℕ} {s cs s' cs' : List ℕ} (to0 te0 sp0 se0 le0 : ℕ) → Kept to te sp se lg le s cs s' cs' log
    → to0 ≤ to → te ≤ te0 → sp0 ≤ sp → se ≤ se0 → le ≤ le0 → Kept to0 te0 sp0 se0 lg le0 s cs s' cs' log
kept_wide to0 te0 sp0 se0 le0 k a b c d e =
    record {
      used = k.used;
      up_to = k.up_to;
      counts = k.counts;
      in_log = omega (arith, k.in_log);
      size = k.size;
      heads = k.heads;
      undo = k.undo;
      below = λ i x. k.below i (omega arith);
      between = λ i x y. k.between i (omega arith) (omega arith);
      above = λ i x y. k.above i (omega arith) y;
    }

-- one after another
pub kept_then : {to te sp se lg le mid log : ℕ} {s cs s1 cs1 s2 cs2 : List ℕ} → se ≤ lg → Kept to te sp se lg le s cs s1 cs1 mid
    → Kept to te sp se mid le s1 cs1 s2 cs2 log → Kept to te sp se lg le s cs s2 cs2 log
kept_then {lg = lg} {mid = mid} {s1 = s1} {cs1 = cs1} {s2 = s2} {cs2 = cs2} h a b =
    let up = a.up_to in
    let first : part s2 lg a.used ≡ part s1 lg a.used = part_same s1 s2 lg a.used b.size (λ i x y. b.above i (omega arith) (omega arith)) in
    let second : part s2 (lg + a.used) b.used ≡ part s2 mid b.used = ap (λ (j : ℕ). part s2 j b.used) (sym up) in
    record {
      used = a.used + b.used;
      up_to = omega (arith, b.up_to);
      counts = omega (arith, a.counts, b.counts);
      in_log = b.in_log;
      size = b.size ∙ a.size;
      heads = b.heads ∙ a.heads;
      undo =
          ap (λ (l : List ℕ). undone l cs2) (part_join s2 lg a.used b.used)
          ∙ undone_append (part s2 lg a.used) (part s2 (lg + a.used) b.used) cs2
          ∙ (λ i. undone (first i) (undone (second i) cs2))
          ∙ ap (undone (part s1 lg a.used)) b.undo
          ∙ a.undo;
      below = λ i x. b.below i x ∙ a.below i x;
      between = λ i x y. b.between i x y ∙ a.between i x y;
      above = λ i x y. b.above i x (omega arith) ∙ a.above i x y;
    }

-- a use is logged
pub kept_log : (to te sp se lg le v : ℕ) (s cs s' cs' : List ℕ) → to ≤ lg → sp ≤ lg → lg < length s → lg + 1 ≤ le → s' ≡ set s lg v → length cs' ≡ length cs
    → total cs' ≡ 1 + total cs → set cs' (used_head v) (used_count v) ≡ cs → Kept to te sp se lg le s cs s' cs' (lg + 1)
kept_log to te sp se lg le v s cs s' cs' a b c d e f g u =
    let same : (i : ℕ) → i < lg → get_or s' i 0 ≡ get_or s i 0 =
    λ i h. ap (λ (l : List ℕ). get_or l i 0) e ∙ get_or-set_other s lg i v 0 (λ z. omega arith) in
    let n : length s' ≡ length s = ap length e ∙ length-set s lg v in
    let here : lg < length s' = omega arith in
    record {
      used = 1;
      up_to = refl;
      counts = omega (arith, g);
      in_log = d;
      size = n;
      heads = f;
      undo = ap (λ (l : List ℕ). undone l cs') (part_one s' lg v here (ap (λ (l : List ℕ). get_or l lg 0) e ∙ get_or-set_same s lg v 0 c)) ∙ undone_one v cs' ∙ u;
      below = λ i x. same i (omega arith);
      between = λ i x y. same i (omega arith);
      above = λ i x y. same i y;
    }

-- a term goes onto the stack
pub kept_push : (to te sp se lg le v : ℕ) (s cs s' : List ℕ) → to ≤ sp → sp < se → lg ≤ le → s' ≡ set s sp v → Kept to te sp se lg le s cs s' cs lg
kept_push to te sp se lg le v s cs s' a b c e =
    let same : (i : ℕ) → (i ≡ sp → ⊥) → get_or s' i 0 ≡ get_or s i 0 =
    λ i h. ap (λ (l : List ℕ). get_or l i 0) e ∙ get_or-set_other s sp i v 0 h in
    record {
      used = 0;
      up_to = omega arith;
      counts = refl;
      in_log = c;
      size = ap length e ∙ length-set s sp v;
      heads = refl;
      undo = undone_none cs;
      below = λ i x. same i (λ z. omega arith);
      between = λ i x y. same i (λ z. omega arith);
      above = λ i x y. same i (λ z. omega arith);
    }

-- words are written at p
pub kept_put : (to te sp se lg le p : ℕ) (xs s cs s' : List ℕ) → to ≤ p → p + length xs ≤ te → te ≤ sp → sp ≤ se → sp ≤ length s → lg ≤ le → s' ≡ splice s p xs
    → Kept to te sp se lg le s cs s' cs lg
kept_put to te sp se lg le p xs s cs s' a b c d f g e =
    let in' : p ≤ length s = omega arith in
    let at : (i : ℕ) → get_or s' i 0 ≡ get_or (splice s p xs) i 0 = λ i. ap (λ (l : List ℕ). get_or l i 0) e in
    record {
      used = 0;
      up_to = omega arith;
      counts = refl;
      in_log = g;
      size = ap length e ∙ length_splice s p xs (omega arith);
      heads = refl;
      undo = undone_none cs;
      below = λ i x. at i ∙ get_or_splice_before s p xs i in' (omega arith);
      between = λ i x y. at i ∙ get_or_splice_after s p xs i in' (omega arith);
      above = λ i x y. at i ∙ get_or_splice_after s p xs i in' (omega arith);
    }

-- what is written before stands after a step that writes behind it
pub joined : {to te sp se lg le log : ℕ} {s1 cs1 s2 cs2 : List ℕ} (from : ℕ) (xs ys : List ℕ) → Kept to te sp se lg le s1 cs1 s2 cs2 log
    → to ≡ from + length xs → part s1 from (length xs) ≡ xs → part s2 to (length ys) ≡ ys → part s2 from (length (xs ++ ys)) ≡ xs ++ ys
joined {to = to} {s1 = s1} {s2 = s2} from xs ys k e a b =
    let first : part s2 from (length xs) ≡ xs = part_same s1 s2 from (length xs) k.size (λ i x y. k.below i (omega arith)) ∙ a in
    let second : part s2 (from + length xs) (length ys) ≡ ys = ap (λ (j : ℕ). part s2 j (length ys)) (sym e) ∙ b in
    ap (part s2 from) (length-append xs ys) ∙ part_join s2 from (length xs) (length ys) ∙ (λ i. first i ++ second i)

pub spliced : (s s' xs : List ℕ) (p : ℕ) → p ≤ length s → s' ≡ splice s p xs → part s' p (length xs) ≡ xs
spliced s s' xs p h e = ap (λ (l : List ℕ). part l p (length xs)) e ∙ part_splice s p xs h

-- the log from its start on takes the counters back
pub restored : {to te sp se lg le log : ℕ} {s cs s' cs' : List ℕ} → Kept to te sp se lg le s cs s' cs' log → undone (part s' lg (log - lg)) cs' ≡ cs
restored {lg = lg} {log = log} {s' = s'} {cs' = cs'} k =
    let e : log - lg ≡ k.used = omega (arith, k.up_to) in
    ap (λ (n : ℕ). undone (part s' lg n) cs') e ∙ k.undo
