-- Passing over an expression, whose end is not written: a forest of expressions that is left to be passed. Assumes nothing.
use mathlib.Core.Path.{◌≡◌, refl, sym, subst}
use mathlib.Core.Bool.{Bool, true, false, cond}
use mathlib.Core.List.{List}
use Prim.Native.Nat.{ℕ, zero, suc, ◌+◌, ◌-◌, ◌^◌, ◌≤◌, ◌<◌}
use native.Mathlib.Omega.{arith}
use lib.Dec.{ltb}
use lib.ListN.{length, get_or}
use borrow.Author.Tests.{ltb-true, ltb-false}
use Rattle.rules.specs.Words.{limit12, max_depth, literal_base, head_base, count_of}
use Rattle.rules.specs.Refusals.{ok}
use Rattle.rules.specs.Signature.{Sig, heads}
use Rattle.rules.specs.Written.{read_expr, read_many}
use Rattle.walks.specs.Steps.{Under, ExprAt, ExprsAt}
use Rattle.walks.proofs.Read.{expr_some, leaf_cases, call_cases, first_cases, none_cases}
use Rattle.walks.proofs.Asks.{expr_inside}
use Rattle.core_actions.specs.Unions.{arity_of}

module _ (sig : Sig) (ws : List ℕ) where
  -- n expressions from `at` on, which end at e
  abbrev pub Forest : ℕ → ℕ → ℕ → Type 0
  Forest zero at e = at ≡ e
  Forest (suc n) at e = (d : ℕ) × (x : ExprAt sig ws d at) × Forest n (at + x.size) e

  forest_in : (n at e : ℕ) → Forest n at e → at + n ≤ e
  forest_in zero at e f = omega arith
  forest_in (suc n) at e f = omega (arith, expr_some sig ws f.0 at f.1, forest_in n (at + f.1.size) e f.2)

  forest_none : (n at e : ℕ) → Forest n at e → n ≡ 0 → at ≡ e
  forest_none zero at e f z = f
  forest_none (suc n) at e f z = absurd (omega arith)

  -- expressions in front of others
  front : (d n m at e : ℕ) (x : ExprsAt sig ws d n at) → Forest m (at + x.size) e → Forest (n + m) at e
  front d zero m at e x f =
      let same : m ≡ 0 + m = omega arith in
      subst (λ (k : ℕ). Forest k at e) same (none_cases sig ws (λ es k. Forest m (at + k) e → Forest m at e) d zero at x refl (λ g. here g) f)
    where
      here : Forest m (at + 0) e → Forest m at e
      here = let z : at + 0 ≡ at = omega arith in subst (λ (k : ℕ). Forest m k e) z
  front d (suc n) m at e x f =
      let same : suc (n + m) ≡ suc n + m = omega arith in
      subst (λ (k : ℕ). Forest k at e) same
      (first_cases sig ws (λ es k. Forest m (at + k) e → Forest (suc (n + m)) at e) d (suc n) at x (omega arith) (λ y ys g. next (λ a z h. front d n m a e z h) y ys g) f)
    where
      next : ((a : ℕ) (z : ExprsAt sig ws d n a) → Forest m (a + z.size) e → Forest (n + m) a e)
          → (y : ExprAt sig ws d at) (ys : ExprsAt sig ws d (suc n - 1) (at + y.size)) → Forest m (at + (y.size + ys.size)) e → Forest (suc (n + m)) at e
      next again y ys g =
          let less : suc n - 1 ≡ n = omega arith in
          let there : at + (y.size + ys.size) ≡ at + y.size + ys.size = omega arith in
          let zs : ExprsAt sig ws d n (at + y.size) =
          record {
            value = ys.value;
            size = ys.size;
            reads = subst (λ (k : ℕ). read_many (read_expr sig ws d) k (at + y.size) ≡ ok (record { value = ys.value; at = at + y.size + ys.size })) less ys.reads;
            inside = ys.inside;
          } in
          (d, y, again (at + y.size) zs (subst (λ (k : ℕ). Forest m k e) there g))

  module _ (few : heads sig ≤ limit12) where
    -- the first word of the next expression is passed
    forest_step : (left at e w : ℕ) → Forest left at e → 0 < left → w ≡ get_or ws at 0 → Forest (left - 1 + arity_of w) (at + 1) e
    forest_step zero at e w f h is = absurd (omega arith)
    forest_step (suc n) at e w f h is = go (ltb w literal_base) refl
      where
        go : (b : Bool) → ltb w literal_base ≡ b → Forest (suc n - 1 + cond b (count_of w) 0) (at + 1) e
        go true t =
            let count : count_of w + n ≡ suc n - 1 + count_of w = omega arith in
            subst (λ (k : ℕ). Forest k (at + 1) e) count
            (call_cases sig ws few (λ t k. Forest n (at + k) e → Forest (count_of w + n) (at + 1) e) f.0 at w f.1 is (ltb-true w literal_base t)
            (λ es deep high hd g. inner es g) f.2)
          where
            inner : (es : ExprsAt sig ws (f.0 - 1) (count_of w) (at + 1)) → Forest n (at + (1 + es.size)) e → Forest (count_of w + n) (at + 1) e
            inner es g = let there : at + (1 + es.size) ≡ at + 1 + es.size = omega arith in front (f.0 - 1) (count_of w) n (at + 1) e es (subst (λ (k : ℕ). Forest n k e) there g)
        go false t =
            let count : n ≡ suc n - 1 + 0 = omega arith in
            subst (λ (k : ℕ). Forest k (at + 1) e) count
            (leaf_cases sig ws few (λ t k. Forest n (at + k) e → Forest n (at + 1) e) f.0 at w f.1 is (ltb-false w literal_base t) (λ i o g. g) f.2)

    -- where a word is wanted, there is one, and it begins an expression
    forest_here : (left at e w : ℕ) → Forest left at e → 0 < left → w ≡ get_or ws at 0 → (at < length ws) × (head_base ≤ w)
    forest_here zero at e w f h is = absurd (omega arith)
    forest_here (suc n) at e w f h is = (expr_inside sig ws f.0 at f.1, go (ltb w literal_base) refl)
      where
        go : (b : Bool) → ltb w literal_base ≡ b → head_base ≤ w
        go true t = call_cases sig ws few (λ t k. head_base ≤ w) f.0 at w f.1 is (ltb-true w literal_base t) (λ es deep high hd. high)
        go false t = omega (arith, ltb-false w literal_base t)

-- ---- how it is passed word by word

-- what the contract says of an answer
abbrev pub Passed : List ℕ → ℕ → ℕ → Type 0
Passed ws at p = (sig : Sig) (x : ExprAt sig ws max_depth at) → heads sig ≤ limit12 → p ≡ at + x.size

-- from `next` on, `left` expressions are left, and these end where the one at `at` does
pub record Passing (ws : List ℕ) (at left next : ℕ) : Type 0 where
  pub known : Under (λ sig. ExprAt sig ws max_depth at × (heads sig ≤ limit12))
  pub fits : length ws + 65536 < 2 ^ 64
  pub rest : (sig : Sig) (x : ExprAt sig ws max_depth at) → heads sig ≤ limit12 → Forest sig ws left next (at + x.size)

pub passing : {ws : List ℕ} {at : ℕ} → Under (λ sig. ExprAt sig ws max_depth at × (heads sig ≤ limit12)) → length ws + 65536 < 2 ^ 64 → Passing ws at 1 at
passing q fits = record { known = q; fits = fits; rest = λ sig x few. (max_depth, x, refl) }

module _ {ws : List ℕ} {at left next : ℕ} (g : Passing ws at left next) where
  abbrev forest : Forest g.known.sig ws left next (at + g.known.known.0.size)
  forest = g.rest g.known.sig g.known.known.0 g.known.known.1

  pub left_few : left ≤ length ws
  left_few =
      let x = g.known.known.0 in
      omega (arith, forest_in g.known.sig ws left next (at + x.size) forest, x.inside)

  pub passed : left ≡ 0 → Passed ws at next
  passed z sig x few = forest_none sig ws left next (at + x.size) (g.rest sig x few) z

  -- one more is to be passed: it begins with w, and n stand under it
  module _ (some : 0 < left) where
    pub next_inside : next < length ws
    next_inside = (forest_here g.known.sig ws g.known.known.1 left next _ (get_or ws next 0) forest some refl).0

    pub word_high : {w : ℕ} → w ≡ get_or ws next 0 → head_base ≤ w
    word_high {w} is = (forest_here g.known.sig ws g.known.known.1 left next _ w forest some is).1

    pub pass_word : {w n : ℕ} → w ≡ get_or ws next 0 → n ≡ arity_of w → Passing ws at (left - 1 + n) (next + 1)
    pass_word {w} is under =
        record {
          known = g.known;
          fits = g.fits;
          rest =
              λ sig x few. subst (λ (i : ℕ). Forest sig ws (left - 1 + i) (next + 1) (at + x.size)) (sym under)
              (forest_step sig ws few left next (at + x.size) w (g.rest sig x few) some is);
        }
