-- Which unions become sets, from the definition and from the words that `as_set` reads. Assumes nothing.
use mathlib.Core.Path.{◌≡◌, refl, sym, ap, ◌∙◌}
use mathlib.Core.Bool.{Bool, true, false, ◌&&◌}
use mathlib.Core.List.{List}
use Prim.Native.Nat.{ℕ, ◌+◌, ◌^◌, ◌≤◌, ◌<◌}
use native.Mathlib.Omega.{arith}
use lib.Dec.{eqb, ltb}
use lib.ListN.{length, get_or}
use borrow.Author.Tests.{eq-eqb, ltb-true, ltb-false, le-leb, lt-leb}
use Rattle.rules.specs.Words.{limit12, max_depth, name_base, literal_base, head_base, signature_base, head_of}
use Rattle.rules.specs.Signature.{Sig, heads, is_constructor, is_name}
use Rattle.rules.specs.Written.{Expr, Exprs, leaf, call}
use Rattle.walks.specs.Steps.{Under, ExprAt}
use Rattle.walks.proofs.Read.{leaf_cases, call_cases}
use Rattle.walks.proofs.Asks.{expr_inside}
use Rattle.actions.specs.Acts.{PairAt}
use Rattle.std.specs.Prelude.{Option, Some, None}
use Rattle.std.proofs.Math.Bool.{and-false}
use Rattle.core_actions.specs.Unions.{Signed, set_side}
use Rattle.core_actions.specs.declared.unions.Side.{Side}
use Rattle.core_actions.specs.declared.unions.Side.TheVariants.{Left}
use Rattle.core_actions.proofs.Forests.{Passed}

-- what the contract says of an answer
abbrev pub Sides : List ℕ → List ℕ → ℕ → Option Side → Type 0
Sides gs ws at r = (sig : Sig) (x : PairAt sig ws at) → heads sig ≤ limit12 → Signed sig gs → r ≡ set_side sig x.left.value x.right.value

-- ---- a side is what its first word says

module _ (sig : Sig) (ws : List ℕ) (few : heads sig ≤ limit12) (at : ℕ) (x : ExprAt sig ws max_depth at) (w : ℕ) (is : w ≡ get_or ws at 0) where
  call_word : w < literal_base → (head_base ≤ w) × (head_of w < heads sig)
  call_word low = call_cases sig ws few (λ t k. (head_base ≤ w) × (head_of w < heads sig)) max_depth at w x is low (λ es deep high h. (high, h))

  leaf_size : literal_base ≤ w → x.size ≡ 1
  leaf_size high = leaf_cases sig ws few (λ t k. k ≡ 1) max_depth at w x is high (λ i o. refl)

  module _ (P : Expr → Type 0) where
    side_call : w < literal_base → ((es : Exprs) → P (call at (head_of w) es)) → P x.value
    side_call low f = call_cases sig ws few (λ t k. P t) max_depth at w x is low (λ es deep high h. f es.value)

    side_leaf : literal_base ≤ w → P (leaf at w) → P x.value
    side_leaf high p = leaf_cases sig ws few (λ t k. P t) max_depth at w x is high (λ i o. p)

    side : ((es : Exprs) → P (call at (head_of w) es)) → P (leaf at w) → P x.value
    side f p = go (ltb w literal_base) refl
      where
        go : (b : Bool) → ltb w literal_base ≡ b → P x.value
        go true t = side_call (ltb-true w literal_base t) f
        go false t = side_leaf (ltb-false w literal_base t) p

-- ---- how the words tell: what is known before the first is read

pub record Begun (gs ws : List ℕ) (at : ℕ) : Type 0 where
  pub known : Under (λ sig. PairAt sig ws at × (heads sig ≤ limit12) × Signed sig gs)
  pub rule_fits : length ws < 2 ^ 64
  pub flag : 3 < length gs
  pub left : at + 1 < length ws

module _ {gs ws : List ℕ} {at : ℕ} where
  pub begun : Under (λ sig. PairAt sig ws at × (heads sig ≤ limit12) × Signed sig gs) → length ws < 2 ^ 64 → Begun gs ws at
  begun q fits = record { known = q; rule_fits = fits; flag = omega (arith, q.known.2.inside); left = expr_inside q.sig ws max_depth (at + 1) q.known.0.left }

-- ---- the flag is on, and the left side begins with w

pub record Flagged (gs ws : List ℕ) (at w : ℕ) : Type 0 where
  pub begun : Begun gs ws at
  pub on : get_or gs 3 0 ≡ signature_base + 1
  pub is : w ≡ get_or ws (at + 1) 0

-- b says whether the kind 3 word w has a constructor's head
abbrev pub Kind : List ℕ → ℕ → Bool → Type 0
Kind gs w b = b ≡ eqb (get_or gs (4 + head_of w) 0) (signature_base + 1)

module _ {gs ws : List ℕ} {at w : ℕ} (f : Flagged gs ws at w) where
  flagged : (sig : Sig) → Signed sig gs → sig.flag ≡ true
  flagged sig sg = sg.flag ∙ eq-eqb _ _ f.on

  -- a call
  module _ (low : w < literal_base) where
    head_of_lem : (sig : Sig) (x : PairAt sig ws at) → heads sig ≤ limit12 → (head_base ≤ w) × (head_of w < heads sig)
    head_of_lem sig x few = call_word sig ws few (at + 1) x.left w f.is low

    -- of another head
    pub left_other : {b : Bool} → Kind gs w b → b ≡ false → Sides gs ws at None
    left_other kind no' sig x few sg =
        let other = sg.kinds (head_of w) (head_of_lem sig x few).1 ∙ sym kind ∙ no' in
        side_call sig ws few (at + 1) x.left w f.is (λ t. None ≡ set_side sig t x.right.value) low
        (λ es. by_right sig es other x.right.value)
      where
        by_right : (sig : Sig) (es : Exprs) → is_constructor sig (head_of w) ≡ false → (t : Expr) → None ≡ set_side sig (call (at + 1) (head_of w) es) t
        by_right sig es other (leaf q v) = sym (rw (other, and-false (is_name v && sig.flag)))
        by_right sig es other (call q h fs) = refl

    -- and behind it, at p, a right side that begins with v
    module _ {p v : ℕ} (passed : Passed ws (at + 1) p) (isv : v ≡ get_or ws p 0) where
      right_word : (sig : Sig) (x : PairAt sig ws at) → heads sig ≤ limit12 → v ≡ get_or ws (at + 1 + x.left.size) 0
      right_word sig x few = isv ∙ ap (λ (i : ℕ). get_or ws i 0) (passed sig x.left few)

      pub left_nameless : v < name_base → Sides gs ws at None
      left_nameless small sig x few sg =
          side_call sig ws few (at + 1) x.left w f.is (λ t. None ≡ set_side sig t x.right.value) low
          (λ es. side sig ws few (at + 1 + x.left.size) x.right v (right_word sig x few)
          (λ t. None ≡ set_side sig (call (at + 1) (head_of w) es) t) (λ fs. refl)
          (sym (rw (lt-leb name_base v small))))

      pub left_becomes : {b : Bool} → Kind gs w b → b ≡ true → name_base ≤ v → Sides gs ws at (Some Left)
      left_becomes kind yes' name sig x few sg =
          let constructs = sg.kinds (head_of w) (head_of_lem sig x few).1 ∙ sym kind ∙ yes' in
          side_call sig ws few (at + 1) x.left w f.is (λ t. Some Left ≡ set_side sig t x.right.value) low
          (λ es. side_leaf sig ws few (at + 1 + x.left.size) x.right v (right_word sig x few)
          (λ t. Some Left ≡ set_side sig (call (at + 1) (head_of w) es) t) (omega arith)
          (sym (rw (le-leb name_base v name, flagged sig sg, constructs))))

    pub passed_inside : {p : ℕ} → Passed ws (at + 1) p → p < length ws
    passed_inside passed =
        let q = f.begun.known in
        let x = q.known.0 in
        omega (arith, passed q.sig x.left q.known.1, expr_inside q.sig ws max_depth (at + 1 + x.left.size) x.right)

  -- a leaf
  module _ (high : literal_base ≤ w) where
    behind : (sig : Sig) (x : PairAt sig ws at) → heads sig ≤ limit12 → at + 1 + x.left.size ≡ at + 2
    behind sig x few = omega (arith, leaf_size sig ws few (at + 1) x.left w f.is high)

    pub right_inside : at + 2 < length ws
    right_inside =
        let q = f.begun.known in
        let x = q.known.0 in
        omega (arith, expr_inside q.sig ws max_depth (at + 1 + x.left.size) x.right, behind q.sig x q.known.1)

    -- a literal
    pub left_literal : w < name_base → Sides gs ws at None
    left_literal small sig x few sg =
        side_leaf sig ws few (at + 1) x.left w f.is (λ t. None ≡ set_side sig t x.right.value) high (by_right sig x.right.value)
      where
        by_right : (sig : Sig) (t : Expr) → None ≡ set_side sig (leaf (at + 1) w) t
        by_right sig (leaf q v) = refl
        by_right sig (call q h fs) = sym (rw (lt-leb name_base w small))

    -- and behind it a right side that begins with v
    module _ {v : ℕ} (isv : v ≡ get_or ws (at + 2) 0) where
      behind_word : (sig : Sig) (x : PairAt sig ws at) → heads sig ≤ limit12 → v ≡ get_or ws (at + 1 + x.left.size) 0
      behind_word sig x few = isv ∙ ap (λ (i : ℕ). get_or ws i 0) (sym (behind sig x few))

      -- a leaf
      pub right_leaf : literal_base ≤ v → Sides gs ws at None
      right_leaf leaf' sig x few sg =
          side_leaf sig ws few (at + 1) x.left w f.is (λ t. None ≡ set_side sig t x.right.value) high
          (side_leaf sig ws few (at + 1 + x.left.size) x.right v (behind_word sig x few) (λ t. None ≡ set_side sig (leaf (at + 1) w) t) leaf' refl)

      -- a call, whose head is no constructor
      pub right_other : v < literal_base → {b : Bool} → Kind gs v b → b ≡ false → Sides gs ws at None
      right_other call' kind no' sig x few sg =
          let p = at + 1 + x.left.size in
          let isp = behind_word sig x few in
          let other = sg.kinds (head_of v) (call_word sig ws few p x.right v isp call').1 ∙ sym kind ∙ no' in
          side_leaf sig ws few (at + 1) x.left w f.is (λ t. None ≡ set_side sig t x.right.value) high
          (side_call sig ws few p x.right v isp (λ t. None ≡ set_side sig (leaf (at + 1) w) t) call'
          (λ es. sym (rw (other, and-false (is_name w && sig.flag)))))
