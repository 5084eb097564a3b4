-- 01, "Lowering the head": the union that becomes a set, by the words of a signature and of the union.
-- Assumes nothing: these are definitions.
use Rattle.std.specs.Prelude.{◌≡◌, ◌&&◌, cond, List, ℕ, ◌+◌, ◌<◌, ◌≤◌, eqb, ltb, length, get_or, Option, Some, None}
use Rattle.rules.specs.Words.{literal_base, signature_base, count_of}
use Rattle.rules.specs.Signature.{Sig, heads, is_constructor, is_name}
use Rattle.rules.specs.Written.{Expr, leaf, call}
use Rattle.core_actions.specs.declared.unions.Side.{Side}
use Rattle.core_actions.specs.declared.unions.Side.TheVariants.{Left, Right}

-- the words of a signature say it
pub record Signed (sig : Sig) (gs : List ℕ) : Type 0 where
  pub flag : sig.flag ≡ eqb (get_or gs 3 0) (signature_base + 1)
  pub inside : 4 + heads sig ≤ length gs
  pub kinds : (h : ℕ) → h < heads sig → is_constructor sig h ≡ eqb (get_or gs (4 + h) 0) (signature_base + 1)

-- the side of a union that is the constructor call, where the union becomes a set
abbrev pub set_side : Sig → Expr → Expr → Option Side
set_side sig (leaf p w) (leaf q v) = None
set_side sig (leaf p w) (call q h es) = cond (is_name w && sig.flag && is_constructor sig h) (Some Right) None
set_side sig (call q h es) (leaf p w) = cond (is_name w && sig.flag && is_constructor sig h) (Some Left) None
set_side sig (call p h es) (call q g fs) = None

-- how many expressions stand under the first word of an expression
abbrev pub arity_of : ℕ → ℕ
arity_of w = cond (ltb w literal_base) (count_of w) 0
