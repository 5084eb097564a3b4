-- Where a walk of flattening starts, as one value, and what the contracts ask there and say of an answer from there. Assumes nothing.
use mathlib.Core.List.{List}
use Prim.Native.Nat.{ℕ}
use Rattle.std.specs.Prelude.{Result}
use Rattle.rules.specs.Refusals.{Res}
use Rattle.walks.specs.Steps.{Piece, tops_at, Walked, InAnswer, OnStack, NoTerms}
use Rattle.walks.specs.declared.Walk.{Walk}
use Rattle.walks.specs.declared.Stopped.{Stopped}
use Rattle.walks.specs.declared.Tops.{Tops}
use Rattle.query.specs.Flattened.{AsksExpr, AsksExprs, AsksFact, AsksFacts, FlattensExpr, FlattensExprs, FlattensFact, FlattensFacts}

-- the rule's words, the scratch and the counters; the place read from, and those where atoms, terms and uses go
pub record Spot : Type 0 where
  pub ws : List ℕ
  pub s : List ℕ
  pub cs : List ℕ
  pub at : ℕ
  pub tops : Tops

abbrev pub spot_of : (ws s cs : List ℕ) (at : ℕ) (t : Tops) → Spot
spot_of ws s cs at t = record { ws = ws; s = s; cs = cs; at = at; tops = t }

-- where the walk w has come to, with s1 and cs1 left behind and the stack up to top
abbrev pub onward : Spot → List ℕ → List ℕ → ℕ → Walk → Spot
onward p s1 cs1 top w = spot_of p.ws s1 cs1 w.next (tops_at w top)

-- ---- what is asked

abbrev pub ExprAsked : Spot → ℕ → Type 0
ExprAsked p d = AsksExpr p.ws d p.at p.tops p.s p.cs

abbrev pub ExprsAsked : Spot → ℕ → ℕ → Type 0
ExprsAsked p d n = AsksExprs p.ws d n p.at p.tops p.s p.cs

abbrev pub FactAsked : Spot → Type 0
FactAsked p = AsksFact p.ws p.at p.tops p.s p.cs

abbrev pub FactsAsked : Spot → ℕ → Type 0
FactsAsked p n = AsksFacts p.ws n p.at p.tops p.s p.cs

-- ---- what is said of an answer r that leaves s' and cs'

-- k words were walked as an expression, or as facts, with the result x
abbrev pub ExprWalked : Spot → Res Piece → ℕ → List ℕ → List ℕ → Result Walk Stopped → Type 0
ExprWalked p x k s' cs' r = Walked 1 (InAnswer p.tops.log) x k p.at p.tops.to p.tops.sp p.tops.log p.s p.cs s' cs' r

abbrev pub FactWalked : Spot → Res Piece → ℕ → List ℕ → List ℕ → Result Walk Stopped → Type 0
FactWalked p x k s' cs' r = Walked 0 NoTerms x k p.at p.tops.to p.tops.sp p.tops.log p.s p.cs s' cs' r

-- what the contracts say of it
abbrev pub ExprAnswers : Spot → ℕ → List ℕ → List ℕ → Result Walk Stopped → Type 0
ExprAnswers p d s' cs' r = FlattensExpr p.ws d p.at p.tops p.s p.cs s' cs' r

abbrev pub ExprsAnswers : Spot → ℕ → ℕ → List ℕ → List ℕ → Result Walk Stopped → Type 0
ExprsAnswers p d n s' cs' r = FlattensExprs p.ws d n p.at p.tops p.s p.cs s' cs' r

-- n expressions of k words were walked with this result, and their terms are on the stack
abbrev pub ExprsWalked : Spot → ℕ → Res Piece → ℕ → List ℕ → List ℕ → Result Walk Stopped → Type 0
ExprsWalked p n x k s' cs' r = Walked n (OnStack p.tops.sp n p.tops.log s') x k p.at p.tops.to p.tops.sp p.tops.log p.s p.cs s' cs' r

abbrev pub FactAnswers : Spot → List ℕ → List ℕ → Result Walk Stopped → Type 0
FactAnswers p s' cs' r = FlattensFact p.ws p.at p.tops p.s p.cs s' cs' r

abbrev pub FactsAnswers : Spot → ℕ → List ℕ → List ℕ → Result Walk Stopped → Type 0
FactsAnswers p n s' cs' r = FlattensFacts p.ws n p.at p.tops p.s p.cs s' cs' r
