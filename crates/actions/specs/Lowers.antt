-- 01, "Lowering the head": what lowering one action at a site leaves, by its kind: the words s' of the scratch, cs' of the counters, and the answer r.
-- Each is so whichever a signature reads there, and whatever is bound. Assumes nothing: these are definitions.
use Rattle.std.specs.Prelude.{◌≡◌, List, ℕ, ◌+◌, get_or, Result}
use Rattle.std.proofs.Math.Option.{none}
use Rattle.rules.specs.Words.{max_depth, head_of, count_of}
use Rattle.rules.specs.Refusals.{Res}
use Rattle.rules.specs.Signature.{Sig, elem}
use Rattle.rules.specs.Written.{leaf, panic', expr'}
use Rattle.rules.specs.ToCoreActions.{Done, lower_let, lower_union, lower_set, lower_action}
use Rattle.walks.specs.Steps.{Piece, Termed, Walked, ExprAt}
use Rattle.walks.specs.declared.Walk.{Walk}
use Rattle.walks.specs.declared.Stopped.{Stopped}
use Rattle.head_exprs.specs.Scopes.{Scoped}
use Rattle.head_exprs.specs.Sites.{Site, Every, WalkedAt}
use Rattle.actions.specs.Acts.{LetAt, ChangeAt, PairAt, NameCallAt, and_change, changed, walk_of, Gave, Quiet, Acts}
use Rattle.actions.specs.declared.Acted.{Acted}

module _ (k : Site) where
  -- n words were read, and x is done
  abbrev pub Does : Sig → List ℕ → Res Done → ℕ → List ℕ → List ℕ → Result Acted Stopped → Type 0
  Does sig bound x n s' cs' r = Acts x sig bound k.scope n k.at k.to k.sp k.lg k.s k.cs s' cs' r

  -- the words behind the action's word: the name that is let, the kind 3 word of a change; and behind that
  abbrev pub second : ℕ
  second = get_or k.ws (k.at + 1) 0

  abbrev pub third : ℕ
  third = get_or k.ws (k.at + 2) 0

  -- let: the name behind the action's word is bound to the term of the expression behind it; where it is bound already, that is refused
  abbrev pub LowersLet : List ℕ → List ℕ → Result Acted Stopped → Type 0
  LowersLet s' cs' r =
      Every k (λ sig. LetAt sig k.ws k.at)
      (λ sig x bound. Does sig bound (lower_let (elem second bound) sig bound k.at second x.expr.value k.cs) (2 + x.expr.size) s' cs' r)

  -- set, delete and subsume: of the row's expressions `more` are not counted by its kind 3 word
  abbrev pub LowersChange : (code more : ℕ) → List ℕ → List ℕ → Result Acted Stopped → Type 0
  LowersChange code more s' cs' r =
      Quiet r
      × Every k (λ sig. ChangeAt sig k.ws more k.at)
      (λ sig x bound. WalkedAt k 0 (Gave r) (changed sig bound code more (k.at + 1) (head_of second) x.exprs.value k.cs) (2 + x.exprs.size) k.at
      s' cs' (walk_of r))

  -- a panic, with the literal behind the action's word: it is lowered to itself, and uses no counter
  abbrev pub LowersPanic : List ℕ → List ℕ → Result Acted Stopped → Type 0
  LowersPanic s' cs' r = (sig : Sig) (bound : List ℕ) → Scoped sig bound k.s k.scope → Does sig bound (lower_action sig bound (panic' second) k.cs) 2 s' cs' r

  -- an expression by itself: only its calls are left
  abbrev pub LowersExpression : List ℕ → List ℕ → Result Acted Stopped → Type 0
  LowersExpression s' cs' r =
      Every k (λ sig. ExprAt sig k.ws max_depth (k.at + 1)) (λ sig x bound. Does sig bound (lower_action sig bound (expr' x.value) k.cs) (1 + x.size) s' cs' r)

  -- a union that stays one
  abbrev pub Unites : List ℕ → List ℕ → Result Acted Stopped → Type 0
  Unites s' cs' r =
      Every k (λ sig. PairAt sig k.ws k.at)
      (λ sig x bound. Does sig bound (lower_union sig bound none x.left.value x.right.value k.cs) (1 + (x.left.size + x.right.size)) s' cs' r)

  -- a union of a name and a call that becomes a set
  abbrev pub SetsName : List ℕ → List ℕ → Result Acted Stopped → Type 0
  SetsName s' cs' r =
      Every k (λ sig. NameCallAt sig k.ws k.at)
      (λ sig x bound. Does sig bound (lower_set sig bound (k.at + 2) (head_of third) x.exprs.value (leaf (k.at + 1) second) k.cs) (3 + x.exprs.size) s' cs' r)

-- the end of an action with a head, behind the walk a over its n terms that left s1 and cs1: its kind 3 word is w, and its log began at lg
abbrev pub Closes : (code w n place sp lg : ℕ) (s1 cs1 s' cs' : List ℕ) → Walk → Result Acted Stopped → Type 0
Closes code w n place sp lg s1 cs1 s' cs' a r =
    Quiet r
    × ((more at to size : ℕ) (x : Res Piece) (s cs : List ℕ) → n ≡ count_of w + more → Termed 2 at to size n sp lg x s cs s1 cs1 a
    → Walked 0 (Gave r) (and_change code more place (head_of w) x) size at to sp lg s cs s' cs' (walk_of r))
