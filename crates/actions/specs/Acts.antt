-- 01, "Lowering the head": where actions stand in a written rule, and what lowering one of them leaves.
-- Assumes nothing: these are definitions.
use Rattle.std.specs.Prelude.{◌≡◌, List, [], ◌∷◌, ◌++◌, ℕ, ◌+◌, ◌-◌, ◌<◌, ◌≤◌, length, get_or, Result, ⊤}
use Rattle.std.specs.Prelude.{Ok, Err}
use Rattle.rules.specs.Words.{max_depth, head_base, fresh_base, head_word, head_of, count_of}
use Rattle.rules.specs.Refusals.{Res, ok, refuse, ◌>>=◌}
use Rattle.rules.specs.Signature.{Sig, heads}
use Rattle.rules.specs.Written.{Exprs}
use Rattle.rules.specs.Flat.{action_words, words_of}
use Rattle.rules.specs.ToQuery.{Fresh, fresh}
use Rattle.rules.specs.ToCoreActions.{Done}
use Rattle.walks.specs.Steps.{Piece, reached_at, Walked, UseFits, ExprAt, ExprsAt}
use Rattle.walks.specs.declared.Walk.{Walk}
use Rattle.walks.specs.declared.Stopped.{Stopped}
use Rattle.head_exprs.specs.Scopes.{Scoped, grown}
use Rattle.head_exprs.specs.Lowered.{lowered_all}
use Rattle.head_exprs.specs.declared.scope.Scope.{Scope}
use Rattle.actions.specs.declared.Acted.{Acted}

-- ---- where they stand; `at` is the place of the action word

-- a let: its name, then its expression
pub record LetAt (sig : Sig) (ws : List ℕ) (at : ℕ) : Type 0 where
  pub old : get_or ws (at + 1) 0 < fresh_base
  pub expr : ExprAt sig ws max_depth (at + 2)

-- set, delete and subsume: a kind 3 word, as many expressions as it counts, and `more` behind them
pub record ChangeAt (sig : Sig) (ws : List ℕ) (more at : ℕ) : Type 0 where
  pub high : head_base ≤ get_or ws (at + 1) 0
  pub head : head_of (get_or ws (at + 1) 0) < heads sig
  pub exprs : ExprsAt sig ws max_depth (count_of (get_or ws (at + 1) 0) + more) (at + 2)

-- a union: two expressions
pub record PairAt (sig : Sig) (ws : List ℕ) (at : ℕ) : Type 0 where
  pub left : ExprAt sig ws max_depth (at + 1)
  pub right : ExprAt sig ws max_depth (at + 1 + left.size)

-- a name, and a call behind it
pub record NameCallAt (sig : Sig) (ws : List ℕ) (at : ℕ) : Type 0 where
  pub old : get_or ws (at + 1) 0 < fresh_base
  pub high : head_base ≤ get_or ws (at + 2) 0
  pub head : head_of (get_or ws (at + 2) 0) < heads sig
  pub exprs : ExprsAt sig ws (max_depth - 1) (count_of (get_or ws (at + 2) 0)) (at + 3)

-- ---- what is left

-- an action, or a row of them, has no term
abbrev pub done_piece : Res Done → Res Piece
done_piece (ok d) = ok (record { terms = []; words = words_of action_words d.acts; count = length d.acts; next = d.next })
done_piece (refuse n p) = refuse n p

-- the answer of an action that has come to these places
abbrev pub acted_at : (next to log names count : ℕ) → Acted
acted_at p t l n c = record { next = p; to = t; log = l; names = n; count = c }

-- the walk of an answer, which has no term
abbrev pub walk_of : Result Acted Stopped → Result Walk Stopped
walk_of (Ok a) = Ok (reached_at a.next a.to a.log 0)
walk_of (Err e) = Err e

-- how many names it let, and how many flat actions it gave: a refusal none
abbrev pub names_of : Result Acted Stopped → ℕ
names_of (Ok a) = a.names
names_of (Err e) = 0

abbrev pub given : Result Acted Stopped → ℕ
given (Ok a) = a.count
given (Err e) = 0

-- an action of n terms, the last `more` of which its kind 3 word does not count
abbrev pub change_piece : (code more h : ℕ) → Piece → Fresh → Piece
change_piece code more h p f =
    record { terms = []; words = p.words ++ code ∷ head_word h (length p.terms - more) ∷ p.terms; count = p.count + 1; next = f.next }

-- one use of the head's counter, refused at the place p, then the action of the terms
abbrev pub closing : (code more p h : ℕ) → Piece → Res Piece
closing code more p h q = do
  f ← fresh p h q.next
  ok (change_piece code more h q f)

abbrev pub and_change : (code more p h : ℕ) → Res Piece → Res Piece
and_change code more p h x = do
  q ← x
  closing code more p h q

-- expressions, and that behind them
abbrev pub changed : Sig → List ℕ → (code more p h : ℕ) → Exprs → List ℕ → Res Piece
changed sig bound code more p h es cs = and_change code more p h (lowered_all sig bound es cs)

-- what the kind 3 word w of an action asks behind the walk a over its n terms, whose log began at lg
abbrev pub ChangeFits : (w n sp lg : ℕ) → Walk → List ℕ → List ℕ → Type 0
ChangeFits w n sp lg a s cs = UseFits 2 w n sp a s cs × (lg ≤ a.log)

-- the answer says how many flat actions were given
abbrev pub Gave : Result Acted Stopped → Walk → Piece → Type 0
Gave r a p = p.count ≡ given r

-- no name is let
abbrev pub Quiet : Result Acted Stopped → Type 0
Quiet r = names_of r ≡ 0

-- after an action that is done as many names more are bound as the answer says, at most one, and the scope has these
abbrev pub ScopeAfter : Res Done → Sig → List ℕ → Scope → List ℕ → Result Acted Stopped → Type 0
ScopeAfter (ok d) sig bound c s' r = (names_of r ≤ 1) × (names_of r + length bound ≡ length d.bound) × Scoped sig d.bound s' (grown c (names_of r))
ScopeAfter (refuse n p) sig bound c s' r = ⊤

pub record Acts (x : Res Done) (sig : Sig) (bound : List ℕ) (c : Scope) (k at to sp lg : ℕ) (s cs s' cs' : List ℕ) (r : Result Acted Stopped) : Type 0 where
  pub piece : Walked 0 (Gave r) (done_piece x) k at to sp lg s cs s' cs' (walk_of r)
  pub after : ScopeAfter x sig bound c s' r
