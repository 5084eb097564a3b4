-- 01, "Lowering the head": what the definitions give of its expressions, as pieces that a walk makes.
-- Assumes nothing: these are definitions.
use Rattle.std.specs.Prelude.{List, [], ◌∷◌, ◌++◌, ℕ, ◌+◌, length, Result}
use Rattle.rules.specs.Words.{head_word, head_of, count_of, action_word}
use Rattle.rules.specs.Refusals.{Res, ok, refuse, ◌>>=◌}
use Rattle.rules.specs.Signature.{Sig}
use Rattle.rules.specs.Written.{Expr, Exprs}
use Rattle.rules.specs.Flat.{action_words, words_of}
use Rattle.rules.specs.ToQuery.{Fresh, fresh}
use Rattle.rules.specs.ToCoreActions.{Low, Lows, lower_expr, lower_exprs}
use Rattle.walks.specs.Steps.{Piece, Walked, InAnswer, OnlyOnStack, Termed, ExprAt, ExprsAt}
use Rattle.walks.specs.declared.Walk.{Walk}
use Rattle.walks.specs.declared.Stopped.{Stopped}
use Rattle.head_exprs.specs.Sites.{Site, Every, WalkedAt}

abbrev pub low_piece : Res Low → Res Piece
low_piece (ok f) = ok (record { terms = f.term ∷ []; words = words_of action_words f.acts; count = length f.acts; next = f.next })
low_piece (refuse n p) = refuse n p

abbrev pub lows_piece : Res Lows → Res Piece
lows_piece (ok f) = ok (record { terms = f.terms; words = words_of action_words f.acts; count = length f.acts; next = f.next })
lows_piece (refuse n p) = refuse n p

unfoldable pub lowered : Sig → List ℕ → Expr → List ℕ → Res Piece
lowered sig bound e cs = low_piece (lower_expr sig bound e cs)

unfoldable pub lowered_all : Sig → List ℕ → Exprs → List ℕ → Res Piece
lowered_all sig bound es cs = lows_piece (lower_exprs sig bound es cs)

-- ---- a call

-- action 7 behind the piece of its arguments, whose terms it has
abbrev pub call_piece : ℕ → Piece → Fresh → Piece
call_piece h p f =
    record { terms = f.var ∷ []; words = p.words ++ action_word 7 ∷ f.var ∷ head_word h (length p.terms) ∷ p.terms; count = p.count + 1; next = f.next }

-- one use of its head's counter, refused at the place p, then its action
abbrev pub and_call : (p h : ℕ) → Res Piece → Res Piece
and_call p h x = do
  q ← x
  f ← fresh p h q.next
  ok (call_piece h q f)

-- ---- what is said of an answer r that leaves s' and cs'

-- behind the walk a, which left s1 and cs1, the call of the kind 3 word w is bound: so it is of whatever arguments a has walked
abbrev pub Binds : (w place sp : ℕ) (s1 cs1 s' cs' : List ℕ) → Walk → Result Walk Stopped → Type 0
Binds w place sp s1 cs1 s' cs' a r =
    (at to size lg : ℕ) (x : Res Piece) (s cs : List ℕ) → Termed 1 at to size (count_of w) sp lg x s cs s1 cs1 a
    → Walked 1 (InAnswer lg) (and_call place (head_of w) x) size at to sp lg s cs s' cs' r

-- an expression is lowered, whichever a signature reads there, and whatever is bound: its term is in the answer
abbrev pub LowersExpr : (d : ℕ) → Site → (s' cs' : List ℕ) → Result Walk Stopped → Type 0
LowersExpr d k s' cs' r =
    Every k (λ sig. ExprAt sig k.ws d k.at) (λ sig x bound. WalkedAt k 1 (InAnswer k.lg) (lowered sig bound x.value k.cs) x.size k.at s' cs' r)

-- n of them are, and their terms are on the stack
abbrev pub LowersExprs : (d n : ℕ) → Site → (s' cs' : List ℕ) → Result Walk Stopped → Type 0
LowersExprs d n k s' cs' r =
    Every k (λ sig. ExprsAt sig k.ws d n k.at)
    (λ sig x bound. WalkedAt k n (OnlyOnStack k.sp n k.lg s') (lowered_all sig bound x.value k.cs) x.size k.at s' cs' r)
