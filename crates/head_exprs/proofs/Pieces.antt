-- The pieces of lowering expressions, clause by clause: each is the walks' own steps. Assumes nothing.
use mathlib.Core.Path.{◌≡◌, refl}
use mathlib.Core.Bool.{Bool, true, false}
use mathlib.Core.List.{List, [], ◌∷◌, ◌++◌}
use Prim.Native.Nat.{ℕ}
use lib.ListN.{length, length-append}
use Rattle.rules.specs.Refusals.{Res, ok, refuse, ◌>>=◌, demand, unbound}
use Rattle.rules.specs.Signature.{Sig}
use Rattle.rules.specs.Written.{Exprs, leaf, call}
use Rattle.rules.specs.Flat.{Call, action_words, words_of}
use Rattle.rules.specs.ToQuery.{Fresh, fresh}
use Rattle.rules.specs.ToCoreActions.{readable, Low, Lows, lower_expr, lower_exprs}
use Rattle.walks.specs.Steps.{Piece, both, and_then}
use Rattle.walks.proofs.Rows.{Rowed}
use Rattle.walks.proofs.Words.{words_append, words_one}
use Rattle.head_exprs.specs.Lowered.{low_piece, lows_piece, lowered, lowered_all, call_piece, and_call}

-- a piece from what the definitions give
abbrev pub of_low : Low → Piece
of_low r = record { terms = r.term ∷ []; words = words_of action_words r.acts; count = length r.acts; next = r.next }

abbrev pub of_lows : Lows → Piece
of_lows r = record { terms = r.terms; words = words_of action_words r.acts; count = length r.acts; next = r.next }

module _ (sig : Sig) (bound : List ℕ) where
  abbrev pub leaf_piece : ℕ → List ℕ → Piece
  leaf_piece w cs = record { terms = w ∷ []; words = []; count = 0; next = cs }

  pub lowered_leaf : (p w : ℕ) (cs : List ℕ) → lowered sig bound (leaf p w) cs ≡ demand (readable sig bound w) unbound p (leaf_piece w cs)
  unfolding lowered
  lowered_leaf p w cs = go (readable sig bound w)
    where
      go : (b : Bool) → low_piece (demand b unbound p (record { term = w; acts = []; next = cs })) ≡ demand b unbound p (leaf_piece w cs)
      go true = refl
      go false = refl

  pub lowered_call : (p h : ℕ) (es : Exprs) (cs : List ℕ)
      → lowered sig bound (call p h es) cs ≡ and_call p h (lowered_all sig bound es cs)
  unfolding lowered lowered_all
  lowered_call p h es cs = go (lower_exprs sig bound es cs)
    where
      last : (r : Lows) (y : Res Fresh)
          → low_piece (◌>>=◌ y (λ f. ok (record { term = f.var; acts = r.acts ++ Call f.var h r.terms ∷ []; next = f.next })))
          ≡ ◌>>=◌ y (λ f. ok (call_piece h (of_lows r) f))
      last r (ok f) =
          let x = Call f.var h r.terms in
          λ i. ok (record { terms = f.var ∷ []; words = words_one action_words r.acts x i; count = length-append r.acts (x ∷ []) i; next = f.next })
      last r (refuse n q) = refl

      go : (x : Res Lows)
          → low_piece (◌>>=◌ x (λ r. ◌>>=◌ (fresh p h r.next) (λ f. ok (record { term = f.var; acts = r.acts ++ Call f.var h r.terms ∷ []; next = f.next }))))
          ≡ ◌>>=◌ (lows_piece x) (λ q. ◌>>=◌ (fresh p h q.next) (λ f. ok (call_piece h q f)))
      go (ok r) = last r (fresh p h r.next)
      go (refuse n q) = refl

  pub lowered_row : Rowed (lowered sig bound) (lowered_all sig bound)
  unfolding lowered lowered_all
  lowered_row = record { none = λ cs. refl; more = λ e es cs. go es (lower_expr sig bound e cs) }
    where
      last : (r : Low) (y : Res Lows)
          → lows_piece (◌>>=◌ y (λ q. ok (record { terms = r.term ∷ q.terms; acts = r.acts ++ q.acts; next = q.next })))
          ≡ ◌>>=◌ (lows_piece y) (λ q. ok (both (of_low r) q))
      last r (ok q) =
          λ i. ok (record { terms = r.term ∷ q.terms; words = words_append action_words r.acts q.acts i; count = length-append r.acts q.acts i; next = q.next })
      last r (refuse n q) = refl

      go : (es : Exprs) (x : Res Low)
          → lows_piece (◌>>=◌ x (λ r. ◌>>=◌ (lower_exprs sig bound es r.next) (λ q. ok (record { terms = r.term ∷ q.terms; acts = r.acts ++ q.acts; next = q.next }))))
          ≡ and_then (low_piece x) (λ l. lows_piece (lower_exprs sig bound es l))
      go es (ok r) = last r (lower_exprs sig bound es r.next)
      go es (refuse n q) = refl
