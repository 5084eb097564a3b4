-- The pieces of lowering actions, clause by clause: each is the walks' own steps. Assumes nothing.
use mathlib.Core.Path.{◌≡◌, refl, sym, ap, ◌∙◌}
use mathlib.Core.Bool.{false}
use mathlib.Core.List.{List, [], ◌∷◌, ◌++◌, append_assoc, append-nil}
use mathlib.Core.Option.{none}
use Prim.Native.Nat.{ℕ, ◌+◌, ◌-◌}
use native.Mathlib.Nat.{add-zero, zero-add, add_assoc}
use native.Mathlib.Omega.{arith}
use lib.ListN.{length, length-append}
use Rattle.rules.specs.Words.{head_word, action_word}
use Rattle.rules.specs.Refusals.{Res, ok, refuse, ◌>>=◌}
use Rattle.rules.specs.Signature.{Sig}
use Rattle.rules.specs.Written.{Expr, Exprs, end, ◌then◌, expr'}
use Rattle.rules.specs.Flat.{CoreAction, Let, Set, Union, action_words, words_of}
use Rattle.rules.specs.ToQuery.{Fresh, fresh}
use Rattle.rules.specs.ToCoreActions.{Low, Lows, Done, lower_expr, lower_exprs, lower_set, lower_change, lower_union, lower_let, lower_action}
use Rattle.walks.specs.Steps.{Piece, nothing, both, and_then}
use Rattle.walks.proofs.Words.{words_append, words_one}
use Rattle.head_exprs.specs.Lowered.{low_piece, lows_piece, lowered, lowered_all}
use Rattle.head_exprs.proofs.Pieces.{of_low, of_lows, lowered_row}
use Rattle.actions.specs.Acts.{done_piece, change_piece, changed}

-- ---- one behind another

both_assoc : (p q r : Piece) → both (both p q) r ≡ both p (both q r)
both_assoc p q r =
    λ i. record {
      terms = append_assoc p.terms q.terms r.terms i;
      words = append_assoc p.words q.words r.words i;
      count = add_assoc p.count q.count r.count i;
      next = r.next;
    }

and_assoc : (x : Res Piece) (y z : List ℕ → Res Piece) → and_then (and_then x y) z ≡ and_then x (λ l. and_then (y l) z)
and_assoc (refuse n p) y z = refl
and_assoc (ok p) y z = go (y p.next)
  where
    last : (q : Piece) (v : Res Piece) → ◌>>=◌ v (λ r. ok (both (both p q) r)) ≡ ◌>>=◌ (◌>>=◌ v (λ r. ok (both q r))) (λ r. ok (both p r))
    last q (refuse n r) = refl
    last q (ok r) = ap ok (both_assoc p q r)

    go : (u : Res Piece) → and_then (◌>>=◌ u (λ q. ok (both p q))) z ≡ ◌>>=◌ (and_then u z) (λ r. ok (both p r))
    go (refuse n q) = refl
    go (ok q) = last q (z q.next)

-- nothing behind, and nothing before
and_nothing : (x : Res Piece) → and_then x (λ l. ok (nothing l)) ≡ x
and_nothing (refuse n p) = refl
and_nothing (ok p) = λ i. ok (record { terms = append-nil p.terms i; words = append-nil p.words i; count = add-zero p.count i; next = p.next })

nothing_and : (cs : List ℕ) (y : List ℕ → Res Piece) → and_then (ok (nothing cs)) y ≡ y cs
nothing_and cs y = go (y cs)
  where
    go : (u : Res Piece) → ◌>>=◌ u (λ q. ok (both (nothing cs) q)) ≡ u
    go (refuse n q) = refl
    go (ok q) = λ i. ok (record { terms = q.terms; words = q.words; count = zero-add q.count i; next = q.next })

-- an expression behind a list of them
abbrev pub snoc : Exprs → Expr → Exprs
snoc end e = e then end
snoc (f then fs) e = f then snoc fs e

-- a piece without its terms
abbrev pub silent : Piece → Piece
silent p = record { terms = []; words = p.words; count = p.count; next = p.next }

-- actions 1 and 5 behind a piece
abbrev pub let_piece : ℕ → Piece → Piece
let_piece x p = record { terms = []; words = p.words ++ action_word 1 ∷ x ∷ p.terms; count = p.count + 1; next = p.next }

abbrev pub union_piece : Piece → Piece
union_piece p = record { terms = []; words = p.words ++ action_word 5 ∷ p.terms; count = p.count + 1; next = p.next }

module _ (sig : Sig) (bound : List ℕ) where
  pub lowered_snoc : (es : Exprs) (e : Expr) (cs : List ℕ) → lowered_all sig bound (snoc es e) cs ≡ and_then (lowered_all sig bound es cs) (lowered sig bound e)
  lowered_snoc end e cs =
      (lowered_row sig bound).more e end cs ∙ (λ i. and_then (lowered sig bound e cs) (λ l. (lowered_row sig bound).none l i)) ∙ and_nothing (lowered sig bound e cs)
      ∙ sym (ap (λ (x : Res Piece). and_then x (lowered sig bound e)) ((lowered_row sig bound).none cs) ∙ nothing_and cs (lowered sig bound e))
  lowered_snoc (f then fs) e cs =
      (lowered_row sig bound).more f (snoc fs e) cs ∙ (λ i. and_then (lowered sig bound f cs) (λ l. lowered_snoc fs e l i))
      ∙ sym (ap (λ (x : Res Piece). and_then x (lowered sig bound e)) ((lowered_row sig bound).more f fs cs) ∙ and_assoc (lowered sig bound f cs) (lowered_all sig bound fs) (lowered sig bound e))

  -- ---- actions

  pub done_change : (C : ℕ → List ℕ → CoreAction) (code : ℕ) → ((h : ℕ) (ts : List ℕ) → action_words (C h ts) ≡ code ∷ head_word h (length ts) ∷ ts)
      → (p h : ℕ) (es : Exprs) (cs : List ℕ) → done_piece (lower_change sig bound C p h es cs) ≡ changed sig bound code 0 p h es cs
  unfolding lowered_all
  done_change C code is p h es cs = go (lower_exprs sig bound es cs)
    where
      last : (r : Lows) (y : Res Fresh)
          → done_piece (◌>>=◌ y (λ f. ok (record { acts = r.acts ++ C h r.terms ∷ []; bound = bound; next = f.next })))
          ≡ ◌>>=◌ y (λ f. ok (change_piece code 0 h (of_lows r) f))
      last r (ok f) =
          let x = C h r.terms in
          let all : length r.terms ≡ length r.terms - 0 = omega arith in
          let ws = words_one action_words r.acts x ∙ ap (λ (l : List ℕ). words_of action_words r.acts ++ l) (is h r.terms ∙ ap (λ (n : ℕ). code ∷ head_word h n ∷ r.terms) all) in
          λ i. ok (record { terms = []; words = ws i; count = length-append r.acts (x ∷ []) i; next = f.next })
      last r (refuse n q) = refl

      go : (x : Res Lows)
          → done_piece (◌>>=◌ x (λ r. ◌>>=◌ (fresh p h r.next) (λ f. ok (record { acts = r.acts ++ C h r.terms ∷ []; bound = bound; next = f.next }))))
          ≡ ◌>>=◌ (lows_piece x) (λ q. ◌>>=◌ (fresh p h q.next) (λ f. ok (change_piece code 0 h q f)))
      go (ok r) = last r (fresh p h r.next)
      go (refuse n q) = refl

  abbrev set_of : ℕ → Lows → Low → Fresh → Done
  set_of h r q f = record { acts = r.acts ++ q.acts ++ Set h r.terms q.term ∷ []; bound = bound; next = f.next }

  pub done_set : (p h : ℕ) (es : Exprs) (e : Expr) (cs : List ℕ)
      → done_piece (lower_set sig bound p h es e cs)
      ≡ ◌>>=◌ (and_then (lowered_all sig bound es cs) (lowered sig bound e)) (λ q. ◌>>=◌ (fresh p h q.next) (λ f. ok (change_piece (action_word 2) 1 h q f)))
  unfolding lowered lowered_all
  done_set p h es e cs = go (lower_exprs sig bound es cs)
    where
      last : (r : Lows) (q : Low) (y : Res Fresh)
          → done_piece (◌>>=◌ y (λ f. ok (set_of h r q f))) ≡ ◌>>=◌ y (λ f. ok (change_piece (action_word 2) 1 h (both (of_lows r) (of_low q)) f))
      last r q (refuse n k) = refl
      last r q (ok f) =
          let x = Set h r.terms q.term in
          let all : length r.terms ≡ length (r.terms ++ q.term ∷ []) - 1 = omega (arith, length-append r.terms (q.term ∷ [])) in
          let ws =
          words_one action_words (r.acts ++ q.acts) x
          ∙ (λ i. words_append action_words r.acts q.acts i ++ (action_word 2 ∷ head_word h (all i) ∷ (r.terms ++ q.term ∷ []))) in
          let ns = length-append (r.acts ++ q.acts) (x ∷ []) ∙ ap (λ (n : ℕ). n + 1) (length-append r.acts q.acts) in
          λ i. ok (record { terms = []; words = ws i; count = ns i; next = f.next })

      second : (r : Lows) (y : Res Low)
          → done_piece (◌>>=◌ y (λ q. ◌>>=◌ (fresh p h q.next) (λ f. ok (set_of h r q f))))
          ≡ ◌>>=◌ (◌>>=◌ (low_piece y) (λ q. ok (both (of_lows r) q))) (λ q. ◌>>=◌ (fresh p h q.next) (λ f. ok (change_piece (action_word 2) 1 h q f)))
      second r (ok q) = last r q (fresh p h q.next)
      second r (refuse n k) = refl

      go : (x : Res Lows)
          → done_piece (◌>>=◌ x (λ r. ◌>>=◌ (lower_expr sig bound e r.next) (λ q. ◌>>=◌ (fresh p h q.next) (λ f. ok (set_of h r q f)))))
          ≡ ◌>>=◌ (and_then (lows_piece x) (λ l. low_piece (lower_expr sig bound e l))) (λ q. ◌>>=◌ (fresh p h q.next) (λ f. ok (change_piece (action_word 2) 1 h q f)))
      go (ok r) = second r (lower_expr sig bound e r.next)
      go (refuse n q) = refl

  pub done_set_row : (p h : ℕ) (es : Exprs) (e : Expr) (cs : List ℕ) → done_piece (lower_set sig bound p h es e cs) ≡ changed sig bound (action_word 2) 1 p h (snoc es e) cs
  done_set_row p h es e cs =
      done_set p h es e cs
      ∙ ap (λ (x : Res Piece). ◌>>=◌ x (λ q. ◌>>=◌ (fresh p h q.next) (λ f. ok (change_piece (action_word 2) 1 h q f)))) (sym (lowered_snoc es e cs))

  pub done_let : (p x : ℕ) (e : Expr) (cs : List ℕ) → done_piece (lower_let false sig bound p x e cs) ≡ ◌>>=◌ (lowered sig bound e cs) (λ q. ok (let_piece x q))
  unfolding lowered
  done_let p x e cs = go (lower_expr sig bound e cs)
    where
      go : (y : Res Low) → done_piece (◌>>=◌ y (λ r. ok (record { acts = r.acts ++ Let x r.term ∷ []; bound = x ∷ bound; next = r.next }))) ≡ ◌>>=◌ (low_piece y) (λ q. ok (let_piece x q))
      go (ok r) = let z = Let x r.term in λ i. ok (record { terms = []; words = words_one action_words r.acts z i; count = length-append r.acts (z ∷ []) i; next = r.next })
      go (refuse n q) = refl

  pub done_union : (a b : Expr) (cs : List ℕ) → done_piece (lower_union sig bound none a b cs) ≡ ◌>>=◌ (and_then (lowered sig bound a cs) (lowered sig bound b)) (λ q. ok (union_piece q))
  unfolding lowered
  done_union a b cs = go (lower_expr sig bound a cs)
    where
      last : (r : Low) (y : Res Low)
          → done_piece (◌>>=◌ y (λ q. ok (record { acts = r.acts ++ q.acts ++ Union r.term q.term ∷ []; bound = bound; next = q.next })))
          ≡ ◌>>=◌ (◌>>=◌ (low_piece y) (λ q. ok (both (of_low r) q))) (λ q. ok (union_piece q))
      last r (ok q) =
          let z = Union r.term q.term in
          let ws = words_one action_words (r.acts ++ q.acts) z ∙ ap (λ (l : List ℕ). l ++ action_words z) (words_append action_words r.acts q.acts) in
          let ns = length-append (r.acts ++ q.acts) (z ∷ []) ∙ ap (λ (n : ℕ). n + 1) (length-append r.acts q.acts) in
          λ i. ok (record { terms = []; words = ws i; count = ns i; next = q.next })
      last r (refuse n q) = refl

      go : (x : Res Low)
          → done_piece (◌>>=◌ x (λ r. ◌>>=◌ (lower_expr sig bound b r.next) (λ q. ok (record { acts = r.acts ++ q.acts ++ Union r.term q.term ∷ []; bound = bound; next = q.next }))))
          ≡ ◌>>=◌ (and_then (low_piece x) (λ l. low_piece (lower_expr sig bound b l))) (λ q. ok (union_piece q))
      go (ok r) = last r (lower_expr sig bound b r.next)
      go (refuse n q) = refl

  pub done_expression : (e : Expr) (cs : List ℕ) → done_piece (lower_action sig bound (expr' e) cs) ≡ ◌>>=◌ (lowered sig bound e cs) (λ p. ok (silent p))
  unfolding lowered
  done_expression e cs = go (lower_expr sig bound e cs)
    where
      go : (x : Res Low) → done_piece (◌>>=◌ x (λ r. ok (record { acts = r.acts; bound = bound; next = r.next }))) ≡ ◌>>=◌ (low_piece x) (λ p. ok (silent p))
      go (ok r) = refl
      go (refuse n q) = refl

  -- ---- actions that bind nothing

  abbrev pub SameBound : Res Done → Type 0
  SameBound (ok d) = d.bound ≡ bound
  SameBound (refuse n p) = Unit {0}

  abbrev Keeps : {A : Type 0} → (A → Res Done) → Type 0
  Keeps {A} f = (a : A) → SameBound (f a)

  same_bind : {A : Type 0} (x : Res A) (f : A → Res Done) → Keeps f → SameBound (◌>>=◌ x f)
  same_bind (ok a) f k = k a
  same_bind (refuse n p) f k = tt

  pub same_change : (C : ℕ → List ℕ → CoreAction) (p h : ℕ) (es : Exprs) (cs : List ℕ) → SameBound (lower_change sig bound C p h es cs)
  same_change C p h es cs = same_bind (lower_exprs sig bound es cs) _ (λ r. same_bind (fresh p h r.next) _ (λ f. refl))

  pub same_set : (p h : ℕ) (es : Exprs) (e : Expr) (cs : List ℕ) → SameBound (lower_set sig bound p h es e cs)
  same_set p h es e cs = same_bind (lower_exprs sig bound es cs) _ (λ r. same_bind (lower_expr sig bound e r.next) _ (λ q. same_bind (fresh p h q.next) _ (λ f. refl)))

  pub same_union : (a b : Expr) (cs : List ℕ) → SameBound (lower_union sig bound none a b cs)
  same_union a b cs = same_bind (lower_expr sig bound a cs) _ (λ r. same_bind (lower_expr sig bound b r.next) _ (λ q. refl))

  pub same_expression : (e : Expr) (cs : List ℕ) → SameBound (lower_action sig bound (expr' e) cs)
  same_expression e cs = same_bind (lower_expr sig bound e cs) _ (λ r. refl)
