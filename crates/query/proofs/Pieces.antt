-- The pieces of flattening, clause by clause: each is the walks' own steps. Assumes nothing.
use mathlib.Core.Path.{◌≡◌, refl, ap, ◌∙◌}
use mathlib.Core.List.{List, [], ◌∷◌, ◌++◌}
use Prim.Native.Nat.{ℕ, suc, ◌+◌}
use lib.ListN.{length, length-append}
use Rattle.rules.specs.Words.{head_word, equality_word}
use Rattle.rules.specs.Refusals.{Res, ok, refuse, ◌>>=◌}
use Rattle.rules.specs.Written.{Expr, Exprs, leaf, call, Fact, holds, equal}
use Rattle.rules.specs.Flat.{eqn, tab, atom_words, words_of}
use Rattle.rules.specs.ToQuery.{Fresh, fresh, Flat, Flats, Query, flatten, flatten_all, flatten_fact, to_query}
use Rattle.walks.specs.Steps.{Piece, nothing, both, and_then}
use Rattle.walks.proofs.Rows.{Rowed}
use Rattle.walks.proofs.Words.{words_append, words_one}
use Rattle.query.specs.Flattened.{flat_piece, flats_piece, query_piece, flattened, flattened_all, flattened_fact, query}

-- ---- expressions

abbrev pub leaf_piece : ℕ → List ℕ → Piece
leaf_piece w cs = record { terms = w ∷ []; words = []; count = 0; next = cs }

pub flattened_leaf : (p w : ℕ) (cs : List ℕ) → flattened (leaf p w) cs ≡ ok (leaf_piece w cs)
unfolding flattened
flattened_leaf p w cs = refl

-- the words of a call's own atom, and its piece
abbrev pub own_atom : ℕ → ℕ → List ℕ → List ℕ
own_atom h v ts = head_word h (suc (length ts)) ∷ ts ++ v ∷ []

abbrev pub call_piece : ℕ → Fresh → Piece → Piece
call_piece h f p = record { terms = f.var ∷ []; words = p.words ++ own_atom h f.var p.terms; count = p.count + 1; next = p.next }

-- what its clause gives
abbrev call_flat : ℕ → ℕ → Fresh → Flats → Flat
call_flat p h f r = record { term = f.var; atoms = r.atoms ++ tab (record { place = p; head = h; ins = r.terms; out = f.var }) ∷ []; next = r.next }

pub flattened_call : (p h : ℕ) (es : Exprs) (cs : List ℕ)
    → flattened (call p h es) cs ≡ ◌>>=◌ (fresh p h cs) (λ f. ◌>>=◌ (flattened_all es f.next) (λ q. ok (call_piece h f q)))
unfolding flattened flattened_all
flattened_call p h es cs = go (fresh p h cs)
  where
    last : (f : Fresh) (y : Res Flats)
        → flat_piece (◌>>=◌ y (λ r. ok (call_flat p h f r)))
        ≡ ◌>>=◌ (flats_piece y) (λ q. ok (call_piece h f q))
    last f (ok r) =
        let t = tab (record { place = p; head = h; ins = r.terms; out = f.var }) in
        λ i. ok (record { terms = f.var ∷ []; words = words_one atom_words r.atoms t i; count = length-append r.atoms (t ∷ []) i; next = r.next })
    last f (refuse n q) = refl

    go : (x : Res Fresh)
        → flat_piece (◌>>=◌ x (λ f. ◌>>=◌ (flatten_all es f.next) (λ r. ok (call_flat p h f r))))
        ≡ ◌>>=◌ x (λ f. ◌>>=◌ (flats_piece (flatten_all es f.next)) (λ q. ok (call_piece h f q)))
    go (ok f) = last f (flatten_all es f.next)
    go (refuse n q) = refl

-- an expression and those behind it
abbrev row_flats : Flat → Flats → Flats
row_flats r q = record { terms = r.term ∷ q.terms; atoms = r.atoms ++ q.atoms; next = q.next }

abbrev term_piece : Flat → Piece
term_piece r = record { terms = r.term ∷ []; words = words_of atom_words r.atoms; count = length r.atoms; next = r.next }

pub flattened_row : Rowed flattened flattened_all
unfolding flattened flattened_all
flattened_row = record { none = λ cs. refl; more = λ e es cs. go es (flatten e cs) }
  where
    last : (r : Flat) (y : Res Flats)
        → flats_piece (◌>>=◌ y (λ q. ok (row_flats r q)))
        ≡ ◌>>=◌ (flats_piece y) (λ q. ok (both (term_piece r) q))
    last r (ok q) =
        λ i. ok (record { terms = r.term ∷ q.terms; words = words_append atom_words r.atoms q.atoms i; count = length-append r.atoms q.atoms i; next = q.next })
    last r (refuse n q) = refl

    go : (es : Exprs) (x : Res Flat)
        → flats_piece (◌>>=◌ x (λ r. ◌>>=◌ (flatten_all es r.next) (λ q. ok (row_flats r q))))
        ≡ and_then (flat_piece x) (λ l. flats_piece (flatten_all es l))
    go es (ok r) = last r (flatten_all es r.next)
    go es (refuse n q) = refl

-- ---- facts

-- a piece without its terms
abbrev pub silent : Piece → Piece
silent p = record { terms = []; words = p.words; count = p.count; next = p.next }

pub flattened_holds : (e : Expr) (cs : List ℕ) → flattened_fact (holds e) cs ≡ ◌>>=◌ (flattened e cs) (λ p. ok (silent p))
unfolding flattened flattened_fact
flattened_holds e cs = go (flatten e cs)
  where
    go : (x : Res Flat) → query_piece (◌>>=◌ x (λ r. ok (record { atoms = r.atoms; next = r.next }))) ≡ ◌>>=◌ (flat_piece x) (λ p. ok (silent p))
    go (ok r) = refl
    go (refuse n q) = refl

-- the equality of both terms behind a piece
abbrev pub equated : Piece → Piece
equated p = record { terms = []; words = p.words ++ equality_word ∷ p.terms; count = p.count + 1; next = p.next }

abbrev equal_query : ℕ → Flat → Flat → Query
equal_query p r q = record { atoms = r.atoms ++ q.atoms ++ eqn p r.term q.term ∷ []; next = q.next }

pub flattened_equal : (p : ℕ) (a b : Expr) (cs : List ℕ) → flattened_fact (equal p a b) cs ≡ ◌>>=◌ (and_then (flattened a cs) (flattened b)) (λ q. ok (equated q))
unfolding flattened flattened_fact
flattened_equal p a b cs = go (flatten a cs)
  where
    last : (r : Flat) (y : Res Flat)
        → query_piece (◌>>=◌ y (λ q. ok (equal_query p r q)))
        ≡ ◌>>=◌ (◌>>=◌ (flat_piece y) (λ q. ok (both (term_piece r) q))) (λ q. ok (equated q))
    last r (ok q) =
        let e = eqn p r.term q.term in
        let ws = words_one atom_words (r.atoms ++ q.atoms) e ∙ ap (λ (l : List ℕ). l ++ atom_words e) (words_append atom_words r.atoms q.atoms) in
        let ns = length-append (r.atoms ++ q.atoms) (e ∷ []) ∙ ap (λ (n : ℕ). n + 1) (length-append r.atoms q.atoms) in
        λ i. ok (record { terms = []; words = ws i; count = ns i; next = q.next })
    last r (refuse n q) = refl

    go : (x : Res Flat)
        → query_piece (◌>>=◌ x (λ r. ◌>>=◌ (flatten b r.next) (λ q. ok (equal_query p r q))))
        ≡ ◌>>=◌ (and_then (flat_piece x) (λ l. flat_piece (flatten b l))) (λ q. ok (equated q))
    go (ok r) = last r (flatten b r.next)
    go (refuse n q) = refl

-- a fact and those behind it
abbrev both_queries : Query → Query → Query
both_queries r q = record { atoms = r.atoms ++ q.atoms; next = q.next }

pub query_none : (cs : List ℕ) → query [] cs ≡ ok (nothing cs)
unfolding query
query_none cs = refl

pub query_more : (f : Fact) (fs : List Fact) (cs : List ℕ) → query (f ∷ fs) cs ≡ and_then (flattened_fact f cs) (query fs)
unfolding query flattened_fact
query_more f fs cs = go (flatten_fact f cs)
  where
    last : (r : Query) (y : Res Query)
        → query_piece (◌>>=◌ y (λ q. ok (both_queries r q)))
        ≡ ◌>>=◌ (query_piece y) (λ q. ok (both (record { terms = []; words = words_of atom_words r.atoms; count = length r.atoms; next = r.next }) q))
    last r (ok q) = λ i. ok (record { terms = []; words = words_append atom_words r.atoms q.atoms i; count = length-append r.atoms q.atoms i; next = q.next })
    last r (refuse n q) = refl

    go : (x : Res Query)
        → query_piece (◌>>=◌ x (λ r. ◌>>=◌ (to_query fs r.next) (λ q. ok (both_queries r q))))
        ≡ and_then (query_piece x) (λ l. query_piece (to_query fs l))
    go (ok r) = last r (to_query fs r.next)
    go (refuse n q) = refl
