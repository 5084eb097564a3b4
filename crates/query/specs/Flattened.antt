-- 01, "Flattening the body": what the definitions of `to_query` give, as pieces that a walk makes, and where facts stand in a written rule.
-- Assumes nothing: these are definitions.
use Rattle.std.specs.Prelude.{List, [], ◌∷◌, ℕ, length, Result}
use Rattle.rules.specs.Refusals.{Res, ok, refuse}
use Rattle.rules.specs.Signature.{Sig}
use Rattle.rules.specs.Written.{Expr, Exprs, Fact, read_fact, read_row}
use Rattle.rules.specs.Flat.{atom_words, words_of}
use Rattle.rules.specs.ToQuery.{Flat, Flats, Query, flatten, flatten_all, flatten_fact, to_query}
use Rattle.walks.specs.Steps.{Piece, Walked, InAnswer, OnStack, NoTerms, Counted, Asks, ReadAt, ExprAt, ExprsAt}
use Rattle.walks.specs.declared.Walk.{Walk}
use Rattle.walks.specs.declared.Stopped.{Stopped}
use Rattle.walks.specs.declared.Tops.{Tops}

abbrev pub flat_piece : Res Flat → Res Piece
flat_piece (ok f) = ok (record { terms = f.term ∷ []; words = words_of atom_words f.atoms; count = length f.atoms; next = f.next })
flat_piece (refuse n p) = refuse n p

abbrev pub flats_piece : Res Flats → Res Piece
flats_piece (ok f) = ok (record { terms = f.terms; words = words_of atom_words f.atoms; count = length f.atoms; next = f.next })
flats_piece (refuse n p) = refuse n p

abbrev pub query_piece : Res Query → Res Piece
query_piece (ok q) = ok (record { terms = []; words = words_of atom_words q.atoms; count = length q.atoms; next = q.next })
query_piece (refuse n p) = refuse n p

unfoldable pub flattened : Expr → List ℕ → Res Piece
flattened e cs = flat_piece (flatten e cs)

unfoldable pub flattened_all : Exprs → List ℕ → Res Piece
flattened_all es cs = flats_piece (flatten_all es cs)

unfoldable pub flattened_fact : Fact → List ℕ → Res Piece
flattened_fact f cs = query_piece (flatten_fact f cs)

unfoldable pub query : List Fact → List ℕ → Res Piece
query fs cs = query_piece (to_query fs cs)

-- ---- facts in a written rule

abbrev pub FactAt : Sig → List ℕ → ℕ → Type 0
FactAt sig ws at = ReadAt (read_fact sig ws) ws at

abbrev pub FactsAt : Sig → List ℕ → ℕ → ℕ → Type 0
FactsAt sig ws n at = ReadAt (read_row (read_fact sig ws) n) ws at

-- ---- what is asked where one of these is flattened from `at` on, into the scratch s at t, with the counters cs

abbrev pub AsksExpr : (ws : List ℕ) (d at : ℕ) (t : Tops) (s cs : List ℕ) → Type 0
AsksExpr ws d at t s cs = Asks (λ sig. ExprAt sig ws d at) ws at t s cs

abbrev pub AsksExprs : (ws : List ℕ) (d n at : ℕ) (t : Tops) (s cs : List ℕ) → Type 0
AsksExprs ws d n at t s cs = Asks (λ sig. ExprsAt sig ws d n at) ws at t s cs

abbrev pub AsksFact : (ws : List ℕ) (at : ℕ) (t : Tops) (s cs : List ℕ) → Type 0
AsksFact ws at t s cs = Asks (λ sig. FactAt sig ws at) ws at t s cs

abbrev pub AsksFacts : (ws : List ℕ) (n at : ℕ) (t : Tops) (s cs : List ℕ) → Type 0
AsksFacts ws n at t s cs = Asks (λ sig. FactsAt sig ws n at) ws at t s cs

-- ---- what is said of an answer r that leaves s' and cs', of whatever a signature reads there

-- an expression is flattened: its term is in the answer
abbrev pub FlattensExpr : (ws : List ℕ) (d at : ℕ) (t : Tops) (s cs s' cs' : List ℕ) → Result Walk Stopped → Type 0
FlattensExpr ws d at t s cs s' cs' r =
    (sig : Sig) (x : ExprAt sig ws d at) → Counted sig cs → Walked 1 (InAnswer t.log) (flattened x.value cs) x.size at t.to t.sp t.log s cs s' cs' r

-- n of them are: their terms are on the stack
abbrev pub FlattensExprs : (ws : List ℕ) (d n at : ℕ) (t : Tops) (s cs s' cs' : List ℕ) → Result Walk Stopped → Type 0
FlattensExprs ws d n at t s cs s' cs' r =
    (sig : Sig) (x : ExprsAt sig ws d n at) → Counted sig cs
    → Walked n (OnStack t.sp n t.log s') (flattened_all x.value cs) x.size at t.to t.sp t.log s cs s' cs' r

-- a fact is, and n facts are
abbrev pub FlattensFact : (ws : List ℕ) (at : ℕ) (t : Tops) (s cs s' cs' : List ℕ) → Result Walk Stopped → Type 0
FlattensFact ws at t s cs s' cs' r =
    (sig : Sig) (x : FactAt sig ws at) → Counted sig cs → Walked 0 NoTerms (flattened_fact x.value cs) x.size at t.to t.sp t.log s cs s' cs' r

abbrev pub FlattensFacts : (ws : List ℕ) (n at : ℕ) (t : Tops) (s cs s' cs' : List ℕ) → Result Walk Stopped → Type 0
FlattensFacts ws n at t s cs s' cs' r =
    (sig : Sig) (x : FactsAt sig ws n at) → Counted sig cs → Walked 0 NoTerms (query x.value cs) x.size at t.to t.sp t.log s cs s' cs' r
