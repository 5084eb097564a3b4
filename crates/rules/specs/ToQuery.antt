-- 01, "Flattening the body": the source's `to_query`.
--
--     written  (= x (f (g y)))      flat  (g y @g.0) (f @g.0 @f.0) (= x @f.0)
--
-- Assumes nothing: these are definitions.
use Rattle.std.specs.Prelude.{ℕ, suc, cond, List, [], ◌∷◌, ◌++◌, get_or, set, ltb}
use Rattle.rules.specs.Words.{limit16, fresh_word}
use Rattle.rules.specs.Refusals.{Res, ok, ◌>>=◌, demand, used_up}
use Rattle.rules.specs.Signature.{Sig, is_var}
use Rattle.rules.specs.Written.{Expr, Exprs, leaf, call, end, ◌then◌, Fact, holds, equal}
use Rattle.rules.specs.Flat.{Atom, eqn, tab}

-- ---- fresh variables

-- the count of a head's next fresh variable. A head past the counters reads as used up, so that no other test is needed
abbrev pub count : List ℕ → ℕ → ℕ
count cs h = get_or cs h limit16

pub record Fresh : Type 0 where
  pub var : ℕ
  pub next : List ℕ

-- a fresh variable: the head and its counter, which then grows by one. p is the place of the kind 3 word
abbrev pub fresh : ℕ → ℕ → List ℕ → Res Fresh
fresh p h cs = demand (ltb (count cs h) limit16) used_up p (record { var = fresh_word h (count cs h); next = set cs h (suc (count cs h)) })

-- ---- expressions

-- the term that stands for an expression, its atoms, the counters after them
pub record Flat : Type 0 where
  pub term : ℕ
  pub atoms : List Atom
  pub next : List ℕ

pub record Flats : Type 0 where
  pub terms : List ℕ
  pub atoms : List Atom
  pub next : List ℕ

-- a call takes its fresh variable before its arguments are walked; the arguments' atoms come first, left to right, then its own
abbrev mutual
  pub flatten : Expr → List ℕ → Res Flat
  flatten (leaf p w) cs = ok (record { term = w; atoms = []; next = cs })
  flatten (call p h es) cs = do
    f ← fresh p h cs
    r ← flatten_all es f.next
    ok
        (record {
          term = f.var;
          atoms = r.atoms ++ tab (record { place = p; head = h; ins = r.terms; out = f.var }) ∷ [];
          next = r.next;
        })

  pub flatten_all : Exprs → List ℕ → Res Flats
  flatten_all end cs = ok (record { terms = []; atoms = []; next = cs })
  flatten_all (e then es) cs = do
    r ← flatten e cs
    q ← flatten_all es r.next
    ok (record { terms = r.term ∷ q.terms; atoms = r.atoms ++ q.atoms; next = q.next })

-- ---- facts

pub record Query : Type 0 where
  pub atoms : List Atom
  pub next : List ℕ

-- a bare name or literal gives no atom; an equality comes after the atoms of its left and of its right side
abbrev pub flatten_fact : Fact → List ℕ → Res Query
flatten_fact (holds e) cs = do
  r ← flatten e cs
  ok (record { atoms = r.atoms; next = r.next })
flatten_fact (equal p a b) cs = do
  r ← flatten a cs
  q ← flatten b r.next
  ok (record { atoms = r.atoms ++ q.atoms ++ eqn p r.term q.term ∷ []; next = q.next })

abbrev pub to_query : List Fact → List ℕ → Res Query
to_query [] cs = ok (record { atoms = []; next = cs })
to_query (f ∷ fs) cs = do
  r ← flatten_fact f cs
  q ← to_query fs r.next
  ok (record { atoms = r.atoms ++ q.atoms; next = q.next })

-- ---- the variables of the flat atoms, in order, each as often as it stands there

abbrev pub vars_of : Sig → List ℕ → List ℕ
vars_of s [] = []
vars_of s (w ∷ ws) = cond (is_var s w) (w ∷ vars_of s ws) (vars_of s ws)

abbrev pub terms_of : Atom → List ℕ
terms_of (eqn p a b) = a ∷ b ∷ []
terms_of (tab t) = t.ins ++ t.out ∷ []

abbrev pub body_vars : Sig → List Atom → List ℕ
body_vars s [] = []
body_vars s (a ∷ xs) = vars_of s (terms_of a) ++ body_vars s xs
