-- What a walk over a written rule asks, and what it leaves of the scratch, the counters and its answer. The scratch has three regions that
-- grow: words written from `to` on, which stay below te; the stack from sp on, below se; the log from lg on, up to le.
-- Assumes nothing: these are definitions.
use Rattle.std.specs.Prelude.{◌≡◌, List, [], ◌∷◌, ◌++◌, ℕ, ◌+◌, ◌*◌, ◌<◌, ◌≤◌, length, get_or, Result}
use Rattle.std.specs.Prelude.{Ok, Err}
use Rattle.octets.specs.Regions.{part}
use Rattle.rules.specs.Words.{limit12, head_base, head_of}
use Rattle.rules.specs.Refusals.{Res, ok, refuse, ◌>>=◌}
use Rattle.rules.specs.Signature.{Sig, heads}
use Rattle.rules.specs.Written.{Reader, read_expr, read_many}
use Rattle.walks.specs.Log.{undone, total, Refuses}
use Rattle.walks.specs.declared.Walk.{Walk}
use Rattle.walks.specs.declared.Stopped.{Stopped}
use Rattle.walks.specs.declared.Tops.{Tops}

-- ---- what a walk makes

-- the terms that stand for the expressions, the words of the atoms or actions and how many these are, and the counters after them
pub record Piece : Type 0 where
  pub terms : List ℕ
  pub words : List ℕ
  pub count : ℕ
  pub next : List ℕ

abbrev pub nothing : List ℕ → Piece
nothing cs = record { terms = []; words = []; count = 0; next = cs }

abbrev pub both : Piece → Piece → Piece
both p q = record { terms = p.terms ++ q.terms; words = p.words ++ q.words; count = p.count + q.count; next = q.next }

-- one walk, and another from the counters that it leaves
abbrev pub and_then : Res Piece → (List ℕ → Res Piece) → Res Piece
and_then x y = do
  p ← x
  q ← y p.next
  ok (both p q)

-- ---- what it leaves

-- the log took `used` entries more, as many as the counters grew by, which take them back to what they were; and what stands outside the three regions
-- is as it was
pub record Kept (to te sp se lg le : ℕ) (s cs s' cs' : List ℕ) (log : ℕ) : Type 0 where
  pub used : ℕ
  pub up_to : log ≡ lg + used
  pub counts : log + total cs ≡ lg + total cs'
  pub in_log : log ≤ le
  pub size : length s' ≡ length s
  pub heads : length cs' ≡ length cs
  pub undo : undone (part s' lg used) cs' ≡ cs
  pub below : (i : ℕ) → i < to → get_or s' i 0 ≡ get_or s i 0
  pub between : (i : ℕ) → te ≤ i → i < sp → get_or s' i 0 ≡ get_or s i 0
  pub above : (i : ℕ) → se ≤ i → i < lg → get_or s' i 0 ≡ get_or s i 0

-- a piece was made of k words, which end at nx: its words stand from t on, and with its m terms they are at most four for each word read
pub record PieceStands (m : ℕ) (p : Piece) (k nx t : ℕ) (s' cs' : List ℕ) (r : Walk) : Type 0 where
  pub next : r.next ≡ nx
  pub to : r.to ≡ t + length p.words
  pub counters : cs' ≡ p.next
  pub written : part s' t (length p.words) ≡ p.words
  pub fits : length p.words + m ≤ 4 * k

-- the answer of a walk that has come to these places
abbrev pub reached_at : (next to log term : ℕ) → Walk
reached_at p t l v = record { next = p; to = t; log = l; term = v }

-- an answer without its term
abbrev pub untold : Walk → Walk
untold a = record { next = a.next; to = a.to; log = a.log; term = 0 }

-- where a walk goes on, by its places, and behind the walk a, with the stack up to sp
abbrev pub tops : (to sp log : ℕ) → Tops
tops t p l = record { to = t; sp = p; log = l }

abbrev pub tops_at : Walk → ℕ → Tops
tops_at a sp = tops a.to sp a.log

-- where the log ends, of either answer
abbrev pub log_of : Result Walk Stopped → ℕ
log_of (Ok a) = a.log
log_of (Err e) = e.log

-- where the terms of a piece are: T says it of an answer. A refusal has the number and the place of that of the definitions
abbrev pub Ended : ℕ → (Walk → Piece → Type 0) → Res Piece → ℕ → ℕ → ℕ → List ℕ → List ℕ → Result Walk Stopped → Type 0
Ended m T (ok p) k nx t s' cs' (Ok a) = PieceStands m p k nx t s' cs' a × T a p
Ended m T (ok p) k nx t s' cs' (Err e) = ⊥
Ended m T (refuse n q) k nx t s' cs' (Ok a) = ⊥
Ended m T (refuse n q) k nx t s' cs' (Err e) = Refuses n q e

-- the k words from `at` on were walked with this result
pub record Walked (m : ℕ) (T : Walk → Piece → Type 0) (x : Res Piece) (k at to sp lg : ℕ) (s cs s' cs' : List ℕ) (r : Result Walk Stopped) : Type 0 where
  pub kept : Kept to (to + 4 * k) sp (sp + k) lg (lg + k) s cs s' cs' (log_of r)
  pub ended : Ended m T x k (at + k) to s' cs' r

-- the term is in the answer. Each call has used one counter and given one atom or action
pub record InAnswer (lg : ℕ) (r : Walk) (p : Piece) : Type 0 where
  pub term : p.terms ≡ r.term ∷ []
  pub uses : r.log ≡ lg + p.count

-- n terms are on the stack
pub record OnStack (sp n lg : ℕ) (s' : List ℕ) (r : Walk) (p : Piece) : Type 0 where
  pub size : length p.terms ≡ n
  pub terms : part s' sp n ≡ p.terms
  pub uses : r.log ≡ lg + p.count

-- they are there, and none is in the answer
abbrev pub OnlyOnStack : (sp n lg : ℕ) → List ℕ → Walk → Piece → Type 0
OnlyOnStack sp n lg s' r p = OnStack sp n lg s' r p × (r.term ≡ 0)

-- there are none
abbrev pub NoTerms : Walk → Piece → Type 0
NoTerms r p = (p.terms ≡ []) × (r.term ≡ 0)

-- n terms are on the stack, of the words behind the first `front` of `size`; x is what they are made of, and a the walk over them. There is room for `size`
-- words
pub record Termed (front at to size n sp lg : ℕ) (x : Res Piece) (s cs s1 cs1 : List ℕ) (a : Walk) : Type 0 where
  pub behind : ℕ
  pub whole : size ≡ front + behind
  pub walk : Walked n (OnStack sp n lg s1) x behind (at + front) to sp lg s cs s1 cs1 (Ok a)
  pub many : n ≤ behind
  pub words : to + 4 * size ≤ sp
  pub stack : sp + size ≤ lg
  pub log : lg + size ≤ length s

-- ---- what it asks

-- room for what the words from `at` on can need, up to `n`: four words written, one on the stack and one in the log for each
pub record Room (n at : ℕ) (t : Tops) (len : ℕ) : Type 0 where
  pub words : t.to + 4 * n ≤ t.sp + 4 * at
  pub stack : t.sp + n ≤ t.log + at
  pub log : t.log + n ≤ len + at

-- a signature under which something is so
pub record Under (P : Sig → Type 0) : Type 0 where
  pub sig : Sig
  pub known : P sig

-- the heads of a signature, each with its counter
pub record Counted (sig : Sig) (cs : List ℕ) : Type 0 where
  pub few : heads sig ≤ limit12
  pub fits : heads sig ≤ length cs

-- what a walk of the words from `at` on asks: a signature under which P is so, with a counter for each of its heads, and room
pub record Asks (P : Sig → Type 0) (ws : List ℕ) (at : ℕ) (t : Tops) (s cs : List ℕ) : Type 0 where
  pub under : Under (λ sig. P sig × Counted sig cs)
  pub room : Room (length ws) at t (length s)

-- behind the walk a, whose n terms are on the stack, the kind 3 word w has a counter and room: for one use in the log, and for `own` words before the stack
pub record UseFits (own w n sp : ℕ) (a : Walk) (s cs : List ℕ) : Type 0 where
  pub high : head_base ≤ w
  pub head : head_of w < limit12
  pub counter : head_of w < length cs
  pub log : a.log < length s
  pub words : a.to + own ≤ sp
  pub stack : sp + n ≤ length s

-- what a reader reads from `at` on: `size` words, not past the end
pub record ReadAt {A : Type 0} (one : Reader A) (ws : List ℕ) (at : ℕ) : Type 0 where
  pub value : A
  pub size : ℕ
  pub reads : one at ≡ ok (record { value = value; at = at + size })
  pub inside : at + size ≤ length ws

-- an expression at most d deep, and n of them
abbrev pub ExprAt : Sig → List ℕ → ℕ → ℕ → Type 0
ExprAt sig ws d at = ReadAt (read_expr sig ws d) ws at

abbrev pub ExprsAt : Sig → List ℕ → ℕ → ℕ → ℕ → Type 0
ExprsAt sig ws d n at = ReadAt (read_many (read_expr sig ws d) n) ws at
