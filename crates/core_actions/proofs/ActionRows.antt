-- A row of actions, over plain lists: each action is lowered under the names that those before it bound. Assumes nothing.
use mathlib.Core.Path.{◌≡◌, refl, sym, subst}
use mathlib.Core.List.{List, [], ◌∷◌, ◌++◌}
use Prim.Native.Nat.{ℕ, ◌+◌, ◌-◌, ◌*◌, ◌≤◌, ◌<◌}
use native.Mathlib.Omega.{arith}
use lib.ListN.{length, length-append}
use Rattle.rules.specs.Refusals.{Res, ok, refuse, ◌>>=◌}
use Rattle.rules.specs.Signature.{Sig}
use Rattle.rules.specs.Written.{read_action, read_row}
use Rattle.rules.specs.Flat.{CoreAction, Let, Set, Delete, Subsume, Union, Panic, Call, action_words, words_of}
use Rattle.rules.specs.ToCoreActions.{Done, lower_action, to_core_actions}
use Rattle.std.specs.Prelude.{Result, Ok, Err}
use Rattle.walks.specs.Steps.{Piece, both, reached_at, tops, tops_at, Walked, Room}
use Rattle.walks.specs.declared.Walk.{Walk}
use Rattle.walks.specs.declared.Stopped.{Stopped}
use Rattle.walks.proofs.Frames.{kept_wide}
use Rattle.walks.proofs.Steps.{went, none_walked, walk_then, retold}
use Rattle.walks.proofs.Read.{moved, row_cases, no_row_cases}
use Rattle.walks.proofs.Rows.{Going, going_next}
use Rattle.walks.proofs.Words.{words_append}
use Rattle.head_exprs.specs.Scopes.{Scoped}
use Rattle.head_exprs.specs.declared.scope.Scope.{Scope}
use Rattle.actions.specs.Acts.{done_piece, acted_at, Acts}
use Rattle.core_actions.specs.Rows.{ActionAt, ActionsAt, NamesAfter}
use Rattle.actions.specs.declared.Acted.{Acted}
use Rattle.core_actions.proofs.ReadActions.{action_on, action_some}

-- each flat action has a word
count_words : (xs : List CoreAction) → length xs ≤ length (words_of action_words xs)
count_words [] = omega arith
count_words (x ∷ xs) = omega (arith, count_words xs, length-append (action_words x) (words_of action_words xs), some x)
  where
    some : (x : CoreAction) → 0 < length (action_words x)
    some (Let a b) = omega arith
    some (Set h ts v) = omega arith
    some (Delete h ts) = omega arith
    some (Subsume h ts) = omega arith
    some (Union a b) = omega arith
    some (Panic l) = omega arith
    some (Call t h ts) = omega arith

-- where an action is done: at most one name is let, and its flat actions are not more than its words
pub acts_few : {sig : Sig} {bound : List ℕ} {c : Scope} {k at to sp lg : ℕ} {s cs s1 cs1 : List ℕ} {a : Acted} (x : Res Done)
    → Acts x sig bound c k at to sp lg s cs s1 cs1 (Ok a) → (a.names ≤ 1) × (to + a.count ≤ a.to)
acts_few (ok d) w = (w.after.0, omega (arith, w.piece.ended.0.to, w.piece.ended.1, count_words d.acts))
acts_few (refuse n p) w = absurd w.piece.ended

-- the scope with this many names let
abbrev pub having : Scope → ℕ → Scope
having c n = record { globals = c.globals; body = c.body; first = c.first; names = n }

-- where an action that is done has come to
abbrev pub come_to : Acted → Walk
come_to a = reached_at a.next a.to a.log 0

-- the actions of one, then those of others
abbrev rest_of : Done → Res Done → Res Done
rest_of d y = ◌>>=◌ y (λ q. ok (record { acts = d.acts ++ q.acts; bound = q.bound; next = q.next }))

abbrev piece_of : Done → Piece
piece_of d = record { terms = []; words = words_of action_words d.acts; count = length d.acts; next = d.next }

-- so many names are bound at the end, if it comes to that
abbrev Binds : Res Done → ℕ → Type 0
Binds (ok d) t = length d.bound ≡ t
Binds (refuse n p) t = Unit {0}

binds_more : (d : Done) (y : Res Done) (t : ℕ) → Binds y t → Binds (rest_of d y) t
binds_more d (ok q) t e = e
binds_more d (refuse n p) t e = tt

row_piece : (d : Done) (y : Res Done) → done_piece (rest_of d y) ≡ ◌>>=◌ (done_piece y) (λ q. ok (both (piece_of d) q))
row_piece d (ok q) =
    λ i. ok (record { terms = []; words = words_append action_words d.acts q.acts i; count = length-append d.acts q.acts i; next = q.next })
row_piece d (refuse n p) = refl

module _ (sig : Sig) (bound ws : List ℕ) (n at to lg : ℕ) (c : Scope) (s cs : List ℕ) where
  abbrev sp : ℕ
  sp = c.first + c.names

  -- the row x is walked, which gives `count` flat actions
  abbrev pub Made : ActionsAt sig ws n at → (count : ℕ) (s' cs' : List ℕ) → Result Walk Stopped → Type 0
  Made x count s' cs' r = Walked 0 (λ a p. p.count ≡ count) (done_piece (to_core_actions sig bound x.value cs)) x.size at to sp lg s cs s' cs' r

  -- k words are walked with the result y from where w stands, with `names` names let
  abbrev pub Makes : (names : ℕ) (s1 cs1 : List ℕ) → Walk → (count : ℕ) → Res Piece → (k : ℕ) (s' cs' : List ℕ) → Result Walk Stopped → Type 0
  Makes names s1 cs1 w count y k s' cs' r = Walked 0 (λ a p. p.count ≡ count) y k w.next w.to (c.first + names) w.log s1 cs1 s' cs' r

  -- of the row x there are `left` actions left, `names` names are let, and `count` flat actions written; walking the others makes the whole
  pub record Left (x : ActionsAt sig ws n at) (left names count : ℕ) (s1 cs1 : List ℕ) (w : Walk) : Type 0 where
    pub rest : ActionsAt sig ws left w.next
    pub now : List ℕ
    pub scoped : Scoped sig now s1 (having c names)
    pub let' : names + length bound ≡ c.names + length now
    pub last : (t : ℕ) → Binds (to_core_actions sig now rest.value cs1) t → Binds (to_core_actions sig bound x.value cs) t
    pub whole : (s' cs' : List ℕ) (r : Result Walk Stopped) (more : ℕ)
        → Makes names s1 cs1 w more (done_piece (to_core_actions sig now rest.value cs1)) rest.size s' cs' r → Made x (count + more) s' cs' r

  pub left_all : (x : ActionsAt sig ws n at) (t : ℕ) → Scoped sig bound s c
      → Left x n c.names 0 s cs (reached_at at to lg t)
  left_all x t sc =
      record {
        rest = x;
        now = bound;
        scoped = sc;
        let' = refl;
        last = λ t z. z;
        whole = λ s' cs' r more z. retold (done_piece (to_core_actions sig bound x.value cs)) z (λ a p e. sum p.count more e);
      }
    where
      sum : (a more : ℕ) → a ≡ more → a ≡ 0 + more
      sum a more e = omega arith

  zero_more : (x : ActionsAt sig ws n at) (count : ℕ) (s1 cs1 : List ℕ) (r : Result Walk Stopped) → Made x (count + 0) s1 cs1 r → Made x count s1 cs1 r
  zero_more x count s1 cs1 r z = retold (done_piece (to_core_actions sig bound x.value cs)) z (λ a p e. sum p.count count e)
    where
      sum : (a n : ℕ) → a ≡ n + 0 → a ≡ n
      sum a n e = omega arith

  pub left_none : (x : ActionsAt sig ws n at) (left names count : ℕ) (s1 cs1 : List ℕ) (w : Walk) → Left x left names count s1 cs1 w → left ≡ 0
      → Made x count s1 cs1 (Ok w)
  left_none x left names count s1 cs1 w l z =
      zero_more x count s1 cs1 (Ok w)
      (l.whole s1 cs1 (Ok w) 0
      (no_row_cases (read_action sig ws) ws (action_on sig ws)
      (λ xs k. Makes names s1 cs1 w 0 (done_piece (to_core_actions sig l.now xs cs1)) k s1 cs1 (Ok w)) left w.next l.rest z
      (none_walked (c.first + names) s1 cs1 w refl)))

  pub first_action : (left at' : ℕ) → ActionsAt sig ws left at' → 0 < left → ActionAt sig ws at'
  first_action left at' x h = row_cases (read_action sig ws) ws (action_on sig ws) (λ xs k. ActionAt sig ws at') left at' x h (λ f fs. f)

  -- and so many names are let
  pub left_names : (x : ActionsAt sig ws n at) (left names count : ℕ) (s1 cs1 : List ℕ) (w : Walk)
      → Left x left names count s1 cs1 w → left ≡ 0 → NamesAfter (to_core_actions sig bound x.value cs) bound c (Ok (acted_at w.next w.to w.log names count))
  left_names x left names count s1 cs1 w l z =
      go (to_core_actions sig bound x.value cs)
      (l.last (length l.now)
      (no_row_cases (read_action sig ws) ws (action_on sig ws) (λ xs k. Binds (to_core_actions sig l.now xs cs1) (length l.now)) left w.next l.rest z refl))
    where
      go : (y : Res Done) → Binds y (length l.now) → NamesAfter y bound c (Ok (acted_at w.next w.to w.log names count))
      go (ok d) e = omega (arith, l.let', e)
      go (refuse m p) e = tt

  -- one more: it is lowered where w stands, which leaves s2 and cs2
  abbrev pub Lowers : (now : List ℕ) (names : ℕ) (s1 cs1 : List ℕ) → Walk → Res Done → (k : ℕ) (s2 cs2 : List ℕ) → Result Acted Stopped → Type 0
  Lowers now names s1 cs1 w y k s2 cs2 r = Acts y sig now (having c names) k w.next w.to (c.first + names) w.log s1 cs1 s2 cs2 r

  module _ (x : ActionsAt sig ws n at) (left names count : ℕ) (s1 cs1 : List ℕ) (w : Walk) (l : Left x left names count s1 cs1 w) (some : 0 < left)
      (room : Room (length ws) w.next (tops_at w (c.first + names)) (length s1)) (s2 cs2 : List ℕ) where
    abbrev First : Result Acted Stopped → Type 0
    First r = (f : ActionAt sig ws w.next) → Lowers l.now names s1 cs1 w (lower_action sig l.now f.value cs1) f.size s2 cs2 r

    pub left_stop : (e : Stopped) → First (Err e) → Made x count s2 cs2 (Err e)
    left_stop e walk =
        zero_more x count s2 cs2 (Err e)
        (l.whole s2 cs2 (Err e) 0
        (row_cases (read_action sig ws) ws (action_on sig ws)
        (λ xs k. Makes names s1 cs1 w 0 (done_piece (to_core_actions sig l.now xs cs1)) k s2 cs2 (Err e)) left w.next l.rest some
        (λ f fs. halt f.size fs.size (lower_action sig l.now f.value cs1) (λ d. rest_of d (to_core_actions sig d.bound fs.value d.next)) (walk f))))
      where
        halt : (k k2 : ℕ) (y : Res Done) (g : Done → Res Done) → Lowers l.now names s1 cs1 w y k s2 cs2 (Err e)
            → Makes names s1 cs1 w 0 (done_piece (◌>>=◌ y g)) (k + k2) s2 cs2 (Err e)
        halt k k2 (ok d) g z = absurd z.piece.ended
        halt k k2 (refuse m p) g z =
            record {
              kept =
                  kept_wide w.to (w.to + 4 * (k + k2)) (c.first + names) (c.first + names + (k + k2)) (w.log + (k + k2)) z.piece.kept
                  (omega arith) (omega arith) (omega arith) (omega arith) (omega arith);
              ended = z.piece.ended;
            }

    pub left_next : (a : Acted) → First (Ok a) → Left x (left - 1) (names + a.names) (count + a.count) s2 cs2 (come_to a)
    left_next a walk =
        row_cases (read_action sig ws) ws (action_on sig ws)
        (λ xs k. ((s' cs' : List ℕ) (r : Result Walk Stopped) (more : ℕ)
        → Makes names s1 cs1 w more (done_piece (to_core_actions sig l.now xs cs1)) k s' cs' r → Made x (count + more) s' cs' r)
        → ((t : ℕ) → Binds (to_core_actions sig l.now xs cs1) t → Binds (to_core_actions sig bound x.value cs) t)
        → Left x (left - 1) (names + a.names) (count + a.count) s2 cs2 (come_to a))
        left w.next l.rest some (λ f fs wh la. next f fs (lower_action sig l.now f.value cs1) (walk f) wh la) l.whole l.last
      where
        next : (f : ActionAt sig ws w.next) (fs : ActionsAt sig ws (left - 1) (w.next + f.size)) (y : Res Done)
            → Lowers l.now names s1 cs1 w y f.size s2 cs2 (Ok a)
            → ((s' cs' : List ℕ) (r : Result Walk Stopped) (more : ℕ)
            → Makes names s1 cs1 w more (done_piece (◌>>=◌ y (λ d. rest_of d (to_core_actions sig d.bound fs.value d.next)))) (f.size + fs.size) s' cs' r
            → Made x (count + more) s' cs' r)
            → ((t : ℕ) → Binds (◌>>=◌ y (λ d. rest_of d (to_core_actions sig d.bound fs.value d.next))) t → Binds (to_core_actions sig bound x.value cs) t)
            → Left x (left - 1) (names + a.names) (count + a.count) s2 cs2 (come_to a)
        next f fs (refuse m p) z wh la = absurd z.piece.ended
        next f fs (ok d) z wh la =
            let g = went (done_piece (ok d)) z.piece in
            let i = fs.inside in
            let pos = action_some sig ws w.next f in
            let one = z.after.0 in
            let r2 : c.first + names + (f.size + fs.size) ≤ w.log = omega (arith, room.stack) in
            record {
              rest = moved (read_row (read_action sig ws) (left - 1)) ws (w.next + f.size) a.next (sym g.next) fs;
              now = d.bound;
              scoped = z.after.2;
              let' = omega (arith, l.let', z.after.1);
              last =
                  λ t u. la t (binds_more d (to_core_actions sig d.bound fs.value d.next) t
                  (subst (λ (k : List ℕ). Binds (to_core_actions sig d.bound fs.value k) t) z.piece.ended.0.counters u));
              whole =
                  λ s' cs' r more u. retold (done_piece (to_core_actions sig bound x.value cs))
                  (wh s' cs' r (a.count + more)
                  (subst (λ (y : Res Piece). Makes names s1 cs1 w (a.count + more) y (f.size + fs.size) s' cs' r)
                  (sym (row_piece d (to_core_actions sig d.bound fs.value d.next)))
                  (walk_then f.size fs.size w.next w.to (c.first + names) (c.first + (names + a.names)) w.log s1 cs1 s2 cs2 s' cs' (come_to a)
                  r2 (omega arith) (omega arith) 0 (λ b p. p.count ≡ a.count + more) (done_piece (ok d))
                  (λ k. done_piece (to_core_actions sig d.bound fs.value k))
                  (omega arith) z.piece u (λ b p q t v. plus p.count q.count more t v))))
                  (λ b p e. sum p.count more e);
            }
          where
            plus : (p q more : ℕ) → p ≡ a.count → q ≡ more → p + q ≡ a.count + more
            plus p q more t v = omega arith

            sum : (p more : ℕ) → p ≡ count + (a.count + more) → p ≡ count + a.count + more
            sum p more e = omega arith

    pub left_going : (a : Acted) → First (Ok a) → Room (length ws) at (tops to sp lg) (length s) → Going at to sp lg s cs (c.first + names) s1 cs1 w
        → Going at to sp lg s cs (c.first + (names + a.names)) s2 cs2 (come_to a)
    left_going a walk start g =
        row_cases (read_action sig ws) ws (action_on sig ws) (λ xs k. Going at to sp lg s cs (c.first + (names + a.names)) s2 cs2 (come_to a))
        left w.next l.rest some (λ f fs. next f)
      where
        next : ActionAt sig ws w.next → Going at to sp lg s cs (c.first + (names + a.names)) s2 cs2 (come_to a)
        next f =
            let i = f.inside in
            let y = lower_action sig l.now f.value cs1 in
            let one = (acts_few y (walk f)).0 in
            let pos = action_some sig ws w.next f in
            let same : c.first + names + a.names ≡ c.first + (names + a.names) = omega arith in
            subst (λ (t : ℕ). Going at to sp lg s cs t s2 cs2 (come_to a)) same
            (going_next (length ws) f.size a.names start g i (went (done_piece y) (walk f).piece) (walk f).piece.kept (omega arith))
