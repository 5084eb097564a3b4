-- Readings put together from others, written or flat: where they end, and what a walk answers for them. Assumes nothing.
use mathlib.Core.Path.{◌≡◌, refl, sym, ap, ◌∙◌}
use mathlib.Core.Bool.{Bool, true, false, ◌&&◌}
use mathlib.Core.List.{List}
use Prim.Native.Nat.{ℕ, zero, suc, ◌+◌, ◌-◌, ◌≤◌, ◌<◌}
use native.Mathlib.Omega.{arith}
use lib.ListN.{length, get_or}
use lib.Dec.{ltb, lit≤}
use borrow.Author.Tests.{ltb-true, le-leb, lt-leb}
use Rattle.rules.specs.Refusals.{Res, ok, refuse, ◌>>=◌, demand, unfit}
use Rattle.rules.specs.Written.{Expr, Exprs, ◌then◌, Read, Reader, read_word, read_many, read_row, all_read}
use Rattle.written.specs.Written.{ending_of, whole_of}

-- ---- where a reading ends

-- A reading that begins at p ends at least j words further and, unless it begins behind the record's end, not behind that end. A refusal is not 0, the number
-- that a walk gives where there is none, and its place is not behind the end either
abbrev pub Went : {A : Type 0} → List ℕ → (p j : ℕ) → Res (Read A) → Type 0
Went ws p j (ok r) = (p + j ≤ r.at) × (r.at - p ≤ length ws - p)
Went ws p j (refuse n q) = (0 < n) × (q - p ≤ length ws - p)

module _ (ws : List ℕ) where
  pub went_then : {A B : Type 0} (p j k : ℕ) (x : Res (Read A)) (f : Read A → Res (Read B))
      → Went ws p j x → ((r : Read A) → Went ws r.at k (f r)) → Went ws p (j + k) (◌>>=◌ x f)
  went_then {B = B} p j k (ok r) f h g = go (f r) (g r)
    where
      go : (y : Res (Read B)) → Went ws r.at k y → Went ws p (j + k) y
      go (ok t) l = (omega arith, omega arith)
      go (refuse n q) l = (l.0, omega arith)
  went_then p j k (refuse n q) f h g = h

  -- a value made of what was read
  pub went_made : {A B : Type 0} (p j : ℕ) (x : Res (Read A)) (f : Read A → B) → Went ws p j x → Went ws p j (◌>>=◌ x (λ r. ok (record { value = f r; at = r.at })))
  went_made p j (ok r) f h = h
  went_made p j (refuse n q) f h = h

  pub went_less : {A : Type 0} (p j k : ℕ) (x : Res (Read A)) → k ≤ j → Went ws p j x → Went ws p k x
  went_less p j k (ok r) l h = (omega arith, h.1)
  went_less p j k (refuse n q) l h = h

  -- from the word before, which is there
  pub went_from : {A : Type 0} (p j : ℕ) (x : Res (Read A)) → p < length ws → Went ws (suc p) j x → Went ws p (suc j) x
  went_from p j (ok r) l h = (omega arith, omega arith)
  went_from p j (refuse n q) l h = (h.0, omega arith)

  pub went_word : (fits : ℕ → Bool) (p : ℕ) → Went ws p 1 (read_word ws fits p)
  went_word fits p = go (ltb p (length ws)) refl (fits (get_or ws p 0))
    where
      go : (a : Bool) → ltb p (length ws) ≡ a → (b : Bool) → Went ws p 1 (demand (a && b) unfit p (record { value = get_or ws p 0; at = suc p }))
      go true e true = let l = ltb-true p (length ws) e in (omega arith, omega arith)
      go true e false = (omega arith, omega arith)
      go false e b = (omega arith, omega arith)

  -- behind a word that is there
  pub behind : {A : Type 0} (p : ℕ) (x : Res (Read A)) → p < length ws → Went ws (suc p) 1 x → Went ws p 1 x
  behind p x l h = went_less p 2 1 x (lit≤ tt) (went_from p 1 x l h)

  pub went_row : {A : Type 0} (one : Reader A) → ((p : ℕ) → Went ws p 1 (one p)) → (n p : ℕ) → Went ws p 0 (read_row one n p)
  went_row one h zero p = (omega arith, omega arith)
  went_row one h (suc n) p =
      went_then p 0 0 (one p) _ (went_less p 1 0 (one p) (lit≤ tt) (h p)) (λ r. went_made r.at 0 (read_row one n r.at) _ (went_row one h n r.at))

-- ---- a walk follows the reading

-- a refusal is the whole answer
pub stops : {A B : Type 0} (x : Res (Read A)) (f : Read A → Res (Read B)) {n p : ℕ} → refuse n p ≡ ending_of x → refuse n p ≡ ending_of (◌>>=◌ x f)
stops (ok r) f e = cc
stops (refuse n p) f e = e

-- and else the answer is that of the rest, from where it begins
pub goes : {A B : Type 0} (x : Res (Read A)) (f : Read A → Res (Read B)) {q : ℕ} {z : Res ℕ}
    → ok q ≡ ending_of x → ((r : Read A) → r.at ≡ q → z ≡ ending_of (f r)) → z ≡ ending_of (◌>>=◌ x f)
goes (ok r) f {q} e g = let same : r.at ≡ q = cc in g r same
goes (refuse n p) f e g = cc

-- which is known
ending_ends : {A : Type 0} (ws : List ℕ) (p j : ℕ) (x : Res (Read A)) {q : ℕ} → Went ws p j x → ok q ≡ ending_of x → (p + j ≤ q) × (q - p ≤ length ws - p)
ending_ends ws p j (ok r) {q} l e = let same : q ≡ r.at = cc in (omega arith, omega arith)
ending_ends ws p j (refuse n r) l e = cc

-- a value made of what was read ends where the reading did
pub made : {A B : Type 0} (x : Res (Read A)) (f : Read A → B) → ending_of (◌>>=◌ x (λ r. ok (record { value = f r; at = r.at }))) ≡ ending_of x
made (ok r) f = refl
made (refuse n p) f = refl

-- one thing, then another, and a value made of both
pub both : {A B C : Type 0} (x : Res (Read A)) (one : Reader B) (f : Read A → Read B → C) {q : ℕ} {z : Res ℕ} → ok q ≡ ending_of x → z ≡ ending_of (one q)
    → z ≡ ending_of (◌>>=◌ x (λ a. ◌>>=◌ (one a.at) (λ b. ok (record { value = f a b; at = b.at }))))
both x one f e g = goes x (λ a. ◌>>=◌ (one a.at) (λ b. ok (record { value = f a b; at = b.at }))) e (λ r same. rw (made (one r.at) (f r), same) g)

-- ---- several things, one after the other

-- a reader of n things, taken apart at the first
pub record Several {A B : Type 0} (ws : List ℕ) (one : Reader A) (several : ℕ → Reader B) : Type 0 where
  pub went : (p : ℕ) → Went ws p 1 (one p)
  pub none : (p : ℕ) → ending_of (several 0 p) ≡ ok p
  pub more : (n p : ℕ) → ending_of (several (suc n) p) ≡ ending_of (◌>>=◌ (one p) (λ x. several n x.at))

pub then_made : {A B C : Type 0} (x : Res (Read A)) (one : Reader B) (f : Read A → Read B → C)
    → ending_of (◌>>=◌ x (λ a. ◌>>=◌ (one a.at) (λ b. ok (record { value = f a b; at = b.at })))) ≡ ending_of (◌>>=◌ x (λ a. one a.at))
then_made (ok a) one f = made (one a.at) (f a)
then_made (refuse n p) one f = refl

pub many : (ws : List ℕ) (one : Reader Expr) → ((p : ℕ) → Went ws p 1 (one p)) → Several ws one (read_many one)
many ws one went = record { went = went; none = λ p. refl; more = λ n p. then_made (one p) (read_many one n) _ }

pub row : {A : Type 0} (ws : List ℕ) (one : Reader A) → ((p : ℕ) → Went ws p 1 (one p)) → Several ws one (read_row one)
row ws one went = record { went = went; none = λ p. refl; more = λ n p. then_made (one p) (read_row one n) _ }

-- of `count` from `at` on, `left` are still to be read from `next` on: the rest answers as the whole does
pub record Left {A B : Type 0} {ws : List ℕ} {one : Reader A} {several : ℕ → Reader B} (k : Several ws one several) (count at left next : ℕ) : Type 0 where
  pub same : ending_of (several left next) ≡ ending_of (several count at)

module _ {A B : Type 0} {ws : List ℕ} {one : Reader A} {several : ℕ → Reader B} {k : Several ws one several} where
  pub left_start : {count at : ℕ} → Left k count at count at
  left_start = record { same = refl }

  -- the walk over the next of them
  module _ {count at left next : ℕ} (l : Left k count at left next) where
    pub left_stops : {m p : ℕ} → 0 < left → refuse m p ≡ ending_of (one next) → refuse m p ≡ ending_of (several count at)
    left_stops {m} {p} some e = go left some ∙ l.same
      where
        go : (n : ℕ) → 0 < n → refuse m p ≡ ending_of (several n next)
        go zero z = absurd (omega arith)
        go (suc n) z = stops (one next) (λ x. several n x.at) e ∙ sym (k.more n next)

    pub left_next : {q : ℕ} → 0 < left → ok q ≡ ending_of (one next) → Left k count at (left - 1) q
    left_next {q} some e = record { same = go left some ∙ l.same }
      where
        go : (n : ℕ) → 0 < n → ending_of (several (n - 1) q) ≡ ending_of (several n next)
        go zero z = absurd (omega arith)
        go (suc n) z =
            let down : suc n - 1 ≡ n = omega arith in
            goes (one next) (λ x. several n x.at) e (λ r same. rw (down, same)) ∙ sym (k.more n next)

    -- and the one after it stands behind
    pub left_on : {q : ℕ} → ok q ≡ ending_of (one next) → next < q
    left_on e = omega (arith, (ending_ends ws next 1 (one next) (k.went next) e).0)

    pub left_end : left ≡ 0 → ok next ≡ ending_of (several count at)
    left_end none = sym (k.none next) ∙ ap (λ (n : ℕ). ending_of (several n next)) (sym none) ∙ l.same

-- none is to be read
pub none_left : {A B : Type 0} {ws : List ℕ} {one : Reader A} {several : ℕ → Reader B} (k : Several ws one several) (n p : ℕ) → n ≡ 0 → ok p ≡ ending_of (several n p)
none_left k n p z = left_end {k = k} (left_start {k = k}) z

-- ---- a row of expressions, and one more

-- what is read behind a value begins where that was made
pub moved : {A B C : Type 0} (x : Res (Read A)) (f : Read A → B) (one : Reader C)
    → ending_of (◌>>=◌ {A = Read B} (◌>>=◌ x (λ a. ok (record { value = f a; at = a.at }))) (λ b. one b.at)) ≡ ending_of (◌>>=◌ x (λ a. one a.at))
moved (ok a) f one = refl
moved (refuse n p) f one = refl

-- one expression
pub just_one : (one : Reader Expr) (p : ℕ) → ending_of (read_many one 1 p) ≡ ending_of (one p)
just_one one p = go (one p)
  where
    go : (x : Res (Read Expr)) → ending_of (◌>>=◌ x (λ e. ◌>>=◌ (read_many one 0 e.at) (λ es. ok (record { value = e.value then es.value; at = es.at })))) ≡ ending_of x
    go (ok r) = refl
    go (refuse n q) = refl

-- what is read behind a row is one more of it
pub last_one : (one : Reader Expr) (n p : ℕ) → ending_of (◌>>=◌ (read_many one n p) (λ es. one es.at)) ≡ ending_of (read_many one (suc n) p)
last_one one zero p = sym (just_one one p)
last_one one (suc n) p = go (one p) (λ q. last_one one n q)
  where
    go : (x : Res (Read Expr)) → ((q : ℕ) → ending_of (◌>>=◌ (read_many one n q) (λ es. one es.at)) ≡ ending_of (read_many one (suc n) q))
        → ending_of (◌>>=◌ {A = Read Exprs} (◌>>=◌ x (λ e. ◌>>=◌ (read_many one n e.at) (λ es. ok (record { value = e.value then es.value; at = es.at })))) (λ es. one es.at))
        ≡ ending_of (◌>>=◌ x (λ e. ◌>>=◌ (read_many one (suc n) e.at) (λ es. ok (record { value = e.value then es.value; at = es.at }))))
    go (ok e) h = moved (read_many one n e.at) _ one ∙ h e.at ∙ sym (made (read_many one (suc n) e.at) _)
    go (refuse m q) h = refl

-- ---- a whole record: what is read from index 0 on, and nothing behind it

-- the rest may be replaced by one that is the same everywhere
pub then_same : {A B : Type 0} (x : Res A) (f g : A → Res B) → ((a : A) → f a ≡ g a) → ◌>>=◌ x f ≡ ◌>>=◌ x g
then_same (ok a) f g h = h a
then_same (refuse n p) f g h = refl

pub then_then : {A B C : Type 0} (x : Res A) (f : A → Res B) (g : B → Res C) → ◌>>=◌ x (λ a. ◌>>=◌ (f a) g) ≡ ◌>>=◌ (◌>>=◌ x f) g
then_then (ok a) f g = refl
then_then (refuse n p) f g = refl

-- what x reads from index 0 on is the whole record, y, if nothing is behind it
pub record Whole {A : Type 0} (ws : List ℕ) (x : Res (Read A)) (y : Res A) : Type 0 where
  pub went : Went ws 0 1 x
  pub is : y ≡ ◌>>=◌ x (all_read ws)

module _ {A : Type 0} {ws : List ℕ} {x : Res (Read A)} {y : Res A} (k : Whole ws x y) where
  pub whole_stops : {n p : ℕ} → refuse n p ≡ ending_of x → refuse n p ≡ whole_of ws y
  whole_stops {n} {p} e = rw k.is (go x e)
    where
      go : (z : Res (Read A)) → refuse n p ≡ ending_of z → refuse n p ≡ whole_of ws (◌>>=◌ z (all_read ws))
      go (ok r) f = cc
      go (refuse m q) f = f

  pub surplus : {q : ℕ} → ok q ≡ ending_of x → q < length ws → refuse unfit q ≡ whole_of ws y
  surplus {q} e l = rw k.is (go x e)
    where
      go : (z : Res (Read A)) → ok q ≡ ending_of z → refuse unfit q ≡ whole_of ws (◌>>=◌ z (all_read ws))
      go (ok r) f = let same : r.at ≡ q = cc in rw (same, lt-leb (length ws) q l) refl
      go (refuse m p) f = cc

  pub all_read_lem : {q : ℕ} → ok q ≡ ending_of x → length ws ≤ q → ok (length ws) ≡ whole_of ws y
  all_read_lem {q} e l = rw k.is (go x e)
    where
      go : (z : Res (Read A)) → ok q ≡ ending_of z → ok (length ws) ≡ whole_of ws (◌>>=◌ z (all_read ws))
      go (ok r) f = let same : r.at ≡ q = cc in rw (same, le-leb (length ws) q l) refl
      go (refuse m p) f = cc
