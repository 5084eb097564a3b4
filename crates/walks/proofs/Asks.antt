-- What a walk's calls ask, from what the walk itself asks. Assumes nothing.
use mathlib.Core.Path.{◌≡◌, sym}
use mathlib.Core.List.{List}
use Prim.Native.Nat.{ℕ, ◌+◌, ◌-◌, ◌≤◌, ◌<◌}
use native.Mathlib.Omega.{arith}
use lib.ListN.{length, get_or}
use Rattle.rules.specs.Words.{limit12, literal_base, head_base, head_of, count_of}
use Rattle.rules.specs.Signature.{Sig, heads}
use Rattle.rules.specs.Written.{read_expr}
use Rattle.walks.specs.Steps.{tops, tops_at, Room, Counted, ExprAt, ExprsAt}
use Rattle.walks.specs.declared.Walk.{Walk}
use Rattle.walks.proofs.Steps.{Went}
use Rattle.walks.proofs.Read.{moved, expr_some, call_cases, first_cases}

pub expr_inside : (sig : Sig) (ws : List ℕ) (d at : ℕ) → ExprAt sig ws d at → at < length ws
expr_inside sig ws d at x = omega (arith, expr_some sig ws d at x, x.inside)

pub counted_kept : {sig : Sig} {cs cs1 : List ℕ} → Counted sig cs → length cs1 ≡ length cs → Counted sig cs1
counted_kept x e = record { few = x.few; fits = omega (arith, x.fits) }

pub first_at_lem : (sig : Sig) (ws : List ℕ) (d n at : ℕ) → ExprsAt sig ws d n at → 0 < n → ExprAt sig ws d at
first_at_lem sig ws d n at x h = first_cases sig ws (λ es k. ExprAt sig ws d at) d n at x h (λ f fs. f)

-- one word is read, and at most one use logged
pub room_in : {n at to sp lg len : ℕ} (t len1 : ℕ) → Room n at (tops to sp lg) len → t ≤ 1 → len1 ≡ len → Room n (at + 1) (tops to sp (lg + t)) len1
room_in t len1 r h e = record { words = omega (arith, r.words); stack = omega (arith, r.stack); log = omega (arith, r.log) }

-- where the word at a place is a call's
pub record CallFacts (sig : Sig) (ws : List ℕ) (d at w : ℕ) (cs : List ℕ) : Type 0 where
  pub inside : at < length ws
  pub high : head_base ≤ w
  pub small : head_of w < limit12
  pub low : head_of w < length cs
  pub deep : 0 < d
  pub args : ExprsAt sig ws (d - 1) (count_of w) (at + 1)

pub call_facts : (sig : Sig) (ws : List ℕ) (d at : ℕ) (cs : List ℕ) (w : ℕ) → ExprAt sig ws d at → Counted sig cs → w ≡ get_or ws at 0 → w < literal_base → CallFacts sig ws d at w cs
call_facts sig ws d at cs w x c e low =
    let few = c.few in
    let fits = c.fits in
    let i = expr_inside sig ws d at x in
    call_cases sig ws few (λ t k. CallFacts sig ws d at w cs) d at w x e low
    (λ es deep high h. record { inside = i; high = high; small = under limit12 h few; low = under (length cs) h fits; deep = deep; args = es })
  where
    under : (n : ℕ) → head_of w < heads sig → heads sig ≤ n → head_of w < n
    under n h k = omega arith

-- an expression stands where a walk has come to, with room for it
pub record There (sig : Sig) (ws : List ℕ) (d sp len : ℕ) (l : Walk) : Type 0 where
  pub expr : ExprAt sig ws d l.next
  pub room : Room (length ws) l.next (tops_at l sp) len

-- the right one of two expressions behind a word at `at`, where the left one is done
pub right_there : (sig : Sig) (ws : List ℕ) (d : ℕ) {at to sp lg len : ℕ} {l : Walk} (len1 k : ℕ) → Room (length ws) at (tops to sp lg) len → len1 ≡ len
    → Went 1 k (at + 1) to lg l → ExprAt sig ws d (at + 1 + k) → There sig ws d sp len1 l
right_there sig ws d {at} {l = l} len1 k r e g b =
    let n = g.next in
    let u = g.up_to in
    let lf = g.log_from in
    let lu = g.log_up_to in
    record {
      expr = moved (read_expr sig ws d) ws (at + 1 + k) l.next (sym n) b;
      room = record { words = omega (arith, r.words); stack = omega (arith, r.stack); log = omega (arith, r.log) };
    }
