-- One turn of the loop over a row of arguments: what stands where the walk has come to, and what the calls of the turn ask. Assumes nothing.
use mathlib.Core.Path.{◌≡◌}
use mathlib.Core.List.{List}
use Prim.Native.Nat.{ℕ, ◌≤◌, ◌<◌}
use native.Mathlib.Omega.{arith}
use lib.ListN.{length}
use Rattle.rules.specs.Signature.{Sig}
use Rattle.walks.specs.Steps.{tops, tops_at, Room, Counted, ExprAt, ExprsAt}
use Rattle.walks.specs.declared.Walk.{Walk}
use Rattle.walks.proofs.Asks.{expr_inside, counted_kept, first_at_lem}
use Rattle.walks.proofs.Rows.{Going, going_room}

-- of the arguments some are left, and the first of them stands where the walk w has come to, with room for it: no turn changes how long the lists are
pub record Turn (ws : List ℕ) (d at left top : ℕ) (s cs s1 cs1 : List ℕ) (w : Walk) : Type 0 where
  pub some : 0 < left
  pub sig : Sig
  pub expr : ExprAt sig ws d w.next
  pub counted : Counted sig cs1
  pub inside : w.next < length ws
  pub on : at ≤ w.next
  pub room : Room (length ws) w.next (tops_at w top) (length s1)
  pub counters : length cs1 ≡ length cs
  pub scratch : length s1 ≡ length s

-- so it is while any are left
pub turn : {sig : Sig} {ws : List ℕ} {d at to sp lg top : ℕ} {s cs s1 cs1 : List ℕ} {w : Walk} (left : ℕ) → ExprsAt sig ws d left w.next → 0 < left → Going at to sp lg s cs top s1 cs1 w
    → Room (length ws) at (tops to sp lg) (length s) → Counted sig cs → length cs1 ≡ length cs → length s1 ≡ length s → Turn ws d at left top s cs s1 cs1 w
turn {sig} {ws} {d} {at} {s1 = s1} {w = w} left rest some g room n hc hs =
    let e = first_at_lem sig ws d left w.next rest some in
    record {
      some = some;
      sig = sig;
      expr = e;
      counted = counted_kept n hc;
      inside = expr_inside sig ws d w.next e;
      on = omega (arith, g.next);
      room = going_room (length ws) (length s1) room hs g;
      counters = hc;
      scratch = hs;
    }
