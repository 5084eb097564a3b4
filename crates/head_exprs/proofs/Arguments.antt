-- The row of a call's arguments, as the loop over it walks it: what is so between two turns, what a turn's call asks, and each way out. Assumes nothing.
use mathlib.Core.Path.{◌≡◌, refl, ◌∙◌, subst}
use mathlib.Core.List.{List}
use Prim.Native.Nat.{ℕ, ◌+◌, ◌-◌, ◌^◌, ◌≤◌, ◌<◌}
use native.Mathlib.Omega.{arith}
use lib.ListN.{length, set}
use Rattle.rules.specs.Signature.{Sig}
use Rattle.std.specs.Prelude.{Ok, Err}
use Rattle.rules.specs.Refusals.{Res}
use Rattle.walks.specs.Steps.{Piece, untold, tops_at, ExprAt, ExprsAt}
use Rattle.walks.specs.declared.Walk.{Walk}
use Rattle.walks.specs.declared.Stopped.{Stopped}
use Rattle.walks.proofs.Asks.{counted_kept, first_at_lem}
use Rattle.walks.proofs.Steps.{went, placed, halted}
use Rattle.walks.proofs.Rows.{Going, going_start, Left, left_all, left_none, left_stop, left_next, left_going}
use Rattle.walks.proofs.Read.{exprs_many}
use Rattle.walks.proofs.Turns.{Turn, turn}
use Rattle.head_exprs.specs.Scopes.{Scoped}
use Rattle.head_exprs.specs.Lowered.{lowered, lowered_all, LowersExpr, LowersExprs}
use Rattle.head_exprs.specs.Sites.{Site, site_of, Asks}
use Rattle.head_exprs.proofs.Sites.{Tree, tree, Begun}
use Rattle.head_exprs.proofs.Pieces.{lowered_row}
use Rattle.head_exprs.proofs.Expressions.{standing, scope_room_lem, scope_going}

-- n expressions, at most d deep
abbrev pub Exprs-at : Site → ℕ → ℕ → Sig → Type 0
Exprs-at k d n sig = ExprsAt sig k.ws d n k.at

-- where the next argument stands, behind the walk w with its stack up to top
abbrev pub next : Site → (top : ℕ) → List ℕ → List ℕ → Walk → Site
next k top s1 cs1 w = site_of k.ws s1 cs1 w.next (tops_at w top) k.scope

-- between two turns: `left` arguments are left, of which the walk makes the whole
pub record Row (k : Site) (d n left top : ℕ) (s1 cs1 : List ℕ) (w : Walk) : Type 0 where
  pub begun : Begun k (Exprs-at k d n)
  pub scratch : length s1 ≡ length k.s
  pub counters : length cs1 ≡ length k.cs
  pub going : Going k.at k.to k.sp k.lg k.s k.cs top s1 cs1 w
  pub rest : (t : Tree k (Exprs-at k d n))
      → Left (lowered t.sig t.bound) (lowered_all t.sig t.bound) (lowered_row t.sig t.bound) t.sig
      k.ws d n k.at k.to k.sp k.lg k.s k.cs t.it left top s1 cs1 w

-- at the start all are left
pub row_start : {k : Site} {d n : ℕ} → Begun k (Exprs-at k d n) → Row k d n n k.sp k.s k.cs (standing k.at k.to k.lg)
row_start {k} {d} {n} g =
    record {
      begun = g;
      scratch = refl;
      counters = refl;
      going = going_start k.at k.to k.sp k.lg 0 k.s k.cs;
      rest =
          λ t. left_all (lowered t.sig t.bound) (lowered_all t.sig t.bound) (lowered_row t.sig t.bound) t.sig
          k.ws d n k.at k.to k.sp k.lg k.s k.cs t.it 0;
    }

-- so many are left, told otherwise
pub row_is : {k : Site} {d n left left' top : ℕ} {s1 cs1 : List ℕ} {w : Walk} → left ≡ left' → Row k d n left top s1 cs1 w → Row k d n left' top s1 cs1 w
row_is {k} {d} {n} {top = top} {s1 = s1} {cs1 = cs1} {w = w} e row = subst (λ (j : ℕ). Row k d n j top s1 cs1 w) e row

module _ {k : Site} {d n left top : ℕ} {s1 cs1 : List ℕ} {w : Walk} (row : Row k d n left top s1 cs1 w) where
  -- where none are left, the row is walked, and the answer has no term
  pub row_done : left ≡ 0 → LowersExprs d n k s1 cs1 (Ok (untold w))
  row_done z sig x bound c i =
      let made : Res Piece = lowered_all sig bound x.value k.cs in
      let whole =
      left_none (lowered sig bound) (lowered_all sig bound) (lowered_row sig bound) sig k.ws d n k.at k.to k.sp k.lg k.s k.cs x left top s1 cs1 w
      (row.rest (tree sig x bound c i)) z in
      placed k.at (untold w) made whole (went made whole).next refl refl (λ p u. (record { size = u.size; terms = u.terms; uses = u.uses }, refl))

  -- the stack's end behind the row
  pub row_fits : k.sp + n < 2 ^ 64
  row_fits =
      let g = row.begun in
      let t = g.tree in
      let x = t.it in
      omega (arith, exprs_many t.sig k.ws d n k.at x, x.inside, g.room.stack, g.room.log, g.scratch_fits)

  -- while any are left, the next one stands where the walk has come to
  module _ (some : 0 < left) where
    here : Turn k.ws d k.at left top k.s k.cs s1 cs1 w
    here =
        let g = row.begun in
        turn left (row.rest g.tree).rest some row.going g.room g.tree.counted row.counters row.scratch

    pub on : k.at ≤ w.next
    on = here.on

    -- the place of its term lies in the scratch
    pub top_inside : top < length s1
    top_inside = omega (arith, here.room.stack, here.room.log, here.inside)

    -- what was in scope at the start is in scope there
    in_scope_lem : {sig : Sig} {bound : List ℕ} → Scoped sig bound k.s k.scope → Scoped sig bound s1 k.scope
    in_scope_lem x =
        let le : w.next ≤ length k.ws = omega (arith, here.inside) in
        scope_going (length k.ws) row.begun.scope_room row.going le x

    -- so it can be walked
    pub next_asks : Asks (next k top s1 cs1 w) (λ sig. ExprAt sig k.ws d w.next) w.next
    next_asks =
        let t = row.begun.tree in
        let e = first_at_lem t.sig k.ws d left w.next (row.rest t).rest some in (
          record { sig = t.sig; known = (e, counted_kept t.counted row.counters, record { bound = t.bound; scoped = in_scope_lem t.scoped }) },
          (here.room, scope_room_lem (length k.ws) row.begun.scope_room row.going),
        )

    -- it is lowered, which leaves s2 and cs2
    module _ {s2 cs2 : List ℕ} where
      -- one that is refused refuses the row
      pub row_stop : {e : Stopped} → LowersExpr d (next k top s1 cs1 w) s2 cs2 (Err e) → LowersExprs d n k s2 cs2 (Err e)
      row_stop {e} does sig x bound c i =
          halted (lowered_all sig bound x.value k.cs)
          (left_stop (lowered sig bound) (lowered_all sig bound) (lowered_row sig bound) sig k.ws d n k.at k.to k.sp k.lg k.s k.cs x left top s1 cs1 w
          (row.rest (tree sig x bound c i)) some here.room s2 cs2 e (λ y. does sig y bound (counted_kept c row.counters) (in_scope_lem i)))

      -- and behind any other, whose term is pushed, which leaves s3, one less is left
      pub row_next : {a : Walk} {s3 : List ℕ} → LowersExpr d (next k top s1 cs1 w) s2 cs2 (Ok a) → length cs2 ≡ length cs1 → length s3 ≡ length s1
          → s3 ≡ set s2 top a.term → Row k d n (left - 1) (top + 1) s3 cs2 a
      row_next {a} {s3} does ec es put =
          let g = row.begun in
          let t = g.tree in
          record {
            begun = g;
            scratch = es ∙ row.scratch;
            counters = ec ∙ row.counters;
            going =
                left_going (lowered t.sig t.bound) (lowered_all t.sig t.bound) (lowered_row t.sig t.bound) t.sig
                k.ws d n k.at k.to k.sp k.lg k.s k.cs t.it left top s1 cs1 w (row.rest t) some here.room s2 cs2 a
                (λ e. does t.sig e t.bound (counted_kept t.counted row.counters) (in_scope_lem t.scoped)) s3 g.room row.going put;
            rest =
                λ t. left_next (lowered t.sig t.bound) (lowered_all t.sig t.bound) (lowered_row t.sig t.bound) t.sig
                k.ws d n k.at k.to k.sp k.lg k.s k.cs t.it left top s1 cs1 w (row.rest t) some here.room s2 cs2 a
                (λ e. does t.sig e t.bound (counted_kept t.counted row.counters) (in_scope_lem t.scoped)) s3 put;
          }
