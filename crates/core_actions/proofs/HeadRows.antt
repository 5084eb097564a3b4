-- The row of a head's actions, as the loop over it walks it: what is so between two turns, what a turn's call asks, and each way out. Assumes nothing.
use mathlib.Core.Path.{◌≡◌, refl, ◌∙◌, subst}
use mathlib.Core.List.{List}
use Prim.Native.Nat.{ℕ, ◌+◌, ◌-◌, ◌^◌, ◌≤◌, ◌<◌}
use native.Mathlib.Omega.{arith}
use lib.ListN.{length}
use Rattle.std.specs.Prelude.{Ok, Err}
use Rattle.rules.specs.Refusals.{Res, ok, refuse}
use Rattle.rules.specs.Signature.{Sig}
use Rattle.rules.specs.ToCoreActions.{Done, lower_action, to_core_actions}
use Rattle.walks.specs.Steps.{Piece, tops, Walked, Counted}
use Rattle.walks.specs.declared.Walk.{Walk}
use Rattle.walks.specs.declared.Stopped.{Stopped}
use Rattle.walks.proofs.Asks.{counted_kept}
use Rattle.walks.proofs.Steps.{went, halted}
use Rattle.walks.proofs.Rows.{Going, going_start, going_room}
use Rattle.head_exprs.specs.Scopes.{Scoped}
use Rattle.head_exprs.specs.Sites.{Site, site_of, RoomAt, ScopeRoomAt}
use Rattle.head_exprs.specs.declared.scope.Scope.{Scope}
use Rattle.actions.specs.Acts.{done_piece, acted_at, Acts}
use Rattle.core_actions.specs.Unions.{Signed}
use Rattle.core_actions.specs.Rows.{ActionAt, ActionsAt, NamesAfter, row_site, KnownSigned, AsksSigned, LowersAction, ActsAll}
use Rattle.actions.specs.declared.Acted.{Acted}
use Rattle.core_actions.proofs.ReadActions.{action_inside}
use Rattle.core_actions.proofs.ActionRows.{acts_few, having, come_to, Left, left_all, left_none, left_names, first_action, left_stop, left_next, left_going}

-- the head: the words of the signature, the rule, the scratch and the counters, n actions from `at` on, and where they are written
pub record Head : Type 0 where
  pub gs : List ℕ
  pub ws : List ℕ
  pub s : List ℕ
  pub cs : List ℕ
  pub at : ℕ
  pub n : ℕ
  pub to : ℕ
  pub lg : ℕ
  pub scope : Scope

abbrev pub head : (gs ws s cs : List ℕ) (at n to lg : ℕ) → Scope → Head
head gs ws s cs at n to lg scope = record { gs = gs; ws = ws; s = s; cs = cs; at = at; n = n; to = to; lg = lg; scope = scope }

module _ (h : Head) where
  -- the first stack: it lies behind the names
  abbrev sp : ℕ
  sp = h.scope.first + h.scope.names

  abbrev pub site : Site
  site = row_site h.ws h.s h.cs h.at h.to h.lg h.scope

  -- what the next action is given, where the row has come to a
  abbrev pub turn : List ℕ → List ℕ → Acted → Site
  turn s1 cs1 a = site_of h.ws s1 cs1 a.next (tops a.to (h.scope.first + a.names) a.log) (having h.scope a.names)

-- between two turns: `left` actions are left, of which the walk makes the whole, and the row has come to a
pub record Row (h : Head) (left : ℕ) (s1 cs1 : List ℕ) (a : Acted) : Type 0 where
  pub known : KnownSigned h.gs (site h) (λ sig. ActionsAt sig h.ws h.n h.at)
  pub room : RoomAt (site h) h.at
  pub scope_room : ScopeRoomAt (site h) h.at
  pub fits : length h.s < 2 ^ 64
  pub scratch : length s1 ≡ length h.s
  pub counters : length cs1 ≡ length h.cs
  pub going : Going h.at h.to (sp h) h.lg h.s h.cs (h.scope.first + a.names) s1 cs1 (come_to a)
  pub written : h.to + a.count ≤ a.to
  pub rest : (sig : Sig) (x : ActionsAt sig h.ws h.n h.at) (bound : List ℕ) → Counted sig h.cs → Scoped sig bound h.s h.scope → Signed sig h.gs
      → Left sig bound h.ws h.n h.at h.to h.lg h.scope h.s h.cs x left a.names a.count s1 cs1 (come_to a)

-- so many are left, told otherwise
pub row_is : {h : Head} {left left' : ℕ} {s1 cs1 : List ℕ} {a : Acted} → left ≡ left' → Row h left s1 cs1 a → Row h left' s1 cs1 a
row_is {h} {s1 = s1} {cs1 = cs1} {a = a} e row = subst (λ (j : ℕ). Row h j s1 cs1 a) e row

-- at the start all are left
pub row_start : {h : Head} → AsksSigned h.gs (site h) (λ sig. ActionsAt sig h.ws h.n h.at) h.at → length h.s < 2 ^ 64
    → Row h h.n h.s h.cs (acted_at h.at h.to h.lg h.scope.names 0)
row_start {h} asks fits =
    record {
      known = asks.0;
      room = asks.1.0;
      scope_room = asks.1.1;
      fits = fits;
      scratch = refl;
      counters = refl;
      going = going_start h.at h.to (sp h) h.lg 0 h.s h.cs;
      written = omega arith;
      rest = λ sig x bound n sc sg. left_all sig bound h.ws h.n h.at h.to h.lg h.scope h.s h.cs x 0 sc;
    }

module _ {h : Head} {left : ℕ} {s1 cs1 : List ℕ} {r : Acted} (row : Row h left s1 cs1 r) where
  -- where none are left, the row is walked
  pub row_done : left ≡ 0 → ActsAll h.gs (site h) h.n s1 cs1 (Ok r)
  row_done z sig x bound n sc sg =
      let l = row.rest sig x bound n sc sg in (
        left_none sig bound h.ws h.n h.at h.to h.lg h.scope h.s h.cs x left r.names r.count s1 cs1 (come_to r) l z,
        left_names sig bound h.ws h.n h.at h.to h.lg h.scope h.s h.cs x left r.names r.count s1 cs1 (come_to r) l z,
      )

  pub turn_room : RoomAt (turn h s1 cs1 r) r.next
  turn_room = going_room (length h.ws) (length s1) row.room row.scratch row.going

  pub turn_scope : ScopeRoomAt (turn h s1 cs1 r) r.next
  turn_scope =
      let sr = row.scope_room in
      let g = row.going in
      let nx = g.next in
      record { few = sr.few; body = omega (arith, sr.body, g.words); names = omega (arith, sr.names, g.words_to); top = omega arith }

  -- while any are left, the next one stands where the walk has come to
  module _ (some : 0 < left) where
    -- what is left under the signature that is known
    here : let q = row.known in
        Left q.sig q.known.2.bound h.ws h.n h.at h.to h.lg h.scope h.s h.cs q.known.0 left r.names r.count s1 cs1 (come_to r)
    here = let q = row.known in row.rest q.sig q.known.0 q.known.2.bound q.known.1 q.known.2.scoped q.known.3

    first : ActionAt row.known.sig h.ws r.next
    first =
        let q = row.known in
        first_action q.sig q.known.2.bound h.ws h.n h.at h.to h.lg h.scope h.s h.cs left r.next here.rest some

    pub turn_asks : AsksSigned h.gs (turn h s1 cs1 r) (λ sig. ActionAt sig h.ws r.next) r.next
    turn_asks =
        let q = row.known in (
          record { sig = q.sig; known = (first, counted_kept q.known.1 row.counters, record { bound = here.now; scoped = here.scoped }, q.known.3) },
          (turn_room, turn_scope),
        )

    -- there is a name's room above the names
    pub names_below : h.scope.first + r.names + 1 < 2 ^ 64
    names_below = omega (arith, turn_room.stack, turn_room.log, action_inside row.known.sig h.ws r.next first, row.scratch, row.fits)

    -- it is lowered, which leaves s2 and cs2
    module _ {s2 cs2 : List ℕ} where
      -- one that is refused refuses the row
      pub row_stop : {e : Stopped} → LowersAction h.gs (turn h s1 cs1 r) s2 cs2 (Err e) → ActsAll h.gs (site h) h.n s2 cs2 (Err e)
      row_stop {e} does sig x bound n sc sg =
          let l = row.rest sig x bound n sc sg in
          let all = to_core_actions sig bound x.value h.cs in
          let v =
          left_stop sig bound h.ws h.n h.at h.to h.lg h.scope h.s h.cs x left r.names r.count s1 cs1 (come_to r) l some turn_room s2 cs2 e
          (λ y. does sig y l.now (counted_kept n row.counters) l.scoped sg) in
          (halted (done_piece all) v, none_after all v)
        where
          none_after : {k : ℕ} {T : Walk → Piece → Type 0} (y : Res Done) → Walked 0 T (done_piece y) k h.at h.to (sp h) h.lg h.s h.cs s2 cs2 (Err e)
              → NamesAfter y bound h.scope (Err e)
          none_after (ok d) w = absurd w.ended
          none_after (refuse m p) w = tt

      -- and behind any other, a, one less is left
      module _ {a : Acted} (does : LowersAction h.gs (turn h s1 cs1 r) s2 cs2 (Ok a)) where
        acts : Acts (lower_action row.known.sig here.now first.value cs1) row.known.sig here.now (having h.scope r.names) first.size
            r.next r.to (h.scope.first + r.names) r.log s1 cs1 s2 cs2 (Ok a)
        acts = let q = row.known in does q.sig first here.now (counted_kept q.known.1 row.counters) here.scoped q.known.3

        few : (a.names ≤ 1) × (r.to + a.count ≤ a.to)
        few = acts_few (lower_action row.known.sig here.now first.value cs1) acts

        pub names_fit : r.names + a.names < 2 ^ 64
        names_fit = omega (arith, few.0, names_below)

        pub count_fits : r.count + a.count < 2 ^ 64
        count_fits =
            let g = went (done_piece (lower_action row.known.sig here.now first.value cs1)) acts.piece in
            let q = turn_room in
            omega (arith, few.1, row.written, g.up_to, first.inside, q.words, q.stack, q.log, row.scratch, row.fits)

        pub row_next : length cs2 ≡ length cs1 → length s2 ≡ length s1
            → Row h (left - 1) s2 cs2 (acted_at a.next a.to a.log (r.names + a.names) (r.count + a.count))
        row_next ec es =
            let q = row.known in
            record {
              known = q;
              room = row.room;
              scope_room = row.scope_room;
              fits = row.fits;
              scratch = es ∙ row.scratch;
              counters = ec ∙ row.counters;
              going =
                  left_going q.sig q.known.2.bound h.ws h.n h.at h.to h.lg h.scope h.s h.cs q.known.0 left r.names r.count s1 cs1 (come_to r) here some
                  turn_room s2 cs2 a
                  (λ y. does q.sig y here.now (counted_kept q.known.1 row.counters) here.scoped q.known.3) row.room row.going;
              written = omega (arith, few.1, row.written);
              rest =
                  λ sig x bound n sc sg. let l = row.rest sig x bound n sc sg in
                  left_next sig bound h.ws h.n h.at h.to h.lg h.scope h.s h.cs x left r.names r.count s1 cs1 (come_to r) l some turn_room s2 cs2 a
                  (λ y. does sig y l.now (counted_kept n row.counters) l.scoped sg);
            }
