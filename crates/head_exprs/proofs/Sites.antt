-- What is known at the start of a walk at a site. Whatever stands behind that place is lowered with the same room, so what a call asks follows from what
-- the caller was given. Assumes nothing.
use mathlib.Core.List.{List}
use Prim.Native.Nat.{ℕ, ◌^◌, ◌≤◌, ◌<◌}
use native.Mathlib.Omega.{arith}
use lib.ListN.{length}
use Rattle.octets.specs.Words.{words}
use Rattle.octets.proofs.Words.{length_words}
use Rattle.rules.specs.Signature.{Sig}
use Rattle.walks.specs.Steps.{Counted}
use Rattle.walks.specs.declared.Tops.{Tops}
use Rattle.head_exprs.specs.Scopes.{Scoped}
use Rattle.head_exprs.specs.Sites.{Site, site_of, RoomAt, ScopeRoomAt, Asks}
use Rattle.head_exprs.specs.declared.Reading.{Reading}

-- a signature under which X stands there, and the names bound
pub record Tree (k : Site) (X : Sig → Type 0) : Type 0 where
  pub sig : Sig
  pub bound : List ℕ
  pub it : X sig
  pub counted : Counted sig k.cs
  pub scoped : Scoped sig bound k.s k.scope

abbrev pub tree : {k : Site} {X : Sig → Type 0} (sig : Sig) → X sig → (bound : List ℕ) → Counted sig k.cs → Scoped sig bound k.s k.scope → Tree k X
tree sig x bound n sc = record { sig = sig; bound = bound; it = x; counted = n; scoped = sc }

pub record Begun (k : Site) (X : Sig → Type 0) : Type 0 where
  pub tree : Tree k X
  pub room : RoomAt k k.at
  pub scope_room : ScopeRoomAt k k.at
  pub rule_fits : length k.ws < 2 ^ 64
  pub scratch_fits : length k.s < 2 ^ 64

pub begun : {k : Site} {X : Sig → Type 0} → Asks k X k.at → length k.ws < 2 ^ 64 → length k.s < 2 ^ 64 → Begun k X
begun a fr fs =
    let q = a.0 in
    let n = q.known.2 in
    record { tree = tree q.sig q.known.0 n.bound q.known.1 n.scoped; room = a.1.0; scope_room = a.1.1; rule_fits = fr; scratch_fits = fs }

-- the same read as something else
abbrev pub tree_as : {k : Site} {X Y : Sig → Type 0} → Tree k X → ((sig : Sig) → X sig → Y sig) → Tree k Y
tree_as t f = record { sig = t.sig; bound = t.bound; it = f t.sig t.it; counted = t.counted; scoped = t.scoped }

pub begun_as : {k : Site} {X Y : Sig → Type 0} → Begun k X → ((sig : Sig) → X sig → Y sig) → Begun k Y
begun_as g f = record { tree = tree_as g.tree f; room = g.room; scope_room = g.scope_room; rule_fits = g.rule_fits; scratch_fits = g.scratch_fits }

-- what a walk over it asks at a place p that is not before the site
pub asks : {k : Site} {X : Sig → Type 0} → Begun k X → (p : ℕ) → k.at ≤ p → Asks k X p
asks g p h =
    let t = g.tree in
    let r = g.room in
    let sr = g.scope_room in (
      record { sig = t.sig; known = (t.it, t.counted, record { bound = t.bound; scoped = t.scoped }) },
      (
        record { words = omega (arith, r.words); stack = omega (arith, r.stack); log = omega (arith, r.log) },
        record { few = sr.few; body = sr.body; names = omega (arith, sr.names); top = sr.top },
      ),
    )

-- ---- where a call of the code stands, by what it is given

abbrev pub site : Reading → (scratch counters : List ℕ) (at : ℕ) → Tops → Site
site r scratch counters at t = site_of (words r.rule.now) (words scratch) (words counters) at t r.scope

-- what is known at its start, where X stands there: what its contract requires, and that the slices fit
pub starts : (r : Reading) (scratch counters : List ℕ) {at : ℕ} {t : Tops} {X : Sig → Type 0}
    → (let k = site r scratch counters at t in Asks k X at → length r.rule.now < 2 ^ 64 → length scratch < 2 ^ 64 → Begun k X)
starts r scratch counters known fr fs = begun known (omega (arith, length_words r.rule.now)) (omega (arith, length_words scratch))
