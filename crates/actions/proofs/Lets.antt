-- A let: its name must be free, its expression is lowered, the action of the name and the term is written, and the name is put behind those that are
-- let already. What is known at each step of `lower_let`, and each way out. Assumes nothing.
use mathlib.Core.Path.{◌≡◌, refl, sym, ap, ◌∙◌, subst}
use mathlib.Core.Bool.{Bool, true, false}
use mathlib.Core.List.{List, [], ◌∷◌, ◌++◌}
use Prim.Native.Nat.{ℕ, ◌+◌, ◌-◌, ◌*◌, ◌≤◌, ◌<◌}
use native.Mathlib.Omega.{arith}
use lib.ListN.{length, get_or, set}
use lib.Seq.{get_or-set_same}
use Rattle.octets.specs.Regions.{splice}
use Rattle.rules.specs.Words.{fresh_base, action_word}
use Rattle.std.specs.Prelude.{Result, Ok, Err}
use Rattle.refusals.specs.Numbers.{number_of}
use Rattle.refusals.specs.declared.Reason.TheVariants.{AlreadyDefined}
use Rattle.refusals.specs.declared.Refusal.{Refusal}
use Rattle.rules.specs.Refusals.{Res, ok, refuse, ◌>>=◌}
use Rattle.rules.specs.Signature.{Sig, elem}
use Rattle.rules.specs.Flat.{Let}
use Rattle.rules.specs.ToCoreActions.{Low, Done, lower_expr, lower_let}
use Rattle.walks.specs.Steps.{Piece, reached_at, InAnswer}
use Rattle.walks.specs.declared.Walk.{Walk}
use Rattle.walks.specs.declared.Stopped.{Stopped}
use Rattle.walks.proofs.Frames.{kept_none}
use Rattle.walks.proofs.Steps.{stop, stored, Own, written}
use Rattle.head_exprs.specs.Scopes.{Scoped}
use Rattle.head_exprs.specs.Sites.{Site, WalkedAt}
use Rattle.head_exprs.specs.Lowered.{lowered}
use Rattle.head_exprs.proofs.Scopes.{scope_let}
use Rattle.head_exprs.proofs.Sites.{Tree, tree, Begun}
use Rattle.actions.specs.Acts.{LetAt, done_piece, acted_at, walk_of, Gave, ScopeAfter}
use Rattle.actions.specs.Lowers.{Does, second, LowersLet}
use Rattle.actions.specs.declared.Acted.{Acted}
use Rattle.actions.proofs.Pieces.{let_piece, done_let}
use Rattle.actions.proofs.Acting.{acts_stop, LowAt, Fine, is_fine}

abbrev pub LetThere : Site → Sig → Type 0
LetThere k sig = LetAt sig k.ws k.at

-- ---- the name is read as v

pub record Letting (k : Site) (v : ℕ) : Type 0 where
  pub begun : Begun k (LetThere k)
  pub is : v ≡ second k
  pub end : k.scope.first + k.scope.names ≡ k.sp

-- ---- whether the name is bound, b

-- what the test says
abbrev pub Test : Site → ℕ → Bool → Type 0
Test k v b = (sig : Sig) (bound : List ℕ) → Scoped sig bound k.s k.scope → v < fresh_base → b ≡ elem v bound

abbrev let_of : (k : Site) → ℕ → Bool → Tree k (LetThere k) → Res Done
let_of k v b t = lower_let b t.sig t.bound k.at v t.it.expr.value k.cs

abbrev Ends : (k : Site) → ℕ → Bool → List ℕ → List ℕ → Result Acted Stopped → Tree k (LetThere k) → Type 0
Ends k v b s' cs' r t = Does k t.sig t.bound (let_of k v b t) (2 + t.it.expr.size) s' cs' r

module _ {k : Site} {v : ℕ} (h : Letting k v) {b : Bool} (test : Test k v b) where
  answers : {s' cs' : List ℕ} {r : Result Acted Stopped} (b' : Bool) → b ≡ b' → ((t : Tree k (LetThere k)) → Ends k v b' s' cs' r t) → LowersLet k s' cs' r
  answers {s'} {cs'} {r} b' e f sig x bound n sc =
      let there : b ≡ elem v bound = test sig bound sc (subst (λ (u : ℕ). u < fresh_base) (sym h.is) x.old) in
      subst
      (λ (u : ℕ). Does k sig bound (lower_let (elem u bound) sig bound k.at u x.expr.value k.cs) (2 + x.expr.size) s' cs' r) h.is
      (subst (λ (u : Bool). Ends k v u s' cs' r (tree sig x bound n sc)) (sym e ∙ there) (f (tree sig x bound n sc)))

  pub let_twice : {q : Refusal} {log : ℕ} → b ≡ true → (q.reason ≡ AlreadyDefined) × (q.place ≡ k.at) → log ≡ k.lg
      → LowersLet k k.s k.cs (Err (record { refusal = q; log = log }))
  let_twice {q} e is unused = rw unused (answers true e twice)
    where
      twice : (t : Tree k (LetThere k)) → Ends k v true k.s k.cs (Err (record { refusal = q; log = k.lg })) t
      twice t =
          let m : ℕ = 2 + t.it.expr.size in
          record {
            piece =
                record {
                  kept = kept_none k.to (k.to + 4 * m) k.sp (k.sp + m) k.lg (k.lg + m) k.s k.cs (omega arith);
                  ended = record { number = ap number_of is.0; place = is.1 };
                };
            after = tt;
          }

-- it is free
pub record Free (k : Site) (v : ℕ) : Type 0 where
  pub letting : Letting k v
  pub b : Bool
  pub test : Test k v b
  pub free : b ≡ false

pub is_free : {k : Site} {v : ℕ} {b : Bool} → Letting k v → Test k v b → b ≡ false → Free k v
is_free {b = b} h test free = record { letting = h; b = b; test = test; free = free }

-- ---- the expression is lowered, which leaves s1 and cs1

abbrev low : (k : Site) → Tree k (LetThere k) → Res Piece
low k t = lowered t.sig t.bound t.it.expr.value k.cs

module _ {k : Site} {v : ℕ} (f : Free k v) {s1 cs1 : List ℕ} where
  pub let_refused : {e : Stopped} → LowAt k (k.at + 2) s1 cs1 (Err e) → LowersLet k s1 cs1 (Err e)
  let_refused {e} l = answers f.letting f.test false f.free stopped
    where
      stopped : (t : Tree k (LetThere k)) → Ends k v false s1 cs1 (Err e) t
      stopped t =
          acts_stop (let_of k v false t)
          (rw (done_let t.sig t.bound k.at v t.it.expr.value k.cs)
          (stop (2 + t.it.expr.size) k.at (low k t) (λ q. ok (let_piece v q)) (l.walk t.sig t.it.expr t.bound t.counted t.scoped) (omega arith)))

  -- ---- it is done: e

  module _ {e : Walk} (l : LowAt k (k.at + 2) s1 cs1 (Ok e)) where
    walk : (t : Tree k (LetThere k)) → WalkedAt k 1 (InAnswer k.lg) (low k t) t.it.expr.size (k.at + 2) s1 cs1 (Ok e)
    walk t = l.walk t.sig t.it.expr t.bound t.counted t.scoped

    pub let_fine : Fine k s1 e
    let_fine = let t = f.letting.begun.tree in is_fine f.letting.begun (low k t) (walk t) (omega arith) t.it.expr.inside

  -- the action is written, up to to', which leaves s2, and the name is put, which leaves s3
  module _ {e : Walk} (l : LowAt k (k.at + 2) s1 cs1 (Ok e)) {s2 s3 : List ℕ} {to' : ℕ}
      (put : (to' ≡ e.to + 3) × (s2 ≡ splice s1 e.to (action_word 1 ∷ v ∷ e.term ∷ []))) (push : s3 ≡ set s2 k.sp v) where
    abbrev answer : Result Acted Stopped
    answer = Ok (acted_at e.next to' e.log 1 (e.log - k.lg + 1))

    abbrev Writes : List ℕ → Tree k (LetThere k) → Type 0
    Writes s' t =
        WalkedAt k 0 (Gave answer) (◌>>=◌ (low k t) (λ q. ok (let_piece v q))) (2 + t.it.expr.size)
        k.at s' cs1 (walk_of answer)

    -- room for the whole let
    record LetRoom (size : ℕ) : Type 0 where
      pub words : k.to + 4 * (2 + size) ≤ k.sp
      pub stack : k.sp + (2 + size) ≤ k.lg
      pub log : k.lg + (2 + size) ≤ length k.s

    let_room : (t : Tree k (LetThere k)) → LetRoom t.it.expr.size
    let_room t =
        let r = f.letting.begun.room in
        let i = t.it.expr.inside in
        record { words = omega (arith, r.words); stack = omega (arith, r.stack); log = omega (arith, r.log) }

    action : (t : Tree k (LetThere k)) → Writes s2 t
    action t =
        let r = let_room t in
        let n : ℕ = t.it.expr.size in
        let ys : List ℕ = action_word 1 ∷ v ∷ e.term ∷ [] in
        let own : (p : Piece) → InAnswer k.lg e p → Own (Gave answer (reached_at e.next to' e.log 0)) p ys p.next (let_piece v p) =
        λ p u. record { words = λ j. p.words ++ action_word 1 ∷ v ∷ u.term j; counters = refl; terms = gave p u } in
        written 0 (Gave answer) n (2 + n) (k.at + 2) k.at k.to k.sp k.lg k.s k.cs s1 cs1 s2 ys e to' 0 (low k t) (let_piece v)
        r.words r.stack r.log (omega arith) (omega arith) (omega arith) (walk l t) put.1 put.0 own
      where
        gave : (p : Piece) → InAnswer k.lg e p → p.count + 1 ≡ e.log - k.lg + 1
        gave p u = omega (arith, u.uses)

    named : (t : Tree k (LetThere k)) → Writes s3 t
    named t =
        let r = let_room t in
        stored v (◌>>=◌ (low k t) (λ q. ok (let_piece v q))) (action t) push (omega arith) r.words r.stack r.log (λ p here room u. u)

    abbrev letting : Tree k (LetThere k) → Res Low → Res Done
    letting t y = ◌>>=◌ y (λ q. ok (record { acts = q.acts ++ Let v q.term ∷ []; bound = v ∷ t.bound; next = q.next }))

    after : (t : Tree k (LetThere k)) (y : Res Low)
        → WalkedAt k 0 (Gave answer) (done_piece (letting t y)) (2 + t.it.expr.size) k.at s3 cs1 (walk_of answer)
        → ScopeAfter (letting t y) t.sig t.bound k.scope s3 answer
    after t (refuse n p) w = absurd w.ended
    after t (ok q) w =
        let r = let_room t in
        let i = t.it.expr.inside in
        let sr = f.letting.begun.scope_room in
        let stack = r.stack in
        let log = r.log in
        let end = f.letting.end in
        let z = (action t).kept.size in
        let kp = (named t).kept in
        let here : get_or s3 (k.scope.first + k.scope.names) 0 ≡ v =
        ap (λ (j : ℕ). get_or s3 j 0) end ∙ ap (λ (l : List ℕ). get_or l k.sp 0) push ∙ get_or-set_same s2 k.sp v 0 (omega arith) in (
          omega arith,
          omega arith,
          scope_let t.sig t.bound k.s s3 k.scope v t.scoped kp.size (omega arith) (λ j x. kp.below j (omega (arith, sr.body)))
              (λ j x y. kp.between j (omega (arith, sr.names)) (omega arith)) here,
        )

    pub let_done : LowersLet k s3 cs1 answer
    let_done = answers f.letting f.test false f.free done
      where
        done : (t : Tree k (LetThere k)) → Ends k v false s3 cs1 answer t
        done t =
            let y = lower_expr t.sig t.bound t.it.expr.value k.cs in
            let piece : WalkedAt k 0 (Gave answer) (done_piece (letting t y)) (2 + t.it.expr.size) k.at s3 cs1 (walk_of answer) =
            rw (done_let t.sig t.bound k.at v t.it.expr.value k.cs) (named t) in
            record { piece = piece; after = after t y piece }
