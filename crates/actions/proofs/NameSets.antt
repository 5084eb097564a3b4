-- A union of a name and a call that becomes a set. The call's arguments are those of an action with a head (`Changes`), and the name is one more
-- term behind them. What is known at each step of `set_name`, and each way out. Assumes nothing.
use mathlib.Core.Path.{◌≡◌, refl, sym, ap, subst}
use mathlib.Core.Bool.{Bool, true, false}
use mathlib.Core.List.{List}
use Prim.Native.Nat.{ℕ, ◌+◌, ◌-◌, ◌*◌, ◌≤◌, ◌<◌}
use native.Mathlib.Omega.{arith}
use lib.ListN.{length, set}
use Rattle.rules.specs.Words.{max_depth, head_base, fresh_base, action_word, head_of, count_of}
use Rattle.std.specs.Prelude.{Result, Ok, Err}
use Rattle.refusals.specs.Numbers.{number_of}
use Rattle.refusals.specs.declared.Reason.TheVariants.{Unbound}
use Rattle.refusals.specs.declared.Refusal.{Refusal}
use Rattle.rules.specs.Refusals.{Res, ok, ◌>>=◌}
use Rattle.rules.specs.Signature.{Sig, heads}
use Rattle.rules.specs.Written.{Exprs, leaf}
use Rattle.rules.specs.ToCoreActions.{readable, Done, lower_set}
use Rattle.walks.specs.Steps.{Piece, both, and_then, reached_at, Walked, InAnswer, OnStack}
use Rattle.walks.specs.declared.Walk.{Walk}
use Rattle.walks.specs.declared.Stopped.{Stopped}
use Rattle.walks.proofs.Frames.{kept_none}
use Rattle.walks.proofs.Steps.{went, stop, walk_then, placed, pushed, stacked}
use Rattle.walks.proofs.Read.{exprs_many, recount}
use Rattle.head_exprs.specs.Scopes.{Scoped, ScopeFits}
use Rattle.head_exprs.specs.Sites.{Site, WalkedAt}
use Rattle.head_exprs.specs.Lowered.{lowered, lowered_all}
use Rattle.head_exprs.proofs.Scopes.{scope_fits}
use Rattle.head_exprs.proofs.Pieces.{lowered_leaf}
use Rattle.head_exprs.proofs.Sites.{Tree, tree, tree_as, Begun}
use Rattle.actions.specs.Acts.{NameCallAt, closing, and_change, ChangeFits, walk_of, Gave, Quiet}
use Rattle.actions.specs.Lowers.{Does, second, third, SetsName, Closes}
use Rattle.actions.specs.declared.Acted.{Acted}
use Rattle.actions.proofs.Pieces.{done_set, same_set}
use Rattle.actions.proofs.Acting.{acts_stop, acts_same, scope_after}
use Rattle.actions.proofs.Changes.{Headed, Argued, is_fine, TermedAt}

-- ---- both words are read: the name as v, and the call's kind 3 word as w

-- the call
abbrev pub Call : Site → ℕ → Sig → Type 0
Call k w = Headed k 3 (max_depth - 1) (count_of w) w

pub record NameCall (k : Site) (v w : ℕ) (sig : Sig) : Type 0 where
  pub old : v < fresh_base
  pub call : Call k w sig

abbrev pub name_call_at : {k : Site} {v w : ℕ} → v ≡ second k → w ≡ third k → (sig : Sig)
    → NameCallAt sig k.ws k.at → NameCall k v w sig
name_call_at {k} {v} {w} isv isw sig x =
    record {
      old = subst (λ (u : ℕ). u < fresh_base) (sym isv) x.old;
      call =
          record {
            high = subst (λ (u : ℕ). head_base ≤ u) (sym isw) x.high;
            head = subst (λ (u : ℕ). head_of u < heads sig) (sym isw) x.head;
            exprs = recount sig k.ws (max_depth - 1) (count_of (third k)) (count_of w) (k.at + 3) (ap count_of (sym isw)) x.exprs;
          };
    }

pub record Naming (k : Site) (v w : ℕ) : Type 0 where
  pub begun : Begun k (Call k w)
  pub isv : v ≡ second k
  pub isw : w ≡ third k

-- the set of the name v and a call with the word w and these arguments
abbrev pub set_of_lem : Site → (v w : ℕ) (sig : Sig) (bound : List ℕ) → Exprs → Res Done
set_of_lem k v w sig bound es = lower_set sig bound (k.at + 2) (head_of w) es (leaf (k.at + 1) v) k.cs

-- what the test of the name says, with s1 left behind
abbrev pub Test : Site → (s1 : List ℕ) (v : ℕ) → Bool → Type 0
Test k s1 v b = (sig : Sig) (bound : List ℕ) → Scoped sig bound s1 k.scope → v < fresh_base → b ≡ readable sig bound v

-- ---- what the definition makes of it

module _ {k : Site} {v w : ℕ} (h : Naming k v w) where
  abbrev lowering : Tree k (NameCall k v w) → Res Done
  lowering t = set_of_lem k v w t.sig t.bound t.it.call.exprs.value

  abbrev Ends : List ℕ → List ℕ → Result Acted Stopped → Tree k (NameCall k v w) → Type 0
  Ends s' cs' r t = Does k t.sig t.bound (lowering t) (3 + t.it.call.exprs.size) s' cs' r

  answers : {s' cs' : List ℕ} {r : Result Acted Stopped} → ((t : Tree k (NameCall k v w)) → Ends s' cs' r t) → SetsName k s' cs' r
  answers {s'} {cs'} {r} f sig x bound n sc =
      subst
      (λ (u : ℕ). Does k sig bound (set_of_lem k (second k) u sig bound x.exprs.value) (3 + x.exprs.size) s' cs' r) h.isw
      (subst
      (λ (u : ℕ). Does k sig bound (set_of_lem k u w sig bound x.exprs.value) (3 + x.exprs.size) s' cs' r) h.isv
      (f (tree sig (name_call_at h.isv h.isw sig x) bound n sc)))

  -- the arguments, then the name, then the set
  abbrev args : Tree k (NameCall k v w) → Res Piece
  args t = lowered_all t.sig t.bound t.it.call.exprs.value k.cs

  abbrev name : Tree k (NameCall k v w) → List ℕ → Res Piece
  name t = lowered t.sig t.bound (leaf (k.at + 1) v)

  abbrev Walks : List ℕ → List ℕ → Result Acted Stopped → Tree k (NameCall k v w) → Type 0
  Walks s' cs' r t =
      WalkedAt k 0 (Gave r) (and_change (action_word 2) 1 (k.at + 2) (head_of w) (and_then (args t) (name t))) (3 + t.it.call.exprs.size)
      k.at s' cs' (walk_of r)

  refused : {s' cs' : List ℕ} {e : Stopped} (t : Tree k (NameCall k v w)) → Walks s' cs' (Err e) t → Ends s' cs' (Err e) t
  refused t walk =
      acts_stop (lowering t) (rw (done_set t.sig t.bound (k.at + 2) (head_of w) t.it.call.exprs.value (leaf (k.at + 1) v) k.cs) walk)

  done : {s' cs' : List ℕ} {r : Result Acted Stopped} (t : Tree k (NameCall k v w)) → Walks s' cs' r t → Quiet r → Ends s' cs' r t
  done t walk none =
      let x = t.it.call.exprs in
      let i = x.inside in
      acts_same t.sig t.bound k.scope (length k.ws) (lowering t)
      (same_set t.sig t.bound (k.at + 2) (head_of w) x.value (leaf (k.at + 1) v) k.cs) none h.begun.scope_room (omega arith) t.scoped
      (rw (done_set t.sig t.bound (k.at + 2) (head_of w) x.value (leaf (k.at + 1) v) k.cs) walk)

  -- ---- the arguments are lowered, which leaves s1 and cs1

  pub args_refused : {s1 cs1 : List ℕ} {e : Stopped} → Argued k 3 (max_depth - 1) (count_of w) w s1 cs1 (Err e) → SetsName k s1 cs1 (Err e)
  args_refused {s1} {cs1} {e} m = answers (λ t. refused t (stopped t))
    where
      stopped : (t : Tree k (NameCall k v w)) → Walks s1 cs1 (Err e) t
      stopped t =
          let n = 3 + t.it.call.exprs.size in
          let one : WalkedAt k 0 (λ a p. ⊥) (and_then (args t) (name t)) n k.at s1 cs1 (Err e) =
          stop n k.at (args t) (λ p. ◌>>=◌ (name t p.next) (λ q. ok (both p q))) (m.walk (tree_as t (λ sig x. x.call))) (omega arith) in
          stop n k.at (and_then (args t) (name t)) (closing (action_word 2) 1 (k.at + 2) (head_of w)) one (omega arith)

  module _ {s1 cs1 : List ℕ} {a : Walk} (m : Argued k 3 (max_depth - 1) (count_of w) w s1 cs1 (Ok a)) where
    abbrev walk : (t : Tree k (NameCall k v w))
        → WalkedAt k (count_of w) (OnStack k.sp (count_of w) k.lg s1) (args t) t.it.call.exprs.size
        (k.at + 3) s1 cs1 (Ok a)
    walk t = m.walk (tree_as t (λ sig x. x.call))

    -- ---- they are fine: the ways out, by whether the name may be read, b

    -- what the test asks
    pub name_asks : ScopeFits s1 k.scope
    name_asks =
        let x = h.begun.tree.it.exprs.inside in
        let e = m.size in
        let fits : ScopeFits k.s k.scope = scope_fits h.begun.scope_room h.begun.room (omega arith) in
        record { few = fits.few; body = omega (arith, fits.body); names = omega (arith, fits.names) }

    -- the arguments as if they started one word earlier, so that the name can be read behind them
    abbrev early : Tree k (NameCall k v w) → Walk
    early t = reached_at (k.at + 2 + t.it.call.exprs.size) a.to a.log a.term

    first : (t : Tree k (NameCall k v w))
        → WalkedAt k (count_of w) (OnStack k.sp (count_of w) k.lg s1) (args t) t.it.call.exprs.size
        (k.at + 2) s1 cs1 (Ok (early t))
    first t = placed (k.at + 2) (early t) (args t) (walk t) refl refl refl (λ p u. record { size = u.size; terms = u.terms; uses = u.uses })

    module _ {b : Bool} (test : Test k s1 v b) where
      tested : (t : Tree k (NameCall k v w)) → b ≡ readable t.sig t.bound v
      tested t =
          let x = t.it.call.exprs in
          let i = x.inside in
          test t.sig t.bound (scope_after (length k.ws) x.size h.begun.scope_room (omega arith) (walk t).kept t.scoped) t.it.old

      pub name_refused : {q : Refusal} → b ≡ false → (q.reason ≡ Unbound) × (q.place ≡ k.at + 1)
          → SetsName k s1 cs1 (Err (record { refusal = q; log = a.log }))
      name_refused {q} not is = answers (λ t. refused t (stopped t))
        where
          ans : Result Walk Stopped
          ans = Err (record { refusal = q; log = a.log })

          second : (t : Tree k (NameCall k v w)) → Walked 1 (λ b p. ⊥) (name t cs1) 1 (early t).next a.to (k.sp + count_of w) a.log s1 cs1 s1 cs1 ans
          second t =
              rw (lowered_leaf t.sig t.bound (k.at + 1) v cs1, sym (tested t), not)
              (record {
                kept = kept_none a.to (a.to + 4 * 1) (k.sp + count_of w) (k.sp + count_of w + 1) a.log (a.log + 1) s1 cs1 (omega arith);
                ended = record { number = ap number_of is.0; place = is.1 };
              })

          stopped : (t : Tree k (NameCall k v w)) → Walks s1 cs1 (Err (record { refusal = q; log = a.log })) t
          stopped t =
              let x = t.it.call.exprs in
              let i = x.inside in
              let many = exprs_many t.sig k.ws (max_depth - 1) (count_of w) (k.at + 3) x in
              let halted : WalkedAt k (count_of w + 1) (λ b p. ⊥) (and_then (args t) (name t)) (x.size + 1) (k.at + 2) s1 cs1 ans =
              walk_then x.size 1 (k.at + 2) k.to k.sp (k.sp + count_of w) k.lg k.s k.cs s1 cs1 s1 cs1 (early t)
              (omega (arith, h.begun.room.stack)) (omega arith) (omega arith) (count_of w + 1) (λ b p. ⊥) (args t) (name t) (omega arith)
              (first t) (second t) (λ b p q t u. u) in
              stop (3 + x.size) k.at (and_then (args t) (name t)) (closing (action_word 2) 1 (k.at + 2) (head_of w)) halted (omega arith)

      -- ---- the name is put behind them, which leaves s2

      module _ (may : b ≡ true) {s2 : List ℕ} (push : s2 ≡ set s1 (k.sp + count_of w) v) where
        -- the answer as it is when the name is read, too
        abbrev late : Walk
        late = reached_at a.next a.to a.log v

        termed : (t : Tree k (NameCall k v w)) → TermedAt k (3 + t.it.call.exprs.size) (count_of w + 1) (and_then (args t) (name t)) s2 cs1 a
        termed t =
            let x = t.it.call.exprs in
            let i = x.inside in
            let many = exprs_many t.sig k.ws (max_depth - 1) (count_of w) (k.at + 3) x in
            let o = went (args t) (walk t) in
            let nx = o.next in
            let up = o.up_to in
            let lf = o.log_from in
            let lu = o.log_up_to in
            let z = m.size in
            let r = h.begun.room in
            let r1 : k.to + 4 * (3 + x.size) ≤ k.sp = omega (arith, r.words) in
            let r2 : k.sp + (3 + x.size) ≤ k.lg = omega (arith, r.stack) in
            let r3 : k.lg + (3 + x.size) ≤ length k.s = omega (arith, r.log) in
            let second : Walked 1 (InAnswer a.log) (name t cs1) 1 (early t).next a.to (k.sp + count_of w) a.log s1 cs1 s1 cs1 (Ok late) =
            rw (lowered_leaf t.sig t.bound (k.at + 1) v cs1, sym (tested t), may)
            (record {
              kept = kept_none a.to (a.to + 4 * 1) (k.sp + count_of w) (k.sp + count_of w + 1) a.log (a.log + 1) s1 cs1 (omega arith);
              ended = (
                record { next = omega arith; to = omega arith; counters = refl; written = refl; fits = omega arith },
                record { term = refl; uses = omega arith },
              );
            }) in
            let there = pushed (name t cs1) second push (omega arith) (omega arith) (omega arith) (omega arith) in
            let all : WalkedAt k (count_of w + 1) (OnStack k.sp (count_of w + 1) k.lg s2) (and_then (args t) (name t)) (x.size + 1)
            (k.at + 2) s2 cs1 (Ok late) =
            walk_then x.size 1 (k.at + 2) k.to k.sp (k.sp + count_of w) k.lg k.s k.cs s1 cs1 s2 cs1 (early t)
            (omega arith) (omega arith) (omega arith) (count_of w + 1) (OnStack k.sp (count_of w + 1) k.lg s2) (args t) (name t) (omega arith)
            (first t) there (λ b p q y u. stacked b p q (count_of w + 1) refl (omega arith) refl there.kept y u) in
            record {
              behind = x.size + 1;
              whole = omega arith;
              walk =
                  placed (k.at + 2) a (and_then (args t) (name t)) all (omega arith) refl refl
                  (λ p u. record { size = u.size; terms = u.terms; uses = u.uses });
              many = omega arith;
              words = r1;
              stack = r2;
              log = r3;
            }

        -- what the end of the action asks
        pub end_asks : length s2 ≡ length s1 → ChangeFits w (count_of w + 1) k.sp k.lg a s2 cs1
        end_asks same =
            let f = is_fine m (omega arith) in
            let x = f.fits.0 in
            (record { high = x.high; head = x.head; counter = x.counter; log = omega (arith, x.log); words = x.words; stack = omega (arith, f.stack) }, f.fits.1)

        -- it leaves s3 and cs2
        pub set_ends : {n : ℕ} {s3 cs2 : List ℕ} {r : Result Acted Stopped} → n ≡ count_of w
            → Closes (action_word 2) w (n + 1) (k.at + 2) k.sp k.lg s2 cs1 s3 cs2 a r
            → SetsName k s3 cs2 r
        set_ends {n} {s3} {cs2} {r} count closes =
            let e = subst (λ (i : ℕ). Closes (action_word 2) w (i + 1) (k.at + 2) k.sp k.lg s2 cs1 s3 cs2 a r) count closes in
            answers
            (λ t. done t
            (e.1 1 k.at k.to (3 + t.it.call.exprs.size) (and_then (args t) (name t)) k.s k.cs refl (termed t)) e.0)
