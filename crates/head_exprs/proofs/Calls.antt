-- An expression on its way through lowering: its word is read, and a call goes on from the walk of its arguments to each of its ends. What is known at a
-- step is a record over the expression and the words that the step leaves. Assumes nothing.
use mathlib.Core.Path.{◌≡◌, refl, subst}
use mathlib.Core.Bool.{Bool, true, false}
use mathlib.Core.List.{List}
use Prim.Native.Nat.{ℕ, ◌+◌, ◌-◌, ◌^◌, ◌≤◌, ◌<◌}
use native.Mathlib.Omega.{arith}
use lib.ListN.{length, get_or}
use Rattle.rules.specs.Words.{literal_base, fresh_base, head_of, count_of}
use Rattle.std.specs.Prelude.{Result, Ok, Err}
use Rattle.rules.specs.Refusals.{Res, ok, ◌>>=◌}
use Rattle.rules.specs.Signature.{Sig}
use Rattle.rules.specs.ToQuery.{fresh}
use Rattle.rules.specs.ToCoreActions.{readable}
use Rattle.refusals.specs.declared.Reason.TheVariants.{Unbound}
use Rattle.refusals.specs.declared.Refusal.{Refusal}
use Rattle.walks.specs.Steps.{Piece, reached_at, tops, Walked, InAnswer, OnStack, OnlyOnStack, UseFits, Room, Under, Counted, ExprAt, ExprsAt}
use Rattle.walks.specs.declared.Walk.{Walk}
use Rattle.walks.specs.declared.Stopped.{Stopped}
use Rattle.walks.proofs.Asks.{expr_inside, CallFacts, call_facts}
use Rattle.walks.proofs.Steps.{went, stop, retold}
use Rattle.walks.proofs.Read.{call_cases, exprs_many}
use Rattle.head_exprs.specs.Lowered.{lowered, lowered_all, call_piece, and_call, Binds}
use Rattle.head_exprs.proofs.Pieces.{lowered_call}
use Rattle.head_exprs.proofs.Expressions.{none_way, read_way, unbound_way}

-- the expression: the words, where it stands and where its walk writes, how deep it may be, and its word w
pub record Place : Type 0 where
  pub ws : List ℕ
  pub s : List ℕ
  pub cs : List ℕ
  pub d : ℕ
  pub at : ℕ
  pub to : ℕ
  pub sp : ℕ
  pub lg : ℕ
  pub w : ℕ

abbrev pub place : (ws s cs : List ℕ) (d at to sp lg w : ℕ) → Place
place ws s cs d at to sp lg w = record { ws = ws; s = s; cs = cs; d = d; at = at; to = to; sp = sp; lg = lg; w = w }

-- n words were read, of which the piece x was made, and its term is in the answer
abbrev Ends : Place → Res Piece → ℕ → List ℕ → List ℕ → Result Walk Stopped → Type 0
Ends k x n s' cs' r = Walked 1 (InAnswer k.lg) x n k.at k.to k.sp k.lg k.s k.cs s' cs' r

-- what the contract says of an answer, where B says which names are bound
abbrev pub Answers : Place → (Sig → List ℕ → Type 0) → List ℕ → List ℕ → Result Walk Stopped → Type 0
Answers k B s' cs' r =
    (sig : Sig) (x : ExprAt sig k.ws k.d k.at) (bound : List ℕ) → Counted sig k.cs → B sig bound
    → Ends k (lowered sig bound x.value k.cs) x.size s' cs' r

-- ---- the word is read

pub record Begun (k : Place) (B : Sig → List ℕ → Type 0) : Type 0 where
  pub known : Under (λ sig. ExprAt sig k.ws k.d k.at × Counted sig k.cs)
  pub bound : List ℕ
  pub binds : B known.sig bound
  pub room : Room (length k.ws) k.at (tops k.to k.sp k.lg) (length k.s)
  pub rule_fits : length k.ws < 2 ^ 64
  pub scratch_fits : length k.s < 2 ^ 64
  pub is : k.w ≡ get_or k.ws k.at 0

module _ {k : Place} {B : Sig → List ℕ → Type 0} (g : Begun k B) where
  pub word_inside : k.at < length k.ws
  word_inside = expr_inside g.known.sig k.ws k.d k.at g.known.known.0

  -- room for what stands behind it
  pub args_room : Room (length k.ws) (k.at + 1) (tops k.to k.sp k.lg) (length k.s)
  args_room = let r = g.room in record { words = omega (arith, r.words); stack = omega (arith, r.stack); log = omega (arith, r.log) }

  -- a name or a literal is read, or it is unbound
  module _ (high : literal_base ≤ k.w) {b : Bool} (test : (sig : Sig) (bound : List ℕ) → B sig bound → k.w < fresh_base → b ≡ readable sig bound k.w) where
    pub leaf_read : b ≡ true → Answers k B k.s k.cs (Ok (reached_at (k.at + 1) k.to k.lg k.w))
    leaf_read may sig x bound n i = read_way sig bound k.ws k.d k.at k.to k.sp k.lg k.s k.cs x n k.w g.is high b (test sig bound i) may

    pub leaf_unbound : {r : Refusal} → b ≡ false → (r.reason ≡ Unbound) × (r.place ≡ k.at) → Answers k B k.s k.cs (Err (record { refusal = r; log = k.lg }))
    leaf_unbound none r sig x bound n i = unbound_way sig bound k.ws k.d k.at k.to k.sp k.lg k.s k.cs x n k.w g.is high b (test sig bound i) none r

-- ---- it is a call's

pub record Called (k : Place) (B : Sig → List ℕ → Type 0) : Type 0 where
  pub begun : Begun k B
  pub low : k.w < literal_base
  pub facts : CallFacts begun.known.sig k.ws k.d k.at k.w k.cs

pub called : {k : Place} {B : Sig → List ℕ → Type 0} → Begun k B → k.w < literal_base → Called k B
called {k} g low =
    let q = g.known in
    record { begun = g; low = low; facts = call_facts q.sig k.ws k.d k.at k.cs k.w q.known.0 q.known.1 g.is low }

one_more : (n : ℕ) → n ≤ 1 + n
one_more n = omega arith

-- the arguments
abbrev Args : Place → Sig → Type 0
Args k sig = ExprsAt sig k.ws (k.d - 1) (count_of k.w) (k.at + 1)

module _ {k : Place} {B : Sig → List ℕ → Type 0} (h : Called k B) where
  by_args : {s' cs' : List ℕ} {r : Result Walk Stopped}
      → ((sig : Sig) (es : Args k sig) (bound : List ℕ) → Counted sig k.cs → B sig bound
      → Ends k (and_call k.at (head_of k.w) (lowered_all sig bound es.value k.cs)) (1 + es.size) s' cs' r)
      → Answers k B s' cs' r
  by_args {s'} {cs'} {r} f sig x bound n i =
      call_cases sig k.ws n.few (λ t m. Ends k (lowered sig bound t k.cs) m s' cs' r) k.d k.at k.w x h.begun.is h.low
      (λ es deep high hd. rw (lowered_call sig bound k.at (head_of k.w) es.value k.cs) (f sig es bound n i))

-- what the contract of their walk says, where they are n
abbrev pub Rowed : Place → (Sig → List ℕ → Type 0) → ℕ → List ℕ → List ℕ → Result Walk Stopped → Type 0
Rowed k B n s1 cs1 r =
    (sig : Sig) (es : ExprsAt sig k.ws (k.d - 1) n (k.at + 1)) (bound : List ℕ) → Counted sig k.cs → B sig bound
    → Walked n (OnlyOnStack k.sp n k.lg s1) (lowered_all sig bound es.value k.cs) es.size (k.at + 1) k.to k.sp k.lg k.s k.cs s1 cs1 r

-- ---- its arguments are walked with the answer r, which leaves s1 and cs1

pub record Argued (k : Place) (B : Sig → List ℕ → Type 0) (s1 cs1 : List ℕ) (r : Result Walk Stopped) : Type 0 where
  pub called : Called k B
  pub walk : (sig : Sig) (es : Args k sig) (bound : List ℕ) → Counted sig k.cs → B sig bound
      → Walked (count_of k.w) (OnStack k.sp (count_of k.w) k.lg s1) (lowered_all sig bound es.value k.cs) es.size
      (k.at + 1) k.to k.sp k.lg k.s k.cs s1 cs1 r
  pub counters : length cs1 ≡ length k.cs
  pub scratch : length s1 ≡ length k.s

-- so it is behind a walk over n of them
pub argued : {k : Place} {B : Sig → List ℕ → Type 0} → Called k B → {n : ℕ} {s1 cs1 : List ℕ} {r : Result Walk Stopped}
    → n ≡ count_of k.w → Rowed k B n s1 cs1 r → length cs1 ≡ length k.cs → length s1 ≡ length k.s → Argued k B s1 cs1 r
argued {k} {B} h {n} {s1} {cs1} {r} count walk counters scratch =
    record {
      called = h;
      walk =
          λ sig es bound c i. retold (lowered_all sig bound es.value k.cs) (subst (λ (j : ℕ). Rowed k B j s1 cs1 r) count walk sig es bound c i) (λ a p u. u.0);
      counters = counters;
      scratch = scratch;
    }

-- there are none
pub bare : {k : Place} {B : Sig → List ℕ → Type 0} → Called k B → {u : ℕ} → count_of k.w ≡ 0 → Argued k B k.s k.cs (Ok (reached_at (k.at + 1) k.to k.lg u))
bare {k} h {u} zero =
    record {
      called = h;
      walk = λ sig es bound n i. none_way sig bound k.ws (k.d - 1) (count_of k.w) (k.at + 1) k.to k.sp k.lg u k.s k.cs zero es;
      counters = refl;
      scratch = refl;
    }

module _ {k : Place} {B : Sig → List ℕ → Type 0} {s1 cs1 : List ℕ} where
  -- one that is refused refuses the call
  pub args_refused : {e : Stopped} → Argued k B s1 cs1 (Err e) → Answers k B s1 cs1 (Err e)
  args_refused m =
      by_args m.called
      (λ sig es bound n i. stop (1 + es.size) k.at (lowered_all sig bound es.value k.cs)
      (λ q. ◌>>=◌ (fresh k.at (head_of k.w) q.next) (λ f. ok (call_piece (head_of k.w) q f))) (m.walk sig es bound n i) (one_more es.size))

-- ---- they are fine: a

module _ {k : Place} {B : Sig → List ℕ → Type 0} {s1 cs1 : List ℕ} {a : Walk} (m : Argued k B s1 cs1 (Ok a)) where
  -- room for its end
  pub end_fits : UseFits 3 k.w (count_of k.w) k.sp a s1 cs1
  end_fits =
      let h = m.called in
      let g = h.begun in
      let q = g.known in
      let es = h.facts.args in
      let o = went (lowered_all q.sig g.bound es.value k.cs) (m.walk q.sig es g.bound q.known.1 g.binds) in
      let many = exprs_many q.sig k.ws (k.d - 1) (count_of k.w) (k.at + 1) es in
      let i = es.inside in
      let u = o.up_to in
      let l = o.log_up_to in
      let r = g.room in
      let size = m.scratch in
      record {
        high = h.facts.high;
        head = h.facts.small;
        counter = omega (arith, h.facts.low, m.counters);
        log = omega (arith, r.log);
        words = omega (arith, r.words);
        stack = omega (arith, r.stack, r.log);
      }

  -- and with its end the call is lowered
  pub call_answer : {s2 cs2 : List ℕ} {r : Result Walk Stopped} → Binds k.w k.at k.sp s1 cs1 s2 cs2 a r → Answers k B s2 cs2 r
  call_answer {s2} {cs2} {r} end = by_args m.called done
    where
      done : (sig : Sig) (es : Args k sig) (bound : List ℕ) → Counted sig k.cs → B sig bound
          → Ends k (and_call k.at (head_of k.w) (lowered_all sig bound es.value k.cs)) (1 + es.size) s2 cs2 r
      done sig es bound n i =
          let inside = es.inside in
          let room = m.called.begun.room in
          end k.at k.to (1 + es.size) k.lg (lowered_all sig bound es.value k.cs) k.s k.cs
          (record {
            behind = es.size;
            whole = refl;
            walk = m.walk sig es bound n i;
            many = exprs_many sig k.ws (k.d - 1) (count_of k.w) (k.at + 1) es;
            words = omega (arith, room.words);
            stack = omega (arith, room.stack);
            log = omega (arith, room.log);
          })
