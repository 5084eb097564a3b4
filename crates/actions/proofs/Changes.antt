-- An action with a head, which is a set, a delete or a subsume: its expressions are lowered, and behind them its end is written. What is known at each
-- of these steps, and each way out of `lower_change`. Assumes nothing.
use mathlib.Core.Path.{◌≡◌, refl, sym, ap, subst}
use mathlib.Core.List.{List}
use Prim.Native.Nat.{ℕ, ◌+◌, ◌^◌, ◌≤◌, ◌<◌}
use native.Mathlib.Omega.{arith}
use lib.ListN.{length}
use Rattle.rules.specs.Words.{max_depth, head_base, head_of, count_of}
use Rattle.rules.specs.Refusals.{Res}
use Rattle.rules.specs.Signature.{Sig, heads}
use Rattle.std.specs.Prelude.{Result, Ok, Err}
use Rattle.walks.specs.Steps.{Piece, OnStack, OnlyOnStack, Termed, ExprsAt}
use Rattle.walks.specs.declared.Walk.{Walk}
use Rattle.walks.specs.declared.Stopped.{Stopped}
use Rattle.walks.proofs.Steps.{went, stop, retold}
use Rattle.walks.proofs.Read.{exprs_many, recount}
use Rattle.head_exprs.specs.Sites.{Site, Every, WalkedAt}
use Rattle.head_exprs.specs.Lowered.{lowered_all}
use Rattle.head_exprs.proofs.Sites.{Tree, tree, Begun}
use Rattle.actions.specs.Acts.{ChangeAt, closing, changed, ChangeFits, walk_of, Gave, Quiet}
use Rattle.actions.specs.Lowers.{second, LowersChange, Closes}
use Rattle.actions.specs.declared.Acted.{Acted}

-- n terms are on the stack, of the words behind the first two of the action's `size`
abbrev pub TermedAt : Site → (size n : ℕ) → Res Piece → List ℕ → List ℕ → Walk → Type 0
TermedAt k size n x s1 cs1 a = Termed 2 k.at k.to size n k.sp k.lg x k.s k.cs s1 cs1 a

-- ---- where it stands

-- n expressions, at most d deep, j words behind the action word; in front of them stands the kind 3 word w
pub record Headed (k : Site) (j d n w : ℕ) (sig : Sig) : Type 0 where
  pub high : head_base ≤ w
  pub head : head_of w < heads sig
  pub exprs : ExprsAt sig k.ws d n (k.at + j)

-- ---- the expressions are lowered with the answer r, which leaves s1 and cs1

pub record Argued (k : Site) (j d n w : ℕ) (s1 cs1 : List ℕ) (r : Result Walk Stopped) : Type 0 where
  pub begun : Begun k (Headed k j d n w)
  pub walk : (t : Tree k (Headed k j d n w))
      → WalkedAt k n (OnStack k.sp n k.lg s1) (lowered_all t.sig t.bound t.it.exprs.value k.cs) t.it.exprs.size
      (k.at + j) s1 cs1 r
  pub size : length s1 ≡ length k.s
  pub counters : length cs1 ≡ length k.cs

-- what the contract of their walk says
abbrev pub Rowed : (k : Site) (j d n : ℕ) (s1 cs1 : List ℕ) → Result Walk Stopped → Type 0
Rowed k j d n s1 cs1 r =
    Every k (λ sig. ExprsAt sig k.ws d n (k.at + j))
    (λ sig x bound. WalkedAt k n (OnlyOnStack k.sp n k.lg s1) (lowered_all sig bound x.value k.cs) x.size (k.at + j) s1 cs1 r)

pub argued : {k : Site} {j d n m w : ℕ} {s1 cs1 : List ℕ} {r : Result Walk Stopped} → m ≡ n → Begun k (Headed k j d n w) → length s1 ≡ length k.s
    → length cs1 ≡ length k.cs → Rowed k j d m s1 cs1 r → Argued k j d n w s1 cs1 r
argued {k} {j} {d} {n} {m} {w} {s1} {cs1} {r} e g es ec rowed =
    let walk : Rowed k j d n s1 cs1 r = subst (λ (i : ℕ). Rowed k j d i s1 cs1 r) e rowed in
    let low : Tree k (Headed k j d n w) → Res Piece = λ t. lowered_all t.sig t.bound t.it.exprs.value k.cs in
    record { begun = g; walk = λ t. retold (low t) (walk t.sig t.it.exprs t.bound t.counted t.scoped) (λ a p u. u.0); size = es; counters = ec }

-- they are fine: what the end of the action asks, with room for j - 2 terms behind theirs
pub record Fine {k : Site} {j d n w : ℕ} {s1 cs1 : List ℕ} {a : Walk} (m : Argued k j d n w s1 cs1 (Ok a)) : Type 0 where
  pub fits : ChangeFits w n k.sp k.lg a s1 cs1
  pub stack : k.sp + (n + j) ≤ length s1 + 2
  pub scratch_fits : length s1 < 2 ^ 64
  pub next : k.at + j < 2 ^ 64

pub is_fine : {k : Site} {j d n w : ℕ} {s1 cs1 : List ℕ} {a : Walk} (m : Argued k j d n w s1 cs1 (Ok a)) → 2 ≤ j → Fine m
is_fine {k} {j} {d} {n} m more =
    let g = m.begun in
    let t = g.tree in
    let x = t.it.exprs in
    let o = went (lowered_all t.sig t.bound x.value k.cs) (m.walk t) in
    let u = o.up_to in
    let l = o.log_up_to in
    let i = x.inside in
    let r = g.room in
    let size = m.size in
    let many = exprs_many t.sig k.ws d n (k.at + j) x in
    record {
      fits = (
        record {
          high = t.it.high;
          head = omega (arith, t.it.head, t.counted.few);
          counter = omega (arith, t.it.head, t.counted.fits, m.counters);
          log = omega (arith, r.log);
          words = omega (arith, r.words);
          stack = omega (arith, r.stack, r.log);
        },
        o.log_from,
      );
      stack = omega (arith, r.stack, r.log);
      scratch_fits = omega (arith, g.scratch_fits);
      next = omega (arith, g.rule_fits);
    }

-- that, where the count is told as m
pub fits_as : {w n m sp lg : ℕ} {a : Walk} {s cs : List ℕ} → m ≡ n → ChangeFits w n sp lg a s cs → ChangeFits w m sp lg a s cs
fits_as {w} {sp = sp} {lg = lg} {a = a} {s = s} {cs = cs} e f = subst (λ (i : ℕ). ChangeFits w i sp lg a s cs) (sym e) f

-- ---- the ways out of `lower_change`

-- the kind 3 word is read as w
abbrev pub Change : Site → (more w : ℕ) → Sig → Type 0
Change k more w = Headed k 2 max_depth (count_of w + more) w

abbrev pub change_at : {k : Site} {more w : ℕ} → w ≡ second k → (sig : Sig) → ChangeAt sig k.ws more k.at → Change k more w sig
change_at {k} {more} {w} is sig x =
    record {
      high = subst (λ (u : ℕ). head_base ≤ u) (sym is) x.high;
      head = subst (λ (u : ℕ). head_of u < heads sig) (sym is) x.head;
      exprs =
          recount sig k.ws max_depth (count_of (second k) + more) (count_of w + more) (k.at + 2) (ap (λ (u : ℕ). count_of u + more) (sym is))
          x.exprs;
    }

pub record Changing (k : Site) (code more w : ℕ) : Type 0 where
  pub begun : Begun k (Change k more w)
  pub is : w ≡ second k
  pub few : more ≤ 1

module _ {k : Site} {code more w : ℕ} (h : Changing k code more w) where
  abbrev Ends : List ℕ → List ℕ → Result Acted Stopped → Tree k (Change k more w) → Type 0
  Ends s' cs' r t =
      WalkedAt k 0 (Gave r) (changed t.sig t.bound code more (k.at + 1) (head_of w) t.it.exprs.value k.cs) (2 + t.it.exprs.size)
      k.at s' cs' (walk_of r)

  answers : {s' cs' : List ℕ} (r : Result Acted Stopped) → Quiet r → ((t : Tree k (Change k more w)) → Ends s' cs' r t) → LowersChange k code more s' cs' r
  answers {s'} {cs'} r none f = (
    none,
    λ sig x bound n sc. subst
        (λ (u : ℕ). WalkedAt k 0 (Gave r) (changed sig bound code more (k.at + 1) (head_of u) x.exprs.value k.cs) (2 + x.exprs.size)
        k.at s' cs' (walk_of r)) h.is (f (tree sig (change_at h.is sig x) bound n sc)),
  )

  pub change_refused : {s1 cs1 : List ℕ} {e : Stopped} → Argued k 2 max_depth (count_of w + more) w s1 cs1 (Err e) → LowersChange k code more s1 cs1 (Err e)
  change_refused {e = e} m =
      answers (Err e) refl
      (λ t. stop (2 + t.it.exprs.size) k.at (lowered_all t.sig t.bound t.it.exprs.value k.cs) (closing code more (k.at + 1) (head_of w))
      (m.walk t) (omega arith))

  -- they are fine, and the end of the action leaves s2 and cs2
  pub change_ends : {s1 cs1 : List ℕ} {a : Walk} (m : Argued k 2 max_depth (count_of w + more) w s1 cs1 (Ok a)) {n : ℕ} {s2 cs2 : List ℕ}
      (r : Result Acted Stopped)
      → n ≡ count_of w + more → Closes code w n (k.at + 1) k.sp k.lg s1 cs1 s2 cs2 a r → LowersChange k code more s2 cs2 r
  change_ends {s1} {cs1} {a} m {n} {s2} {cs2} r count closes =
      let e = subst (λ (i : ℕ). Closes code w i (k.at + 1) k.sp k.lg s1 cs1 s2 cs2 a r) count closes in
      answers r e.0
      (λ t. e.1 more k.at k.to (2 + t.it.exprs.size) (lowered_all t.sig t.bound t.it.exprs.value k.cs) k.s k.cs refl (termed t))
    where
      termed : (t : Tree k (Change k more w))
          → TermedAt k (2 + t.it.exprs.size) (count_of w + more) (lowered_all t.sig t.bound t.it.exprs.value k.cs) s1 cs1 a
      termed t =
          let i = t.it.exprs.inside in
          let r = m.begun.room in
          record {
            behind = t.it.exprs.size;
            whole = refl;
            walk = m.walk t;
            many = exprs_many t.sig k.ws max_depth (count_of w + more) (k.at + 2) t.it.exprs;
            words = omega (arith, r.words);
            stack = omega (arith, r.stack);
            log = omega (arith, r.log);
          }
