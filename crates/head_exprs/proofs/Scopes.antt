-- Laws of the search for a name, and of scopes that a walk leaves as they are. Assumes nothing.
use mathlib.Core.Path.{◌≡◌, refl, sym, ap, ◌∙◌}
use mathlib.Core.List.{List, [], ◌∷◌, ◌++◌}
use mathlib.Core.Bool.{Bool, true, false, ◌||◌, cond}
use Prim.Native.Nat.{ℕ, ◌+◌, ◌≤◌, ◌<◌}
use native.Mathlib.Omega.{arith}
use lib.Dec.{eqb, ltb}
use lib.ListN.{length, get_or}
use borrow.Author.Tests.{lt-leb, le-leb, ltb-true, ltb-false}
use Rattle.octets.specs.Regions.{part, elem}
use Rattle.octets.proofs.Splice.{part_more, part_same}
use Rattle.rules.specs.Words.{limit12, name_base, fresh_base}
use Rattle.rules.specs.Signature.{Sig, elem, is_var}
use Rattle.rules.specs.ToCoreActions.{readable}
use Rattle.meaning.proofs.DistinctWords.{elem_append}
use Rattle.walks.specs.Steps.{tops, Kept, Room}
use Rattle.head_exprs.specs.Scopes.{in_scope, may_read, is_taken, grown, ScopeFits, Scoped, ScopeRoom}
use Rattle.head_exprs.specs.declared.scope.Scope.{Scope}

-- a step that writes elsewhere leaves the scope as it is
pub scoped_kept : {sig : Sig} {bound : List ℕ} {c : Scope} {to te sp se lg le log : ℕ} {s cs s' cs' : List ℕ} → Kept to te sp se lg le s cs s' cs' log
    → c.body ≤ to → te ≤ c.first → c.first + c.names ≤ sp → Scoped sig bound s c → Scoped sig bound s' c
unfolding in_scope
scoped_kept {c = c} {s = s} {s' = s'} k a b d x =
    let e1 : part s' 0 c.body ≡ part s 0 c.body = part_same s s' 0 c.body k.size (λ i p q. k.below i (omega arith)) in
    let e2 : part s' c.first c.names ≡ part s c.first c.names = part_same s s' c.first c.names k.size (λ i p q. k.between i (omega arith) (omega arith)) in
    record {
      globals = x.globals;
      few = x.few;
      variables = λ w p q. x.variables w p q ∙ sym (λ i. elem w (e1 i) || elem w (e2 i));
      global = λ w p. x.global w p ∙ ap (elem w) (sym e2);
    }

pub is_var_lem : (sig : Sig) (g w : ℕ) → g ≡ sig.globals → w < fresh_base → name_base + g ≤ w → is_var sig w ≡ true
is_var_lem sig g w e h k =
    let j : name_base + sig.globals ≤ w = omega arith in
    rw (lt-leb fresh_base w h, le-leb (name_base + sig.globals) w j)

pub is_not_var : (sig : Sig) (g w : ℕ) → g ≡ sig.globals → g ≤ limit12 → w < name_base + g → is_var sig w ≡ false
is_not_var sig g w e f k =
    let h : w < fresh_base = omega arith in
    let j : w < name_base + sig.globals = omega arith in
    rw (lt-leb fresh_base w h, lt-leb (name_base + sig.globals) w j)

pub reads_low : (sig : Sig) (bound s : List ℕ) (c : Scope) (w : ℕ) → Scoped sig bound s c → w < name_base + c.globals → true ≡ readable sig bound w
reads_low sig bound s c w x h = rw (is_not_var sig c.globals w x.globals x.few h)

pub reads_high : (sig : Sig) (bound s : List ℕ) (c : Scope) (w : ℕ) → Scoped sig bound s c → w < fresh_base → name_base + c.globals ≤ w → in_scope s c w ≡ readable sig bound w
reads_high sig bound s c w x old h = rw (is_var_lem sig c.globals w x.globals old h) (sym (x.variables w h old))

pub reads_as : {s : List ℕ} {c : Scope} {b : Bool} (w : ℕ) → b ≡ may_read s c w → (sig : Sig) (bound : List ℕ) → Scoped sig bound s c → w < fresh_base
    → b ≡ readable sig bound w
reads_as {s} {c} w e sig bound x old = e ∙ go (ltb w (name_base + c.globals)) refl
  where
    go : (t : Bool) → ltb w (name_base + c.globals) ≡ t → t || in_scope s c w ≡ readable sig bound w
    go true l = reads_low sig bound s c w x (ltb-true w (name_base + c.globals) l)
    go false l = reads_high sig bound s c w x old (ltb-false w (name_base + c.globals) l)

pub taken_as : {s : List ℕ} {c : Scope} {b : Bool} (w : ℕ) → b ≡ is_taken s c w → (sig : Sig) (bound : List ℕ) → Scoped sig bound s c → w < fresh_base
    → b ≡ elem w bound
taken_as {s} {c} w e sig bound x old = e ∙ go (ltb w (name_base + c.globals)) refl
  where
    go : (t : Bool) → ltb w (name_base + c.globals) ≡ t → cond t (elem w (part s c.first c.names)) (in_scope s c w) ≡ elem w bound
    go true l = sym (x.global w (ltb-true w (name_base + c.globals) l))
    go false l = sym (x.variables w (ltb-false w (name_base + c.globals) l) old)

turn_let : (t b n : Bool) → t || (b || n) ≡ b || (n || (t || false))
turn_let true true n = refl
turn_let true false true = refl
turn_let true false false = refl
turn_let false true n = refl
turn_let false false true = refl
turn_let false false false = refl

turn_name : (t n : Bool) → t || n ≡ n || (t || false)
turn_name true true = refl
turn_name true false = refl
turn_name false true = refl
turn_name false false = refl

-- a name more is let, behind the others
pub scope_let : (sig : Sig) (bound s s' : List ℕ) (c : Scope) (v : ℕ) → Scoped sig bound s c → length s' ≡ length s → c.first + c.names < length s
    → ((i : ℕ) → i < c.body → get_or s' i 0 ≡ get_or s i 0) → ((i : ℕ) → c.first ≤ i → i < c.first + c.names → get_or s' i 0 ≡ get_or s i 0)
    → get_or s' (c.first + c.names) 0 ≡ v → Scoped sig (v ∷ bound) s' (grown c 1)
unfolding in_scope
scope_let sig bound s s' c v x z room b n e =
    let e1 : part s' 0 c.body ≡ part s 0 c.body = part_same s s' 0 c.body z (λ i p q. b i (omega arith)) in
    let e2 : part s' c.first c.names ≡ part s c.first c.names = part_same s s' c.first c.names z n in
    let e3 : part s' c.first (c.names + 1) ≡ part s c.first c.names ++ (v ∷ []) = part_more s' c.first c.names (omega arith) ∙ (λ i. e2 i ++ (e i ∷ [])) in
    let names : (w : ℕ) → elem w (part s' c.first (c.names + 1)) ≡ elem w (part s c.first c.names) || (eqb w v || false) =
    λ w. ap (elem w) e3 ∙ elem_append w (part s c.first c.names) (v ∷ []) in
    record {
      globals = x.globals;
      few = x.few;
      variables =
          λ w p q. ap (λ (t : Bool). eqb w v || t) (x.variables w p q)
          ∙ turn_let (eqb w v) (elem w (part s 0 c.body)) (elem w (part s c.first c.names))
          ∙ sym (λ i. elem w (e1 i) || names w i);
      global = λ w p. ap (λ (t : Bool). eqb w v || t) (x.global w p) ∙ turn_name (eqb w v) (elem w (part s c.first c.names)) ∙ sym (names w);
    }

-- ---- room

pub scope_fits : {n at to sp lg : ℕ} {s : List ℕ} {c : Scope} → ScopeRoom n at to sp c → Room n at (tops to sp lg) (length s) → at ≤ n → ScopeFits s c
scope_fits x r h =
    let b = x.body in
    let m = x.names in
    let t = x.top in
    let r1 = r.words in
    let r2 = r.stack in
    let r3 = r.log in
    record { few = x.few; body = omega arith; names = omega arith }
