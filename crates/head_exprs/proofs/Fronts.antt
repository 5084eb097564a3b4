-- Literals and globals in front of a row of expressions may be read whatever is bound, and are their own terms: a walk over the expressions behind
-- them, with these words on the stack, is a walk over the whole row. Assumes nothing.
use mathlib.Core.Path.{◌≡◌, refl, sym, ap, ◌∙◌, subst}
use mathlib.Core.Bool.{true}
use mathlib.Core.List.{List, [], ◌∷◌, ◌++◌}
use Prim.Native.Nat.{ℕ, zero, suc, ◌+◌, ◌-◌, ◌≤◌, ◌<◌}
use native.Mathlib.Numerals.{add-one}
use native.Mathlib.Omega.{arith}
use lib.ListN.{length, get_or, set}
use Rattle.octets.specs.Regions.{splice, part}
use Rattle.octets.proofs.Splice.{length_part, part_front, part_more, splice_nil, splice_snoc, length_splice, get_or_splice_before, get_or_splice_after}
use Rattle.rules.specs.Words.{name_base}
use Rattle.rules.specs.Refusals.{Res}
use Rattle.rules.specs.Signature.{Sig}
use Rattle.rules.specs.Written.{Expr, Exprs}
use Rattle.walks.specs.Leaves.{leaves_up_to}
use Rattle.std.specs.Prelude.{Result, Ok, Err}
use Rattle.walks.specs.Steps.{Piece, reached_at, tops, OnlyOnStack, Kept, Room, ExprsAt}
use Rattle.walks.specs.declared.Walk.{Walk}
use Rattle.walks.specs.declared.Stopped.{Stopped}
use Rattle.walks.proofs.LeavesUpTo.{Leaf, leaves_most, leaves_each}
use Rattle.walks.proofs.Log.{undone_none}
use Rattle.walks.proofs.Read.{exprs_many}
use Rattle.walks.proofs.Steps.{went, placed, none_told, halted, retold}
use Rattle.walks.proofs.Rows.{Rowed, Left, left_all, left_next}
use Rattle.head_exprs.specs.Scopes.{Scoped}
use Rattle.head_exprs.specs.Lowered.{lowered, lowered_all, LowersExprs}
use Rattle.head_exprs.proofs.Scopes.{scoped_kept, reads_low}
use Rattle.head_exprs.proofs.Pieces.{lowered_row}
use Rattle.head_exprs.proofs.Expressions.{standing, read_way}
use Rattle.head_exprs.specs.Sites.{Site, site_of, Asks, WalkedAt}
use Rattle.head_exprs.proofs.Sites.{Tree, Begun, begun_as}

-- words go onto the stack, and nothing else is done
kept_stack : (to te sp se lg le : ℕ) (xs s cs s' : List ℕ) → to ≤ sp → sp + length xs ≤ se → sp + length xs ≤ length s → lg ≤ le
    → s' ≡ splice s sp xs → Kept to te sp se lg le s cs s' cs lg
kept_stack to te sp se lg le xs s cs s' a b r h e =
    let in' : sp ≤ length s = omega arith in
    let at : (i : ℕ) → get_or s' i 0 ≡ get_or (splice s sp xs) i 0 = λ i. ap (λ (l : List ℕ). get_or l i 0) e in
    record {
      used = 0;
      up_to = omega arith;
      counts = refl;
      in_log = h;
      size = ap length e ∙ length_splice s sp xs r;
      heads = refl;
      undo = undone_none cs;
      below = λ i x. at i ∙ get_or_splice_before s sp xs i in' (omega arith);
      between = λ i x y. at i ∙ get_or_splice_before s sp xs i in' y;
      above = λ i x y. at i ∙ get_or_splice_after s sp xs i in' (omega arith);
    }

-- the row of n expressions, at most d deep, that stands at a site
pub record Row (k : Site) (d n : ℕ) (sig : Sig) : Type 0 where
  pub exprs : ExprsAt sig k.ws d n k.at

pub row : {k : Site} {d n : ℕ} → Begun k (λ sig. ExprsAt sig k.ws d n k.at) → Begun k (Row k d n)
row g = begun_as g (λ sig x. record { exprs = x })

-- the last of the globals, or of the literals where there are none
abbrev pub last : Site → ℕ
last k = name_base + k.scope.globals - 1

module _ {k : Site} {d n : ℕ} (g : Begun k (Row k d n)) where
  -- it has as many words as expressions, or more
  pub row_inside : k.at + n ≤ length k.ws
  row_inside = let x = g.tree.it.exprs in omega (arith, exprs_many g.tree.sig k.ws d n k.at x, x.inside)

  -- room for as many words on the stack
  pub front_room : {row : List ℕ} → row ≡ part k.ws k.at n → k.sp + length row ≤ length k.s
  front_room is = omega (arith, row_inside, g.room.stack, g.room.log, ap length is, length_part k.ws k.at n row_inside)

-- the first i of them are on the stack, which leaves s0
pub record Stacked (k : Site) (d n i : ℕ) (s0 : List ℕ) : Type 0 where
  pub begun : Begun k (Row k d n)
  pub plain : (j : ℕ) → j < i → Leaf (last k) (get_or k.ws (k.at + j) 0)
  pub put : s0 ≡ splice k.s k.sp (part k.ws k.at i)
  pub size : length s0 ≡ length k.s
  pub most : i ≤ n
  pub inside : k.at + n ≤ length k.ws
  pub stack : k.sp + n ≤ length k.s

-- so it is behind a walk over the words of the row
pub stacked : {k : Site} {d n : ℕ} → Begun k (Row k d n) → {i : ℕ} {row s0 : List ℕ} → length s0 ≡ length k.s → row ≡ part k.ws k.at n
    → (i ≡ leaves_up_to (last k) row) × (s0 ≡ splice k.s k.sp (part row 0 i)) → Stacked k d n i s0
stacked {k} {d} {n} g {i} size is e =
    let inside = row_inside g in
    let count : i ≡ leaves_up_to (last k) (part k.ws k.at n) = e.0 ∙ ap (leaves_up_to (last k)) is in
    let most : i ≤ n = omega (arith, count, leaves_most (last k) k.ws k.at n inside) in
    record {
      begun = g;
      plain = λ j h. leaves_each (last k) k.ws k.at n inside j (subst (λ (m : ℕ). j < m) count h);
      put = e.1 ∙ ap (splice k.s k.sp) (ap (λ (l : List ℕ). part l 0 i) is ∙ part_front k.ws k.at n i most);
      size = size;
      most = most;
      inside = inside;
      stack = omega (arith, inside, g.room.stack, g.room.log);
    }

module _ {k : Site} {d n i : ℕ} {s0 : List ℕ} (f : Stacked k d n i s0) where
  -- ---- each is a turn of the walk over the row

  module _ (t : Tree k (Row k d n)) where
    abbrev one : Expr → List ℕ → Res Piece
    one = lowered t.sig t.bound

    abbrev all : Exprs → List ℕ → Res Piece
    all = lowered_all t.sig t.bound

    abbrev rowed : Rowed one all
    rowed = lowered_row t.sig t.bound

    abbrev Rest : (left top : ℕ) → List ℕ → Walk → Type 0
    Rest left top s1 w = Left one all rowed t.sig k.ws d n k.at k.to k.sp k.lg k.s k.cs t.it.exprs left top s1 k.cs w

    rest_is : (left left' top top' p p' u : ℕ) (s1 s1' : List ℕ) → left ≡ left' → top ≡ top' → p ≡ p' → s1 ≡ s1'
        → Rest left top s1 (reached_at p k.to k.lg u) → Rest left' top' s1' (standing p' k.to k.lg)
    rest_is left left' top top' p p' u s1 s1' a b e f l =
        subst (λ (i : ℕ). Rest i top' s1' (standing p' k.to k.lg)) a
        (subst (λ (i : ℕ). Rest left i s1' (standing p' k.to k.lg)) b
        (subst (λ (i : ℕ). Rest left top s1' (standing i k.to k.lg)) e
        (subst (λ (m : List ℕ). Rest left top m (standing p k.to k.lg)) f (record { rest = l.rest; whole = l.whole }))))

    -- j of them are read, each as an expression of its own
    turns : (j : ℕ) (s1 : List ℕ) → j ≤ i → s1 ≡ splice k.s k.sp (part k.ws k.at j)
        → Rest (n - j) (k.sp + j) s1 (standing (k.at + j) k.to k.lg)
    turns zero s1 h e =
        rest_is n (n - 0) k.sp (k.sp + 0) k.at (k.at + 0) 0 k.s s1 (omega arith) (omega arith) (omega arith)
        (sym (splice_nil k.s k.sp) ∙ sym e)
        (left_all one all rowed t.sig k.ws d n k.at k.to k.sp k.lg k.s k.cs t.it.exprs 0)
    turns (suc j) s1 h e =
        let fits = f.inside in
        let most = f.most in
        let at : ℕ = k.at + j in
        let w : ℕ = get_or k.ws at 0 in
        let xs : List ℕ = part k.ws k.at j in
        let sj : List ℕ = splice k.s k.sp xs in
        let len : length xs ≡ j = length_part k.ws k.at j (omega arith) in
        let stack = f.begun.room.stack in
        let log = f.begun.room.log in
        let size : length sj ≡ length k.s = length_splice k.s k.sp xs (omega arith) in
        let now : Room (length k.ws) at (tops k.to (k.sp + j) k.lg) (length sj) =
        record { words = omega (arith, f.begun.room.words); stack = omega arith; log = omega arith } in
        let plain = f.plain j (omega arith) in
        let there : part k.ws k.at (suc j) ≡ xs ++ (w ∷ []) = ap (part k.ws k.at) (sym (add-one j)) ∙ part_more k.ws k.at j (omega arith) in
        let put : s1 ≡ set sj (k.sp + j) w =
        e ∙ ap (splice k.s k.sp) there ∙ sym (splice_snoc k.s k.sp xs (k.sp + j) w (omega arith) (omega arith)) in
        rest_is (n - j - 1) (n - suc j) (k.sp + j + 1) (k.sp + suc j) (at + 1) (k.at + suc j) w s1 s1 (omega arith) (omega arith) (omega arith) refl
        (left_next one all rowed t.sig k.ws d n k.at k.to k.sp k.lg k.s k.cs t.it.exprs
        (n - j) (k.sp + j) sj k.cs (standing at k.to k.lg) (turns j sj (omega arith) refl) (omega arith) now
        sj k.cs (reached_at (at + 1) k.to k.lg w)
        (λ y. read_way t.sig t.bound k.ws d at k.to (k.sp + j) k.lg sj k.cs y t.counted w refl plain.low true
        (λ old. reads_low t.sig t.bound k.s k.scope w t.scoped (omega (arith, plain.high))) refl)
        s1 put)

    front_left : Rest (n - i) (k.sp + i) s0 (standing (k.at + i) k.to k.lg)
    front_left = turns i s0 (omega arith) f.put

    front_scoped : Scoped t.sig t.bound s0 k.scope
    front_scoped =
        let m = f.most in
        let x = f.inside in
        let r = f.begun.room in
        let sr = f.begun.scope_room in
        let len : length (part k.ws k.at i) ≡ i = length_part k.ws k.at i (omega arith) in
        scoped_kept
        (kept_stack k.to k.to k.sp (k.sp + i) k.lg k.lg (part k.ws k.at i) k.s k.cs s0
        (omega (arith, r.words)) (omega arith) (omega (arith, r.stack, r.log)) (omega arith) f.put)
        sr.body (omega (arith, sr.names)) sr.top t.scoped

  -- ---- the walk over the others

  -- its site
  abbrev behind : Site
  behind = site_of k.ws s0 k.cs (k.at + i) (tops k.to (k.sp + i) k.lg) k.scope

  -- what it asks
  pub rest_asks : Asks behind (λ sig. ExprsAt sig k.ws d (n - i) (k.at + i)) (k.at + i)
  rest_asks =
      let t = f.begun.tree in
      let r = f.begun.room in
      let sr = f.begun.scope_room in
      let size = f.size in (
        record { sig = t.sig; known = ((front_left t).rest, t.counted, record { bound = t.bound; scoped = front_scoped t }) },
        (
          record { words = omega (arith, r.words); stack = omega (arith, r.stack); log = omega (arith, r.log) },
          record { few = sr.few; body = sr.body; names = omega (arith, sr.names); top = omega (arith, sr.top) },
        ),
      )

  -- and what it leaves is what walking the whole row leaves
  pub row_walked : {s1 cs1 : List ℕ} {r : Result Walk Stopped} → LowersExprs d (n - i) behind s1 cs1 r
      → (t : Tree k (Row k d n)) → WalkedAt k n (OnlyOnStack k.sp n k.lg s1) (lowered_all t.sig t.bound t.it.exprs.value k.cs) t.it.exprs.size k.at s1 cs1 r
  row_walked {s1} {cs1} {r} walk t = go r (walk t.sig rest t.bound t.counted (front_scoped t))
    where
      rest : ExprsAt t.sig k.ws d (n - i) (k.at + i)
      rest = (front_left t).rest

      one-by-one : Res Piece
      one-by-one = lowered_all t.sig t.bound rest.value k.cs

      row : Res Piece
      row = lowered_all t.sig t.bound t.it.exprs.value k.cs

      go : (r : Result Walk Stopped) → WalkedAt behind (n - i) (OnlyOnStack (k.sp + i) (n - i) k.lg s1) one-by-one rest.size (k.at + i) s1 cs1 r
          → WalkedAt k n (OnlyOnStack k.sp n k.lg s1) row t.it.exprs.size k.at s1 cs1 r
      go (Err e) w = halted row ((front_left t).whole s1 cs1 (Err e) (halted one-by-one w))
      go (Ok a) w =
          let silent : a.term ≡ 0 = none_told one-by-one w (λ p u. u.1) in
          let whole = (front_left t).whole s1 cs1 (Ok a) (retold one-by-one w (λ b p u. u.0)) in
          placed k.at a row whole (went row whole).next refl refl (λ p u. (u, silent))
