-- What a union that becomes a set is then, and lowering it from what `as_set` says. Assumes nothing.
use mathlib.Core.Path.{◌≡◌, refl, sym, ap, ◌∙◌, subst}
use mathlib.Core.Bool.{Bool, true, false, cond, ◌&&◌}
use mathlib.Core.List.{List}
use mathlib.Core.Option.{Option, none, some}
use Prim.Native.Nat.{ℕ, zero, suc, ◌+◌, ◌-◌, ◌≤◌, ◌<◌}
use native.Mathlib.Omega.{arith}
use lib.Dec.{ltb}
use lib.ListN.{length, get_or}
use borrow.Author.Tests.{ltb-true, ltb-false}
use Rattle.rules.specs.Words.{limit12, max_depth, literal_base, head_base, fresh_base, action_word, head_of, count_of}
use Rattle.rules.specs.Refusals.{Res, ok, refuse, ◌>>=◌, unfit, too_deep}
use Rattle.rules.specs.Signature.{Sig, heads, is_constructor, is_name}
use Rattle.rules.specs.Written.{Expr, Exprs, leaf, call, end, Shape, is_leaf, is_call, is_bad, shape_at, Read, Reader, read_shape, read_expr, read_many}
use Rattle.rules.specs.ToCoreActions.{Done, AsSet, optional, union_as_set, lower_union, lower_set}
use Rattle.meaning.proofs.Results.{bind_ok, ok_inj, refuse_ok}
use Rattle.walks.specs.Steps.{Piece, ExprAt, ExprsAt}
use Rattle.walks.proofs.Read.{moved, leaf_cases, call_cases}
use Rattle.walks.specs.declared.Stopped.{Stopped}
use Rattle.head_exprs.specs.Sites.{Site, Known, RoomAt, ScopeRoomAt, WalkedAt}
use Rattle.actions.specs.Acts.{done_piece, ChangeAt, PairAt, NameCallAt, changed, walk_of, Gave}
use Rattle.actions.specs.Lowers.{Does, LowersChange, Unites, SetsName}
use Rattle.actions.specs.declared.Acted.{Acted}
use Rattle.std.specs.Prelude.{Option as Optional, Some, None, Result}
use Rattle.core_actions.specs.Unions.{Signed, set_side}
use Rattle.core_actions.specs.Rows.{KnownSigned, LowersUnion}
use Rattle.core_actions.specs.declared.unions.Side.{Side}
use Rattle.core_actions.specs.declared.unions.Side.TheVariants.{Left, Right}
use Rattle.actions.proofs.Acting.{acts_same}
use Rattle.actions.proofs.Pieces.{snoc, done_set_row, SameBound, same_set}
use Rattle.core_actions.proofs.SetSides.{Sides}

-- a test that chooses a side, and one that does not
chosen : (t : Bool) (d : Side) (o : Option AsSet) (u : AsSet) → Some d ≡ cond t (Some d) None → o ≡ optional t u → o ≡ some u
chosen true d o u e is = is
chosen false d o u e is = absurd (cc)

not_chosen : (t : Bool) (d : Side) (u : AsSet) → None ≡ cond t (Some d) None → optional t u ≡ none
not_chosen true d u e = absurd (cc)
not_chosen false d u e = refl

another : (t : Bool) (d g : Side) → (d ≡ g → ⊥) → Some d ≡ cond t (Some g) None → ⊥
another true d g other e = other (cc)
another false d g other e = cc

-- a union that stays one
stays : (sig : Sig) (a b : Expr) → None ≡ set_side sig a b → union_as_set sig a b ≡ none
stays sig (leaf p w) (leaf q v) e = refl
stays sig (leaf p w) (call q h es) e =
    not_chosen (is_name w && sig.flag && is_constructor sig h) Right (record { place = q; head = h; args = es; value = leaf p w }) e
stays sig (call q h es) (leaf p w) e =
    not_chosen (is_name w && sig.flag && is_constructor sig h) Left (record { place = q; head = h; args = es; value = leaf p w }) e
stays sig (call p h es) (call q g fs) e = refl

-- ---- an expression that may be d deep may be deeper

-- what one reads, two reads
abbrev Extends : {A : Type 0} → Reader A → Reader A → Type 0
Extends {A} one two = (p : ℕ) (r : Read A) → one p ≡ ok r → two p ≡ ok r

module _ (sig : Sig) (ws : List ℕ) where
  many_deeper : (one two : Reader Expr) → Extends one two → (n : ℕ) → Extends (read_many one n) (read_many two n)
  many_deeper one two k zero p r e = e
  many_deeper one two k (suc n) p r e =
      let a = bind_ok (one p) _ r e in
      let b = bind_ok (read_many one n a.0.at) _ r a.2 in
      rw (k p a.0 a.1, many_deeper one two k n a.0.at b.0 b.1) b.2

  shape_deeper : (sh : Shape) (w p : ℕ) (f g : ℕ → Reader Exprs) → ((n : ℕ) → Extends (f n) (g n)) → (r : Read Expr)
      → read_shape sh false f w p ≡ ok r → read_shape sh false g w p ≡ ok r
  shape_deeper is_bad w p f g k r e = e
  shape_deeper is_leaf w p f g k r e = e
  shape_deeper is_call w p f g k r e =
      let a = bind_ok (f (count_of w) (suc p)) _ r e in
      rw (k (count_of w) (suc p) a.0 a.1) a.2

  none_deep : (sh : Shape) (w p : ℕ) (f : ℕ → Reader Exprs) (r : Read Expr) → read_shape sh true f w p ≡ ok r → ⊥
  none_deep is_bad w p f r e = refuse_ok unfit p r e
  none_deep is_leaf w p f r e = refuse_ok too_deep p r e
  none_deep is_call w p f r e = refuse_ok too_deep p r e

  deeper : (d : ℕ) → Extends (read_expr sig ws d) (read_expr sig ws (suc d))
  deeper zero p r e = absurd (none_deep (shape_at sig ws p) (get_or ws p 0) p (λ n q. refuse too_deep q) r e)
  deeper (suc d) p r e =
      shape_deeper (shape_at sig ws p) (get_or ws p 0) p (λ n q. read_many (λ t. read_expr sig ws d t) n q) (λ n q. read_many (λ t. read_expr sig ws (suc d) t) n q)
      (λ n q x. many_deeper (λ t. read_expr sig ws d t) (λ t. read_expr sig ws (suc d) t) (λ t y. deeper d t y) n q x) r e

bind_to : {A B : Type 0} (m : Res A) (k : A → Res B) (a : A) (b : Res B) → m ≡ ok a → k a ≡ b → ◌>>=◌ m k ≡ b
bind_to m k a b e f = ap (λ x. ◌>>=◌ x k) e ∙ f

-- one expression more behind a row
pub many_snoc : (one : Reader Expr) (n p : ℕ) (r : Read Exprs) (q : Read Expr) → read_many one n p ≡ ok r → one r.at ≡ ok q
    → read_many one (n + 1) p ≡ ok (record { value = snoc r.value q.value; at = q.at })
many_snoc one zero p r q e f =
    let is : record { value = end; at = p } ≡ r = ok_inj _ _ e in
    subst (λ (x : Read Exprs). one x.at ≡ ok q → read_many one 1 p ≡ ok (record { value = snoc x.value q.value; at = q.at })) is (λ g. rw g) f
many_snoc one (suc n) p r q e f =
    let a = bind_ok (one p) _ r e in
    let b = bind_ok (read_many one n a.0.at) _ r a.2 in
    let is = ok_inj _ _ b.2 in
    let last : one b.0.at ≡ ok q = subst (λ (x : Read Exprs). one x.at ≡ ok q) (sym is) f in
    let rest = many_snoc one n a.0.at b.0 q b.1 last in
    let count : suc (n + 1) ≡ suc n + 1 = omega arith in
    subst (λ (k : ℕ). read_many one k p ≡ ok (record { value = snoc r.value q.value; at = q.at })) count
    (subst (λ (x : Read Exprs). read_many one (suc (n + 1)) p ≡ ok (record { value = snoc x.value q.value; at = q.at })) is
    (bind_to (one p) _ a.0 _ a.1 (bind_to (read_many one (n + 1) a.0.at) _ _ _ rest refl)))

-- ---- what a union is that becomes a set

module _ (sig : Sig) (ws : List ℕ) (few : heads sig ≤ limit12) (at : ℕ) (x : PairAt sig ws at) where
  -- with the call on the left: the name stands behind its arguments
  record LeftSet : Type 0 where
    pub change : ChangeAt sig ws 1 at
    pub size : 2 + change.exprs.size ≡ 1 + (x.left.size + x.right.size)
    pub piece : (bound cs : List ℕ)
        → done_piece (lower_union sig bound (union_as_set sig x.left.value x.right.value) x.left.value x.right.value cs)
        ≡ changed sig bound (action_word 2) 1 (at + 1) (head_of (get_or ws (at + 1) 0)) change.exprs.value cs
    pub same : (bound cs : List ℕ) → SameBound sig bound (lower_union sig bound (union_as_set sig x.left.value x.right.value) x.left.value x.right.value cs)

  left_is : Some Left ≡ set_side sig x.left.value x.right.value → LeftSet
  left_is e = go (ltb w literal_base) refl
    where
      w : ℕ
      w = get_or ws (at + 1) 0

      v : ℕ
      v = get_or ws (at + 1 + x.left.size) 0

      made : (es : ExprsAt sig ws (max_depth - 1) (count_of w) (at + 1 + 1)) → head_base ≤ w → head_of w < heads sig
          → call (at + 1) (head_of w) es.value ≡ x.left.value → 1 + es.size ≡ x.left.size
          → leaf (at + 1 + x.left.size) v ≡ x.right.value → 1 ≡ x.right.size → LeftSet
      made es high hd le ls re rs =
          let n : Expr = leaf (at + 1 + x.left.size) v in
          let two : at + 1 + 1 ≡ at + 2 = omega arith in
          let r1 : read_many (read_expr sig ws max_depth) (count_of w) (at + 2) ≡ ok (record { value = es.value; at = at + 2 + es.size }) =
          subst (λ (k : ℕ). read_many (read_expr sig ws max_depth) (count_of w) k ≡ ok (record { value = es.value; at = k + es.size })) two
          (many_deeper sig ws (read_expr sig ws (max_depth - 1)) (read_expr sig ws max_depth) (deeper sig ws (max_depth - 1)) (count_of w) (at + 1 + 1) _ es.reads) in
          let there : at + 1 + x.left.size ≡ at + 2 + es.size = omega arith in
          let r2 : read_expr sig ws max_depth (at + 2 + es.size) ≡ ok (record { value = x.right.value; at = at + 2 + es.size + x.right.size }) =
          subst (λ (k : ℕ). read_expr sig ws max_depth k ≡ ok (record { value = x.right.value; at = k + x.right.size })) there x.right.reads in
          let r3 = many_snoc (read_expr sig ws max_depth) (count_of w) (at + 2) _ _ r1 r2 in
          let ends : at + 2 + es.size + x.right.size ≡ at + 2 + (es.size + x.right.size) = omega arith in
          let u : AsSet = record { place = at + 1; head = head_of w; args = es.value; value = n } in
          let some' : union_as_set sig x.left.value x.right.value ≡ some u =
          chosen (is_name v && sig.flag && is_constructor sig (head_of w)) Left _ u (e ∙ (λ i. set_side sig (sym le i) (sym re i)))
          (λ i. union_as_set sig (sym le i) (sym re i)) in
          record {
            change =
                record {
                  high = high;
                  head = hd;
                  exprs =
                      record {
                        value = snoc es.value x.right.value;
                        size = es.size + x.right.size;
                        reads = r3 ∙ (λ i. ok (record { value = snoc es.value x.right.value; at = ends i }));
                        inside = omega (arith, x.right.inside);
                      };
                };
            size = omega arith;
            piece =
                λ bound cs. (λ i. done_piece (lower_union sig bound (some' i) x.left.value x.right.value cs)) ∙ done_set_row sig bound (at + 1) (head_of w) es.value n cs
                ∙ (λ i. changed sig bound (action_word 2) 1 (at + 1) (head_of w) (snoc es.value (re i)) cs);
            same =
                λ bound cs. subst (λ (o : Option AsSet). SameBound sig bound (lower_union sig bound o x.left.value x.right.value cs)) (sym some')
                (same_set sig bound (at + 1) (head_of w) es.value n cs);
          }

      right : (es : ExprsAt sig ws (max_depth - 1) (count_of w) (at + 1 + 1)) → head_base ≤ w → head_of w < heads sig
          → call (at + 1) (head_of w) es.value ≡ x.left.value → 1 + es.size ≡ x.left.size
          → (b : Bool) → ltb v literal_base ≡ b → LeftSet
      right es high hd le ls true t =
          call_cases sig ws few (λ f k. f ≡ x.right.value → LeftSet) max_depth (at + 1 + x.left.size) v x.right refl (ltb-true v literal_base t)
          (λ fs deep h2 hd2 re. absurd (let z : Some Left ≡ None = e ∙ (λ i. set_side sig (sym le i) (sym re i)) in cc)) refl
      right es high hd le ls false t =
          leaf_cases sig ws few (λ f k. f ≡ x.right.value → k ≡ x.right.size → LeftSet) max_depth (at + 1 + x.left.size) v x.right refl (ltb-false v literal_base t)
          (λ i o re rs. made es high hd le ls re rs) refl refl

      go : (b : Bool) → ltb w literal_base ≡ b → LeftSet
      go true t =
          call_cases sig ws few (λ f k. f ≡ x.left.value → k ≡ x.left.size → LeftSet) max_depth (at + 1) w x.left refl (ltb-true w literal_base t)
          (λ es deep high hd le ls. right es high hd le ls (ltb v literal_base) refl) refl refl
      go false t =
          leaf_cases sig ws few (λ f k. f ≡ x.left.value → LeftSet) max_depth (at + 1) w x.left refl (ltb-false w literal_base t)
          (λ i o le. absurd (not_one x.right.value (e ∙ ap (λ (f : Expr). set_side sig f x.right.value) (sym le)))) refl
        where
          not_one : (f : Expr) → Some Left ≡ set_side sig (leaf (at + 1) w) f → ⊥
          not_one (leaf p u) k = cc
          not_one (call p h es) k = another (is_name w && sig.flag && is_constructor sig h) Left Right (λ z. cc) k

  -- with the call on the right: it stands behind the name
  record RightSet : Type 0 where
    pub named : NameCallAt sig ws at
    pub size : 3 + named.exprs.size ≡ 1 + (x.left.size + x.right.size)
    pub is : (bound cs : List ℕ)
        → lower_union sig bound (union_as_set sig x.left.value x.right.value) x.left.value x.right.value cs
        ≡ lower_set sig bound (at + 2) (head_of (get_or ws (at + 2) 0)) named.exprs.value (leaf (at + 1) (get_or ws (at + 1) 0)) cs

  right_is : Some Right ≡ set_side sig x.left.value x.right.value → RightSet
  right_is e = go (ltb w literal_base) refl
    where
      w : ℕ
      w = get_or ws (at + 1) 0

      v : ℕ
      v = get_or ws (at + 2) 0

      made : w < fresh_base → leaf (at + 1) w ≡ x.left.value → 1 ≡ x.left.size → (es : ExprsAt sig ws (max_depth - 1) (count_of v) (at + 2 + 1)) → head_base ≤ v → head_of v < heads sig
          → call (at + 2) (head_of v) es.value ≡ x.right.value → 1 + es.size ≡ x.right.size → RightSet
      made old le ls es high hd re rs =
          let three : at + 2 + 1 ≡ at + 3 = omega arith in
          let u : AsSet = record { place = at + 2; head = head_of v; args = es.value; value = leaf (at + 1) w } in
          let some' : union_as_set sig x.left.value x.right.value ≡ some u =
          chosen (is_name w && sig.flag && is_constructor sig (head_of v)) Right _ u (e ∙ (λ i. set_side sig (sym le i) (sym re i)))
          (λ i. union_as_set sig (sym le i) (sym re i)) in
          record {
            named = record { old = old; high = high; head = hd; exprs = moved (read_many (read_expr sig ws (max_depth - 1)) (count_of v)) ws (at + 2 + 1) (at + 3) three es };
            size = omega arith;
            is = λ bound cs i. lower_union sig bound (some' i) x.left.value x.right.value cs;
          }

      right : w < fresh_base → leaf (at + 1) w ≡ x.left.value → 1 ≡ x.left.size → (b : Bool) → ltb v literal_base ≡ b → RightSet
      right old le ls b t = by b t
        where
          there : at + 1 + x.left.size ≡ at + 2
          there = omega arith

          y : ExprAt sig ws max_depth (at + 2)
          y = moved (read_expr sig ws max_depth) ws (at + 1 + x.left.size) (at + 2) there x.right

          by : (b : Bool) → ltb v literal_base ≡ b → RightSet
          by true t =
              call_cases sig ws few (λ f k. f ≡ x.right.value → k ≡ x.right.size → RightSet) max_depth (at + 2) v y refl (ltb-true v literal_base t)
              (λ es deep high hd re rs. made old le ls es high hd re rs) refl refl
          by false t =
              leaf_cases sig ws few (λ f k. f ≡ x.right.value → RightSet) max_depth (at + 2) v y refl (ltb-false v literal_base t)
              (λ i o re. absurd (let z : Some Right ≡ None = e ∙ (λ i. set_side sig (sym le i) (sym re i)) in cc)) refl

      go : (b : Bool) → ltb w literal_base ≡ b → RightSet
      go false t =
          leaf_cases sig ws few (λ f k. f ≡ x.left.value → k ≡ x.left.size → RightSet) max_depth (at + 1) w x.left refl (ltb-false w literal_base t)
          (λ i o le ls. right o le ls (ltb v literal_base) refl) refl refl
      go true t =
          call_cases sig ws few (λ f k. f ≡ x.left.value → RightSet) max_depth (at + 1) w x.left refl (ltb-true w literal_base t)
          (λ es deep high hd le. absurd (not_two_lem es.value x.right.value (e ∙ ap (λ (f : Expr). set_side sig f x.right.value) (sym le)))) refl
        where
          not_two_lem : (es : Exprs) (f : Expr) → Some Right ≡ set_side sig (call (at + 1) (head_of w) es) f → ⊥
          not_two_lem es (call p h fs) k = cc
          not_two_lem es (leaf p u) k = another (is_name u && sig.flag && is_constructor sig (head_of w)) Right Left (λ z. cc) k

-- ---- lowering a union, of which it is known whether it becomes a set

pub record Sided (gs : List ℕ) (k : Site) (side : Optional Side) : Type 0 where
  pub known : KnownSigned gs k (λ sig. PairAt sig k.ws k.at)
  pub room : RoomAt k k.at
  pub scope_room : ScopeRoomAt k k.at
  pub is : Sides gs k.ws k.at side

module _ {gs : List ℕ} {k : Site} {side : Optional Side} (g : Sided gs k side) where
  asks : {A : Sig → Type 0} → ((sig : Sig) (x : PairAt sig k.ws k.at) → heads sig ≤ limit12 → Signed sig gs → A sig) → Known k A
  asks at = let q = g.known in record { sig = q.sig; known = (at q.sig q.known.0 q.known.1.few q.known.3, q.known.1, q.known.2) }

  -- its left side is the call
  module _ (e : side ≡ Some Left) where
    left : (sig : Sig) (x : PairAt sig k.ws k.at) (few : heads sig ≤ limit12) → Signed sig gs → LeftSet sig k.ws few k.at x
    left sig x few sg = left_is sig k.ws few k.at x (sym e ∙ g.is sig x few sg)

    pub left_asks : Known k (λ sig. ChangeAt sig k.ws 1 k.at)
    left_asks = asks (λ sig x few sg. (left sig x few sg).change)

    pub left_done : {s' cs' : List ℕ} {r : Result Acted Stopped} → LowersChange k (action_word 2) 1 s' cs' r → LowersUnion gs k s' cs' r
    left_done {s'} {cs'} {r} does sig x bound n sc sg =
        let l = left sig x n.few sg in
        let u = lower_union sig bound (union_as_set sig x.left.value x.right.value) x.left.value x.right.value k.cs in
        let i = x.right.inside in
        acts_same sig bound k.scope (length k.ws) u (l.same bound k.cs) does.0 g.scope_room (omega arith) sc
        (subst (λ (size : ℕ). WalkedAt k 0 (Gave r) (done_piece u) size k.at s' cs' (walk_of r)) l.size
        (subst (λ (p : Res Piece). WalkedAt k 0 (Gave r) p (2 + l.change.exprs.size) k.at s' cs' (walk_of r)) (sym (l.piece bound k.cs))
        (does.1 sig l.change bound n sc)))

  -- its right side is
  module _ (e : side ≡ Some Right) where
    right : (sig : Sig) (x : PairAt sig k.ws k.at) (few : heads sig ≤ limit12) → Signed sig gs → RightSet sig k.ws few k.at x
    right sig x few sg = right_is sig k.ws few k.at x (sym e ∙ g.is sig x few sg)

    pub right_asks : Known k (λ sig. NameCallAt sig k.ws k.at)
    right_asks = asks (λ sig x few sg. (right sig x few sg).named)

    pub right_done : {s' cs' : List ℕ} {r : Result Acted Stopped} → SetsName k s' cs' r → LowersUnion gs k s' cs' r
    right_done {s'} {cs'} {r} does sig x bound n sc sg =
        let l = right sig x n.few sg in
        let u = lower_union sig bound (union_as_set sig x.left.value x.right.value) x.left.value x.right.value k.cs in
        subst (λ (size : ℕ). Does k sig bound u size s' cs' r) l.size
        (subst (λ (d : Res Done). Does k sig bound d (3 + l.named.exprs.size) s' cs' r) (sym (l.is bound k.cs)) (does sig l.named bound n sc))

  -- it stays a union
  pub stays_done : {s' cs' : List ℕ} {r : Result Acted Stopped} → side ≡ None → Unites k s' cs' r → LowersUnion gs k s' cs' r
  stays_done {s'} {cs'} {r} e does sig x bound n sc sg =
      subst (λ (o : Option AsSet). Does k sig bound (lower_union sig bound o x.left.value x.right.value k.cs) (1 + (x.left.size + x.right.size)) s' cs' r)
      (sym (stays sig x.left.value x.right.value (sym e ∙ g.is sig x n.few sg))) (does sig x bound n sc)
