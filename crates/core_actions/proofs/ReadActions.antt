-- What an action's code tells of it: from the definition of reading to the cases of the walk. Assumes nothing.
use mathlib.Core.Path.{◌≡◌, refl, sym, ap, ◌∙◌, subst}
use mathlib.Core.Bool.{Bool, true, false, cond, ◌&&◌}
use mathlib.Core.List.{List}
use Prim.Native.Nat.{ℕ, suc, ◌+◌, ◌-◌, ◌*◌, ◌≤◌, ◌<◌}
use native.Mathlib.Numerals.{add-one}
use native.Mathlib.Omega.{arith}
use lib.Dec.{ltb, eqb}
use lib.ListN.{length, get_or}
use borrow.Author.Tests.{ltb-true, ltb-false, lt-ltb, ne_eqb}
use Rattle.rules.specs.Words.{limit12, limit16, max_depth, name_base, head_base, action_base, action_word, head_of, count_of, is_name_word, is_literal_word, is_head_word}
use Rattle.rules.specs.Words.{Code, a_let, a_set, a_delete, a_subsume, a_union, a_panic, a_call, an_expression, no_code, code_of}
use Rattle.rules.specs.Refusals.{ok, ◌>>=◌, unfit}
use Rattle.rules.specs.Signature.{Sig, heads}
use Rattle.rules.specs.Written.{Expr, Exprs, Action, let', set', delete', subsume', union', panic', expr'}
use Rattle.rules.specs.Written.{Read, Reader, Target, read_word, read_many, read_expr, read_target, read_code, code_at, read_action}
use Rattle.meaning.proofs.Results.{bind_ok, ok_inj, refuse_ok, demand_ok}
use Rattle.meaning.proofs.Lists.{and_left, and_right}
use Rattle.meaning.proofs.Reading.{within_low, within_high, head_below, expr_reads}
use Rattle.walks.specs.Steps.{ExprAt}
use Rattle.walks.proofs.Read.{expr_at, exprs_at, exprs_on, many_inside}
use Rattle.actions.specs.Acts.{LetAt, ChangeAt, PairAt}
use Rattle.core_actions.specs.Rows.{ActionAt}
use Rattle.actions.proofs.Pieces.{snoc}
use Rattle.core_actions.proofs.UnionAsSet.{many_snoc}

-- ---- one word

pub record WordRead (ws : List ℕ) (fits : ℕ → Bool) (p : ℕ) (r : Read ℕ) : Type 0 where
  pub inside : p < length ws
  pub passed : fits (get_or ws p 0) ≡ true
  pub value : get_or ws p 0 ≡ r.value
  pub next : suc p ≡ r.at

pub word_read : (ws : List ℕ) (fits : ℕ → Bool) (p : ℕ) (r : Read ℕ) → read_word ws fits p ≡ ok r → WordRead ws fits p r
word_read ws fits p r e =
    let d = demand_ok (ltb p (length ws) && fits (get_or ws p 0)) unfit p _ r e in
    record {
      inside = ltb-true p (length ws) (and_left (ltb p (length ws)) (fits (get_or ws p 0)) d.0);
      passed = and_right (ltb p (length ws)) (fits (get_or ws p 0)) d.0;
      value = ap (λ (x : Read ℕ). x.value) d.1;
      next = ap (λ (x : Read ℕ). x.at) d.1;
    }

module _ (sig : Sig) (ws : List ℕ) where
  -- ---- a reader goes on, and not past the end

  abbrev Moves : {A : Type 0} → Reader A → Type 0
  Moves {A} one = (p : ℕ) (r : Read A) → one p ≡ ok r → (p ≤ r.at) × (r.at ≤ length ws)

  word_moves : (fits : ℕ → Bool) → Moves (read_word ws fits)
  word_moves fits p r e = let i = word_read ws fits p r e in (omega (arith, i.next), omega (arith, i.next, i.inside))

  expr_moves : Moves (read_expr sig ws max_depth)
  expr_moves p r e = let i = expr_reads sig ws max_depth p r e in (omega (arith, i.on), i.inside)

  target_moves : Moves (read_target sig ws)
  target_moves p r e =
      let w = bind_ok (read_word ws (is_head_word (heads sig)) p) _ r e in
      let es = bind_ok (read_many (read_expr sig ws max_depth) (count_of w.0.value) w.0.at) _ r w.2 in
      let i = word_moves (is_head_word (heads sig)) p w.0 w.1 in
      let on = exprs_on sig ws max_depth (count_of w.0.value) w.0.at es.0 es.1 in
      let ends = many_inside (read_expr sig ws max_depth) (length ws) (λ q x h. (expr_moves q x h).1) (count_of w.0.value) w.0.at es.0 i.1 es.1 in
      subst (λ (x : Read Target). (p ≤ x.at) × (x.at ≤ length ws)) (ok_inj _ _ es.2) (omega (arith, i.0), ends)

  -- what is made of one reading, and of one behind another
  made_moves : {A : Type 0} (one : Reader A) (f : Read A → Action) → Moves one → Moves (λ q. ◌>>=◌ (one q) (λ x. ok (record { value = f x; at = x.at })))
  made_moves one f m p r e =
      let x = bind_ok (one p) _ r e in
      subst (λ (y : Read Action). (p ≤ y.at) × (y.at ≤ length ws)) (ok_inj _ _ x.2) (m p x.0 x.1)

  both_moves : {A B : Type 0} (one : Reader A) (two : Reader B) (f : Read A → Read B → Action) → Moves one → Moves two
      → Moves (λ q. ◌>>=◌ (one q) (λ x. ◌>>=◌ (two x.at) (λ y. ok (record { value = f x y; at = y.at }))))
  both_moves one two f m n p r e =
      let x = bind_ok (one p) _ r e in
      let y = bind_ok (two x.0.at) _ r x.2 in
      let i = m p x.0 x.1 in
      let j = n x.0.at y.0 y.1 in
      subst (λ (z : Read Action). (p ≤ z.at) × (z.at ≤ length ws)) (ok_inj _ _ y.2) (omega (arith, i.0, j.0), j.1)

  code_moves : (p : ℕ) (c : Code) → Moves (read_code sig ws p c)
  code_moves p a_let = both_moves (read_word ws is_name_word) (read_expr sig ws max_depth) (λ x y. let' p x.value y.value) (word_moves is_name_word) expr_moves
  code_moves p a_set =
      both_moves (read_target sig ws) (read_expr sig ws max_depth) (λ t y. set' t.value.place t.value.head t.value.args y.value) target_moves expr_moves
  code_moves p a_delete = made_moves (read_target sig ws) (λ t. delete' t.value.place t.value.head t.value.args) target_moves
  code_moves p a_subsume = made_moves (read_target sig ws) (λ t. subsume' t.value.place t.value.head t.value.args) target_moves
  code_moves p a_union = both_moves (read_expr sig ws max_depth) (read_expr sig ws max_depth) (λ x y. union' x.value y.value) expr_moves expr_moves
  code_moves p a_panic = made_moves (read_word ws is_literal_word) (λ x. panic' x.value) (word_moves is_literal_word)
  code_moves p an_expression = made_moves (read_expr sig ws max_depth) (λ x. expr' x.value) expr_moves
  code_moves p a_call = λ q r e. absurd (refuse_ok unfit p r e)
  code_moves p no_code = λ q r e. absurd (refuse_ok unfit p r e)

  forward : (p : ℕ) (r : Read Action) → read_action sig ws p ≡ ok r → p < r.at
  forward p r e = omega (arith, (code_moves p (code_at ws p) (suc p) r e).0)

  pub action_on : (p : ℕ) (r : Read Action) → read_action sig ws p ≡ ok r → p ≤ r.at
  action_on p r e = omega (arith, forward p r e)

  pub action_ends : (p : ℕ) (r : Read Action) → read_action sig ws p ≡ ok r → r.at ≤ length ws
  action_ends p r e = (code_moves p (code_at ws p) (suc p) r e).1

  -- ---- by its code

  module _ (at : ℕ) (x : ActionAt sig ws at) where
    pub action_some : 0 < x.size
    action_some = omega (arith, forward at _ x.reads)

    pub action_inside : at < length ws
    action_inside = omega (arith, action_some, x.inside)

    coded : (c : Code) → code_of (get_or ws at 0) ≡ c → read_code sig ws at c (suc at) ≡ ok (record { value = x.value; at = at + x.size })
    coded c e =
        let here : code_at ws at ≡ c = ap (λ (b : Bool). cond b (code_of (get_or ws at 0)) no_code) (lt-ltb at (length ws) action_inside) ∙ e in
        subst (λ (d : Code). read_code sig ws at d (suc at) ≡ ok (record { value = x.value; at = at + x.size })) here x.reads

    -- a word that is none of the codes that are written
    abbrev Not : ℕ → ℕ → Type 0
    Not w code = w ≡ action_word code → ⊥

    pub no_other : (w : ℕ) → w ≡ get_or ws at 0 → Not w 1 → Not w 2 → Not w 3 → Not w 4 → Not w 5 → Not w 6 → Not w 8 → ⊥
    no_other w is n1 n2 n3 n4 n5 n6 n8 = go (eqb w (action_word 7)) refl
      where
        code : (b : Bool) → eqb w (action_word 7) ≡ b → code_of w ≡ cond b a_call no_code
        code b e =
            rw (
              ne_eqb w (action_word 1) n1,
              ne_eqb w (action_word 2) n2,
              ne_eqb w (action_word 3) n3,
              ne_eqb w (action_word 4) n4,
              ne_eqb w (action_word 5) n5,
              ne_eqb w (action_word 6) n6,
              ne_eqb w (action_word 8) n8,
              e,
            )

        go : (b : Bool) → eqb w (action_word 7) ≡ b → ⊥
        go true e = refuse_ok unfit at _ (coded a_call (ap code_of (sym is) ∙ code true e))
        go false e = refuse_ok unfit at _ (coded no_code (ap code_of (sym is) ∙ code false e))

    pub action_high : action_base ≤ get_or ws at 0
    action_high = go (ltb (get_or ws at 0) action_base) refl
      where
        go : (b : Bool) → ltb (get_or ws at 0) action_base ≡ b → action_base ≤ get_or ws at 0
        go true e =
            let h = ltb-true (get_or ws at 0) action_base e in
            absurd (no_other (get_or ws at 0) refl (λ z. omega arith) (λ z. omega arith) (λ z. omega arith) (λ z. omega arith) (λ z. omega arith) (λ z. omega arith) (λ z. omega arith))
        go false e = ltb-false (get_or ws at 0) action_base e

    module _ (P : Action → ℕ → Type 0) where
      ends : {q : Read Action} → q ≡ record { value = x.value; at = at + x.size } → (k : ℕ) → at + k ≡ q.at → P q.value k → P x.value x.size
      ends {q} e k h p =
          let n : q.at ≡ at + x.size = ap (λ (r : Read Action). r.at) e in
          let m : k ≡ x.size = omega arith in
          subst (P x.value) m (subst (λ (y : Action). P y k) (ap (λ (r : Read Action). r.value) e) p)

      pub let_cases : get_or ws at 0 ≡ action_word 1 → ((y : LetAt sig ws at) → P (let' at (get_or ws (at + 1) 0) y.expr.value) (2 + y.expr.size)) → P x.value x.size
      let_cases e k =
          let c = coded a_let (ap code_of e) in
          let n = bind_ok (read_word ws is_name_word (suc at)) _ _ c in
          let a = bind_ok (read_expr sig ws max_depth n.0.at) _ _ n.2 in
          let w = word_read ws is_name_word (suc at) n.0 n.1 in
          let one : suc at ≡ at + 1 = sym (add-one at) in
          let two : n.0.at ≡ at + 2 = omega (arith, w.next) in
          let y = expr_at sig ws max_depth (at + 2) a.0 (ap (read_expr sig ws max_depth) (sym two) ∙ a.1) in
          let on = (expr_reads sig ws max_depth n.0.at a.0 a.1).on in
          let name : n.0.value ≡ get_or ws (at + 1) 0 = sym w.value ∙ ap (λ (i : ℕ). get_or ws i 0) one in
          let high = within_high name_base limit12 (get_or ws (suc at) 0) w.passed in
          let same : get_or ws (suc at) 0 ≡ get_or ws (at + 1) 0 = ap (λ (i : ℕ). get_or ws i 0) one in
          ends (ok_inj _ _ a.2) (2 + y.size) (omega arith)
          (subst (λ (v : ℕ). P (let' at v a.0.value) (2 + y.size)) (sym name) (k (record { old = omega arith; expr = y })))

      -- the kind 3 word behind the action word, and its arguments
      target_at_lem : (t : Read Target) → read_target sig ws (suc at) ≡ ok t → t.at ≤ length ws → (R : Type 0)
          → ((y : ChangeAt sig ws 0 at) → record { place = at + 1; head = head_of (get_or ws (at + 1) 0); args = y.exprs.value } ≡ t.value → at + 2 + y.exprs.size ≡ t.at → R) → R
      target_at_lem t e inside R k =
          let w = bind_ok (read_word ws (is_head_word (heads sig)) (suc at)) _ t e in
          let es = bind_ok (read_many (read_expr sig ws max_depth) (count_of w.0.value) w.0.at) _ t w.2 in
          let r = word_read ws (is_head_word (heads sig)) (suc at) w.0 w.1 in
          let one : suc at ≡ at + 1 = sym (add-one at) in
          let same : get_or ws (suc at) 0 ≡ get_or ws (at + 1) 0 = ap (λ (i : ℕ). get_or ws i 0) one in
          let name : w.0.value ≡ get_or ws (at + 1) 0 = sym r.value ∙ same in
          let two : w.0.at ≡ at + 2 = omega (arith, r.next) in
          let is = ok_inj _ _ es.2 in
          let fin : es.0.at ≡ t.at = ap (λ (x : Read Target). x.at) is in
          let count : count_of w.0.value ≡ count_of (get_or ws (at + 1) 0) + 0 = ap count_of name ∙ plus (count_of (get_or ws (at + 1) 0)) in
          let reads : read_many (read_expr sig ws max_depth) (count_of (get_or ws (at + 1) 0) + 0) (at + 2) ≡ ok es.0 =
          (λ i. read_many (read_expr sig ws max_depth) (sym count i) (sym two i)) ∙ es.1 in
          let y = exprs_at sig ws max_depth (count_of (get_or ws (at + 1) 0) + 0) (at + 2) es.0 reads (omega arith) in
          let on = exprs_on sig ws max_depth (count_of (get_or ws (at + 1) 0) + 0) (at + 2) es.0 reads in
          let low = within_low head_base (heads sig * limit16) (get_or ws (suc at) 0) r.passed in
          let hd = head_below (heads sig) (get_or ws (suc at) 0) r.passed in
          k
          (record {
            high = omega arith;
            head = subst (λ (u : ℕ). head_of u < heads sig) same hd;
            exprs = y;
          })
          ((λ i. record { place = sym one i; head = head_of (sym name i); args = es.0.value }) ∙ ap (λ (x : Read Target). x.value) is) (omega arith)
        where
          plus : (n : ℕ) → n ≡ n + 0
          plus n = omega arith

      pub set_cases : get_or ws at 0 ≡ action_word 2
          → ((y : ChangeAt sig ws 1 at) (es : Exprs) (e : Expr) → y.exprs.value ≡ snoc es e
          → P (set' (at + 1) (head_of (get_or ws (at + 1) 0)) es e) (2 + y.exprs.size)) → P x.value x.size
      set_cases e k =
          let c = coded a_set (ap code_of e) in
          let t = bind_ok (read_target sig ws (suc at)) _ _ c in
          let a = bind_ok (read_expr sig ws max_depth t.0.at) _ _ t.2 in
          let r = expr_reads sig ws max_depth t.0.at a.0 a.1 in
          target_at_lem t.0 t.1 (omega (arith, r.on, r.inside)) (P x.value x.size) (λ y is en. fin t.0 a.0 a.1 (ok_inj _ _ a.2) y is en)
        where
          fin : (t : Read Target) (a : Read Expr) → read_expr sig ws max_depth t.at ≡ ok a
              → ◌≡◌ {A = Read Action} (record { value = set' t.value.place t.value.head t.value.args a.value; at = a.at }) (record { value = x.value; at = at + x.size })
              → (y : ChangeAt sig ws 0 at) → record { place = at + 1; head = head_of (get_or ws (at + 1) 0); args = y.exprs.value } ≡ t.value
              → at + 2 + y.exprs.size ≡ t.at → P x.value x.size
          fin t a e is y et en =
              let n : ℕ = count_of (get_or ws (at + 1) 0) in
              let zero' : n + 0 ≡ n = omega arith in
              let r = expr_reads sig ws max_depth t.at a e in
              let r1 : read_many (read_expr sig ws max_depth) n (at + 2) ≡ ok (record { value = y.exprs.value; at = at + 2 + y.exprs.size }) =
              subst (λ (i : ℕ). read_many (read_expr sig ws max_depth) i (at + 2) ≡ ok (record { value = y.exprs.value; at = at + 2 + y.exprs.size })) zero' y.exprs.reads in
              let r2 : read_expr sig ws max_depth (at + 2 + y.exprs.size) ≡ ok a = ap (read_expr sig ws max_depth) en ∙ e in
              let r3 = many_snoc (read_expr sig ws max_depth) n (at + 2) _ _ r1 r2 in
              let size : ℕ = a.at - (at + 2) in
              let more : a.at ≡ at + 2 + size = omega (arith, r.on) in
              let z : ChangeAt sig ws 1 at =
              record {
                high = y.high;
                head = y.head;
                exprs =
                    record {
                      value = snoc y.exprs.value a.value;
                      size = size;
                      reads = r3 ∙ (λ i. ok (record { value = snoc y.exprs.value a.value; at = more i }));
                      inside = omega (arith, r.inside);
                    };
              } in
              ends is (2 + size) (omega arith)
              (subst (λ (u : Target). P (set' u.place u.head u.args a.value) (2 + size)) et (k z y.exprs.value a.value refl))

      -- a delete or a subsume, C, is what is made of its kind 3 word and its arguments
      change_cases : (C : ℕ → ℕ → Exprs → Action)
          → ◌>>=◌ {B = Read Action} (read_target sig ws (suc at)) (λ t. ok (record { value = C t.value.place t.value.head t.value.args; at = t.at }))
          ≡ ok (record { value = x.value; at = at + x.size })
          → ((y : ChangeAt sig ws 0 at) → P (C (at + 1) (head_of (get_or ws (at + 1) 0)) y.exprs.value) (2 + y.exprs.size)) → P x.value x.size
      change_cases C e k =
          let t = bind_ok (read_target sig ws (suc at)) _ _ e in
          let is = ok_inj _ _ t.2 in
          let n : t.0.at ≡ at + x.size = ap (λ (r : Read Action). r.at) is in
          target_at_lem t.0 t.1 (omega (arith, x.inside)) (P x.value x.size)
          (λ y et en. ends is (2 + y.exprs.size) (sum y.exprs.size t.0.at en)
          (subst (λ (u : Target). P (C u.place u.head u.args) (2 + y.exprs.size)) et (k y)))
        where
          sum : (n e : ℕ) → at + 2 + n ≡ e → at + (2 + n) ≡ e
          sum n e h = omega arith

      pub delete_cases : get_or ws at 0 ≡ action_word 3
          → ((y : ChangeAt sig ws 0 at) → P (delete' (at + 1) (head_of (get_or ws (at + 1) 0)) y.exprs.value) (2 + y.exprs.size)) → P x.value x.size
      delete_cases e = change_cases delete' (coded a_delete (ap code_of e))

      pub subsume_cases : get_or ws at 0 ≡ action_word 4
          → ((y : ChangeAt sig ws 0 at) → P (subsume' (at + 1) (head_of (get_or ws (at + 1) 0)) y.exprs.value) (2 + y.exprs.size)) → P x.value x.size
      subsume_cases e = change_cases subsume' (coded a_subsume (ap code_of e))

      pub union_cases : get_or ws at 0 ≡ action_word 5
          → ((y : PairAt sig ws at) → P (union' y.left.value y.right.value) (1 + (y.left.size + y.right.size))) → P x.value x.size
      union_cases e k =
          let c = coded a_union (ap code_of e) in
          let a = bind_ok (read_expr sig ws max_depth (suc at)) _ _ c in
          let b = bind_ok (read_expr sig ws max_depth a.0.at) _ _ a.2 in
          let on = (expr_reads sig ws max_depth (suc at) a.0 a.1).on in
          let on2 = (expr_reads sig ws max_depth a.0.at b.0 b.1).on in
          let l = expr_at sig ws max_depth (at + 1) a.0 (ap (read_expr sig ws max_depth) (add-one at) ∙ a.1) in
          let here : at + 1 + l.size ≡ a.0.at = omega arith in
          let r = expr_at sig ws max_depth (at + 1 + l.size) b.0 (ap (read_expr sig ws max_depth) here ∙ b.1) in
          ends (ok_inj _ _ b.2) (1 + (l.size + r.size)) (omega arith) (k (record { left = l; right = r }))

      pub panic_cases : get_or ws at 0 ≡ action_word 6 → (at + 1 < length ws → P (panic' (get_or ws (at + 1) 0)) 2) → P x.value x.size
      panic_cases e k =
          let c = coded a_panic (ap code_of e) in
          let n = bind_ok (read_word ws is_literal_word (suc at)) _ _ c in
          let w = word_read ws is_literal_word (suc at) n.0 n.1 in
          let name : n.0.value ≡ get_or ws (at + 1) 0 = sym w.value ∙ ap (λ (i : ℕ). get_or ws i 0) (sym (add-one at)) in
          ends (ok_inj _ _ n.2) 2 (omega (arith, w.next)) (subst (λ (v : ℕ). P (panic' v) 2) (sym name) (k (omega (arith, w.inside))))

      pub expression_cases : get_or ws at 0 ≡ action_word 8 → ((y : ExprAt sig ws max_depth (at + 1)) → P (expr' y.value) (1 + y.size)) → P x.value x.size
      expression_cases e k =
          let c = coded an_expression (ap code_of e) in
          let a = bind_ok (read_expr sig ws max_depth (suc at)) _ _ c in
          let on = (expr_reads sig ws max_depth (suc at) a.0 a.1).on in
          let y = expr_at sig ws max_depth (at + 1) a.0 (ap (read_expr sig ws max_depth) (add-one at) ∙ a.1) in
          ends (ok_inj _ _ a.2) (1 + y.size) (omega arith) (k y)
