-- What the words of a head say: the first word that is a given variable is a target or not, just as `free_in` tells from the actions that are read there.
-- Assumes nothing.
use Prim.Native.Nat.{ℕ, zero, suc, ◌+◌, ◌*◌, ◌≤◌, ◌<◌}
use native.Mathlib.Omega.{arith}
use mathlib.Core.Bool.{Bool, true, false, not, cond, ◌&&◌, ◌||◌, or_assoc}
use mathlib.Core.List.{List, ◌∷◌}
use mathlib.Core.Path.{◌≡◌, refl, sym, ap, ap₂, ◌∙◌, subst}
use lib.Dec.{leb, ltb, eqb}
use lib.ListN.{length, get_or, drop, drop_of_length-le}
use lib.Seq.{drop-cons}
use borrow.Author.Tests.{ltb-true, leb-true, eqb-true, ne_eqb}
use Rattle.rules.specs.Flat.{CoreAction, is_target, is_term, read_term, Terms, read_terms, read_core_code, read_core_action}
use Rattle.rules.specs.Refusals.{ok, unfit}
use Rattle.rules.specs.Signature.{Sig, heads, is_fresh, is_var, elem}
use Rattle.rules.specs.Words.{limit12, limit16, fresh_base, name_base, literal_base, head_base, action_word, is_name_word, is_literal_word, is_fresh_word, is_head_word, count_of}
use Rattle.rules.specs.Words.{Code, a_let, a_set, a_delete, a_subsume, a_union, a_panic, a_call, an_expression, no_code, code_of}
use Rattle.rules.specs.Written.{Read, read_word, read_row}
use Rattle.meaning.proofs.Lists.{and_left, and_right}
use Rattle.meaning.proofs.Reading.{within_low, within_high}
use Rattle.meaning.proofs.Results.{bind_ok, ok_inj, refuse_ok, demand_ok}
use Rattle.free_vars.specs.First.{binds, free_first}
use Rattle.free_vars.specs.Head.{Actions}
use Rattle.free_vars.proofs.Free.{target_is, used, free_in}

-- ---- words

-- a word that passed a test: what it is, and what is behind it
pub record Took (ws : List ℕ) (fits : ℕ → Bool) (p : ℕ) (q : Read ℕ) : Type 0 where
  pub inside : p < length ws
  pub at : suc p ≡ q.at
  pub is : get_or ws p 0 ≡ q.value
  pub stands : drop p ws ≡ q.value ∷ drop q.at ws
  pub fit : fits q.value ≡ true

pub word_took : (ws : List ℕ) (fits : ℕ → Bool) (p : ℕ) (q : Read ℕ) → read_word ws fits p ≡ ok q → Took ws fits p q
word_took ws fits p q k =
    let d = demand_ok (ltb p (length ws) && fits (get_or ws p 0)) unfit p _ q k in
    let l = ltb-true p (length ws) (and_left (ltb p (length ws)) (fits (get_or ws p 0)) d.0) in
    subst (Took ws fits p) d.1
    (record { inside = l; at = refl; is = refl; stands = drop-cons ws p 0 l; fit = and_right (ltb p (length ws)) (fits (get_or ws p 0)) d.0 })

-- only an action's word binds
no_binding : (w : ℕ) → head_base ≤ w → binds w ≡ false
no_binding w h = ap₂ ◌||◌ (ne_eqb w (action_word 1) (λ e. omega arith)) (ne_eqb w (action_word 7) (λ e. omega arith))

target_high : (s : Sig) (w : ℕ) → is_target s w ≡ true → head_base ≤ w
target_high s w = go (is_fresh_word (heads s) w) refl
  where
    go : (b : Bool) → is_fresh_word (heads s) w ≡ b → (b || is_name_word w) ≡ true → head_base ≤ w
    go true e k = omega (arith, within_low fresh_base (heads s * limit16) w e)
    go false e k = omega (arith, within_low name_base limit12 w k)

term_high : (s : Sig) (w : ℕ) → is_term s w ≡ true → head_base ≤ w
term_high s w = go (is_target s w) refl
  where
    go : (b : Bool) → is_target s w ≡ b → (b || is_literal_word w) ≡ true → head_base ≤ w
    go true e k = target_high s w e
    go false e k = omega (arith, within_low literal_base limit16 w k)

var_high : (s : Sig) (v : ℕ) → is_var s v ≡ true → name_base ≤ v
var_high s v = go (is_fresh v) refl
  where
    go : (b : Bool) → is_fresh v ≡ b → (b || leb (name_base + s.globals) v) ≡ true → name_base ≤ v
    go true e k = omega (arith, leb-true fresh_base v e)
    go false e k = omega (arith, leb-true (name_base + s.globals) v k)

-- what a code says of its word
abbrev Says : ℕ → Code → Type 0
Says w a_let = w ≡ action_word 1
Says w a_set = w ≡ action_word 2
Says w a_delete = w ≡ action_word 3
Says w a_subsume = w ≡ action_word 4
Says w a_union = w ≡ action_word 5
Says w a_panic = w ≡ action_word 6
Says w a_call = w ≡ action_word 7
Says w an_expression = w ≡ action_word 8
Says w no_code = Unit {0}

code_says : (w : ℕ) → Says w (code_of w)
code_says w =
    go 1 a_let _ (λ e. e) (go 2 a_set _ (λ e. e) (go 3 a_delete _ (λ e. e) (go 4 a_subsume _ (λ e. e) (go 5 a_union _ (λ e. e)
    (go 6 a_panic _ (λ e. e) (go 7 a_call _ (λ e. e) (go 8 an_expression no_code (λ e. e) tt)))))))
  where
    go : (n : ℕ) (c rest : Code) → (w ≡ action_word n → Says w c) → Says w rest → Says w (cond (eqb w (action_word n)) c rest)
    go n c rest f k = by (eqb w (action_word n)) refl
      where
        by : (b : Bool) → eqb w (action_word n) ≡ b → Says w (cond b c rest)
        by true e = f (eqb-true w (action_word n) e)
        by false e = k

-- ---- a variable v, followed through the words

module _ (s : Sig) (ws : List ℕ) (few : heads s ≤ limit12) (v : ℕ) (var : is_var s v ≡ true) where
  -- from p on the answer is R, whatever the word before; and if that word does not bind
  abbrev Begins : Bool → ℕ → Type 0
  Begins R p = (last : ℕ) → free_first v last (drop p ws) ≡ R

  abbrev Goes : Bool → ℕ → Type 0
  Goes R p = (last : ℕ) → binds last ≡ false → free_first v last (drop p ws) ≡ R

  -- a term answers, or is passed
  term_goes : (p : ℕ) (q : Read ℕ) (R : Bool) → read_term s ws p ≡ ok q → Goes R q.at → Goes (eqb v q.value || R) p
  term_goes p q R k rest last free =
      let t = word_took ws (is_term s) p q k in
      ap (free_first v last) t.stands ∙ go (eqb v q.value) (rest q.value (no_binding q.value (term_high s q.value t.fit)))
    where
      go : (b : Bool) → free_first v q.value (drop q.at ws) ≡ R → cond b (not (binds last)) (free_first v q.value (drop q.at ws)) ≡ (b || R)
      go true e = ap not free
      go false e = e

  row_goes : (n p : ℕ) (q : Read (List ℕ)) (R : Bool) → read_row (read_term s ws) n p ≡ ok q → Goes R q.at → Goes (elem v q.value || R) p
  row_goes zero p q R k = subst (λ (x : Read (List ℕ)). Goes R x.at → Goes (elem v x.value || R) p) (ok_inj _ _ k) (λ rest. rest)
  row_goes (suc n) p q R k =
      let a = bind_ok (read_term s ws p) _ q k in
      let b = bind_ok (read_row (read_term s ws) n a.0.at) _ q a.2 in
      subst (λ (x : Read (List ℕ)). Goes R x.at → Goes (elem v x.value || R) p) (ok_inj _ _ b.2)
      (λ rest last free. term_goes p a.0 (elem v b.0.value || R) a.1 (row_goes n a.0.at b.0 R b.1 rest) last free
      ∙ sym (or_assoc (eqb v a.0.value) (elem v b.0.value) R))

  -- a word that is not v
  passed : (w p r : ℕ) (R : Bool) → drop p ws ≡ w ∷ drop r ws → w < name_base → free_first v w (drop r ws) ≡ R → Begins R p
  passed w p r R e h k last =
      ap (free_first v last) e ∙ ap (λ (b : Bool). cond b (not (binds last)) (free_first v w (drop r ws))) (ne_eqb v w (λ f. omega (arith, var_high s v var))) ∙ k

  -- a target answers behind its action's word
  target_goes : (p : ℕ) (q : Read ℕ) (R : Bool) (last : ℕ) → binds last ≡ true → read_word ws (is_target s) p ≡ ok q → Goes R q.at
      → free_first v last (drop p ws) ≡ cond (eqb v q.value) false R
  target_goes p q R last bound k rest =
      let t = word_took ws (is_target s) p q k in
      ap (free_first v last) t.stands
      ∙ ap₂ (cond (eqb v q.value)) (ap not bound) (rest q.value (no_binding q.value (target_high s q.value t.fit)))

  -- a kind 3 word is passed
  terms_begin : (p : ℕ) (q : Read Terms) (R : Bool) → read_terms s ws p ≡ ok q → Goes R q.at → Begins (elem v q.value.terms || R) p
  terms_begin p q R k =
      let a = bind_ok (read_word ws (is_head_word (heads s)) p) _ q k in
      let b = bind_ok (read_row (read_term s ws) (count_of a.0.value) a.0.at) _ q a.2 in
      let t = word_took ws (is_head_word (heads s)) p a.0 a.1 in
      let w : ℕ = a.0.value in
      let low = within_low head_base (heads s * limit16) w t.fit in
      let high = within_high head_base (heads s * limit16) w t.fit in
      subst (λ (x : Read Terms). Goes R x.at → Begins (elem v x.value.terms || R) p) (ok_inj _ _ b.2)
      (λ rest. passed w p a.0.at (elem v b.0.value || R) t.stands (below w few high)
      (row_goes (count_of w) a.0.at b.0 R b.1 rest w (no_binding w low)))
    where
      below : (w : ℕ) → heads s ≤ limit12 → w < head_base + heads s * limit16 → w < name_base
      below w h k = omega arith

  -- an action
  abbrev Acts : ℕ → Read CoreAction → Type 0
  Acts p x = (R : Bool) → Begins R x.at → Begins (cond (target_is v x.value) false (used v x.value || R)) p

  -- behind the word of an action n, which is at p
  behind : (n p : ℕ) (R : Bool) → p < length ws → get_or ws p 0 ≡ action_word n → n ≤ 8 → free_first v (action_word n) (drop (suc p) ws) ≡ R → Begins R p
  behind n p R h e few8 k = passed (action_word n) p (suc p) R (drop-cons ws p 0 h ∙ ap (λ (w : ℕ). w ∷ drop (suc p) ws) e) (omega arith) k

  code_acts : (p : ℕ) (c : Code) (q : Read CoreAction) → p < length ws → Says (get_or ws p 0) c → read_core_code s ws p c (suc p) ≡ ok q → Acts p q
  code_acts p a_let q h e k =
      let x = bind_ok (read_word ws (is_target s) (suc p)) _ q k in
      let t = bind_ok (read_term s ws x.0.at) _ q x.2 in
      subst (Acts p) (ok_inj _ _ t.2)
      (λ R rest. behind 1 p _ h e (omega arith)
      (target_goes (suc p) x.0 (eqb v t.0.value || R) (action_word 1) refl x.1 (term_goes x.0.at t.0 R t.1 (λ last _. rest last))))
  code_acts p a_set q h e k =
      let c = bind_ok (read_terms s ws (suc p)) _ q k in
      let t = bind_ok (read_term s ws c.0.at) _ q c.2 in
      subst (Acts p) (ok_inj _ _ t.2)
      (λ R rest. behind 2 p _ h e (omega arith)
      (terms_begin (suc p) c.0 (eqb v t.0.value || R) c.1 (term_goes c.0.at t.0 R t.1 (λ last _. rest last)) (action_word 2)
      ∙ sym (or_assoc (elem v c.0.value.terms) (eqb v t.0.value) R)))
  code_acts p a_delete q h e k =
      let c = bind_ok (read_terms s ws (suc p)) _ q k in
      subst (Acts p) (ok_inj _ _ c.2) (λ R rest. behind 3 p _ h e (omega arith) (terms_begin (suc p) c.0 R c.1 (λ last _. rest last) (action_word 3)))
  code_acts p a_subsume q h e k =
      let c = bind_ok (read_terms s ws (suc p)) _ q k in
      subst (Acts p) (ok_inj _ _ c.2) (λ R rest. behind 4 p _ h e (omega arith) (terms_begin (suc p) c.0 R c.1 (λ last _. rest last) (action_word 4)))
  code_acts p a_union q h e k =
      let a = bind_ok (read_term s ws (suc p)) _ q k in
      let b = bind_ok (read_term s ws a.0.at) _ q a.2 in
      subst (Acts p) (ok_inj _ _ b.2)
      (λ R rest. behind 5 p _ h e (omega arith)
      (term_goes (suc p) a.0 (eqb v b.0.value || R) a.1 (term_goes a.0.at b.0 R b.1 (λ last _. rest last)) (action_word 5) refl
      ∙ sym (or_assoc (eqb v a.0.value) (eqb v b.0.value) R)))
  code_acts p a_panic q h e k =
      let l = bind_ok (read_word ws is_literal_word (suc p)) _ q k in
      let t = word_took ws is_literal_word (suc p) l.0 l.1 in
      let low : l.0.value < name_base = omega (arith, within_high literal_base limit16 l.0.value t.fit) in
      subst (Acts p) (ok_inj _ _ l.2)
      (λ R rest. behind 6 p R h e (omega arith) (passed l.0.value (suc p) l.0.at R t.stands low (rest l.0.value) (action_word 6)))
  code_acts p a_call q h e k =
      let x = bind_ok (read_word ws (is_target s) (suc p)) _ q k in
      let c = bind_ok (read_terms s ws x.0.at) _ q x.2 in
      subst (Acts p) (ok_inj _ _ c.2)
      (λ R rest. behind 7 p _ h e (omega arith)
      (target_goes (suc p) x.0 (elem v c.0.value.terms || R) (action_word 7) refl x.1
      (λ last _. terms_begin x.0.at c.0 R c.1 (λ last _. rest last) last)))
  code_acts p an_expression q h e k = absurd (refuse_ok unfit p q k)
  code_acts p no_code q h e k = absurd (refuse_ok unfit p q k)

  action_acts : (p : ℕ) (q : Read CoreAction) → read_core_action s ws p ≡ ok q → Acts p q
  action_acts p q k = go (ltb p (length ws)) refl k
    where
      go : (b : Bool) → ltb p (length ws) ≡ b → read_core_code s ws p (cond b (code_of (get_or ws p 0)) no_code) (suc p) ≡ ok q → Acts p q
      go true e k = code_acts p (code_of (get_or ws p 0)) q (ltb-true p (length ws) e) (code_says (get_or ws p 0)) k
      go false e k = absurd (refuse_ok unfit p q k)

  actions_begin : (n p : ℕ) (q : Read (List CoreAction)) → read_row (read_core_action s ws) n p ≡ ok q → Begins false q.at → Begins (free_in v q.value) p
  actions_begin zero p q k = subst (λ (x : Read (List CoreAction)). Begins false x.at → Begins (free_in v x.value) p) (ok_inj _ _ k) (λ rest. rest)
  actions_begin (suc n) p q k =
      let a = bind_ok (read_core_action s ws p) _ q k in
      let b = bind_ok (read_row (read_core_action s ws) n a.0.at) _ q a.2 in
      subst (λ (x : Read (List CoreAction)). Begins false x.at → Begins (free_in v x.value) p) (ok_inj _ _ b.2)
      (λ rest. action_acts p a.0 a.1 (free_in v b.0.value) (actions_begin n a.0.at b.0 b.1 rest))

-- a variable is free in the actions if its first word in the head is no target
pub first_is_free : (s : Sig) (ws : List ℕ) (from : ℕ) (xs : List CoreAction) (v last : ℕ) → Actions s ws from xs → is_var s v ≡ true
    → free_first v last (drop from ws) ≡ free_in v xs
first_is_free s ws from xs v last a var =
    actions_begin s ws a.few v var a.some from (record { value = xs; at = a.end }) a.read (λ l. ap (free_first v l) (drop_of_length-le ws a.all)) last
