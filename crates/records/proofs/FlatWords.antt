-- A flat rule that reads well is spelled by its words: what was read gives the record's words back. Assumes nothing.
use mathlib.Core.Path.{◌≡◌, refl, sym, ap, subst, ◌∙◌}
use mathlib.Core.Bool.{Bool, true, false, ◌&&◌, cond}
use mathlib.Core.List.{List, [], ◌∷◌, ◌++◌, append_assoc, append-nil}
use Prim.Native.Nat.{ℕ, zero, suc, ◌-◌, ◌*◌}
use native.Mathlib.Omega.{arith}
use lib.ListN.{length, get_or, drop, drop_of_length-le}
use lib.Seq.{drop-cons}
use lib.Dec.{ltb, leb, eqb}
use borrow.Author.Tests.{ltb-true, leb-true, eqb-true, eqb-false}
use Rattle.rules.specs.Refusals.{ok, demand, unfit}
use Rattle.rules.specs.Signature.{Sig, heads}
use Rattle.rules.specs.Words.{limit12, limit16, head_base, header_base, head_word, header_word, equality_word, action_word, is_head_word, is_equality_word}
use Rattle.rules.specs.Words.{is_literal_word, is_header_word, head_of, count_of, facts_of, actions_of}
use Rattle.rules.specs.Words.{Code, a_let, a_set, a_delete, a_subsume, a_union, a_panic, a_call, an_expression, no_code, code_of}
use Rattle.rules.specs.Written.{Read, Reader, read_word, read_row}
use Rattle.rules.specs.Flat.{Atom, CoreAction, FlatRule, Terms, is_target, read_terms, read_core_code, read_core_action, read_flat, action_words}
use Rattle.rules.specs.Flat.{is_pair, is_odd, is_table, is_empty, is_none, is_term, read_term, read_atom_shape, read_atom, atom_words, words_of}
use Rattle.words.proofs.Ranges.{within_true}
use Rattle.meaning.proofs.Results.{ok_inj, bind_ok, demand_ok}

-- what a reader reads from p on is spelled there
abbrev pub Spelled : {A : Type 0} → (A → List ℕ) → List ℕ → Reader A → Type 0
Spelled {A} f ws one = (p : ℕ) (r : Read A) → one p ≡ ok r → drop p ws ≡ f r.value ++ drop r.at ws

abbrev single : ℕ → List ℕ
single w = w ∷ []

module _ (ws : List ℕ) where
  -- a word that was read
  pub word_read : (fits : ℕ → Bool) (p : ℕ) (r : Read ℕ) → read_word ws fits p ≡ ok r
      → (r.value ≡ get_or ws p 0) × (r.at ≡ suc p) × (fits (get_or ws p 0) ≡ true) × (drop p ws ≡ get_or ws p 0 ∷ drop (suc p) ws)
  word_read fits p r e = go (ltb p (length ws)) refl (fits (get_or ws p 0)) refl e
    where
      go : (a : Bool) → ltb p (length ws) ≡ a → (b : Bool) → fits (get_or ws p 0) ≡ b → demand (a && b) unfit p (record { value = get_or ws p 0; at = suc p }) ≡ ok r
          → (r.value ≡ get_or ws p 0) × (r.at ≡ suc p) × (fits (get_or ws p 0) ≡ true) × (drop p ws ≡ get_or ws p 0 ∷ drop (suc p) ws)
      go true ea true eb k =
          let same = ok_inj (record { value = get_or ws p 0; at = suc p }) r k in
          (sym (ap (λ (x : Read ℕ). x.value) same), sym (ap (λ (x : Read ℕ). x.at) same), eb, drop-cons ws p 0 (ltb-true p (length ws) ea))
      go true ea false eb k = let z : ◌≡◌ {A = ℕ} 0 1 = cc in absurd (omega arith)
      go false ea b eb k = let z : ◌≡◌ {A = ℕ} 0 1 = cc in absurd (omega arith)

  pub word_spelled : (fits : ℕ → Bool) → Spelled single ws (read_word ws fits)
  word_spelled fits p r e = let k = word_read fits p r e in rw (k.0, k.1) k.3

  pub row_spelled : {A : Type 0} (f : A → List ℕ) (one : Reader A) → Spelled f ws one → (n p : ℕ) (r : Read (List A)) → read_row one n p ≡ ok r
      → (drop p ws ≡ words_of f r.value ++ drop r.at ws) × (length r.value ≡ n)
  row_spelled {A} f one h zero p r e = subst (λ (x : Read (List A)). (drop p ws ≡ words_of f x.value ++ drop x.at ws) × (length x.value ≡ 0)) (ok_inj _ _ e) (refl, refl)
  row_spelled {A} f one h (suc n) p r e =
      let a = bind_ok (one p) _ r e in
      let b = bind_ok (read_row one n a.0.at) _ r a.2 in
      let k = row_spelled f one h n a.0.at b.0 b.1 in
      subst (λ (x : Read (List A)). (drop p ws ≡ words_of f x.value ++ drop x.at ws) × (length x.value ≡ suc n)) (ok_inj _ _ b.2)
      (h p a.0 a.1 ∙ ap (λ (l : List ℕ). f a.0.value ++ l) k.0 ∙ sym (append_assoc (f a.0.value) (words_of f b.0.value) (drop b.0.at ws)), ap suc k.1)

  words_of_single : (ts : List ℕ) → words_of single ts ≡ ts
  words_of_single [] = refl
  words_of_single (t ∷ ts) = ap (λ (l : List ℕ). t ∷ l) (words_of_single ts)

  -- a row of terms is spelled by the terms
  pub terms_spelled : (s : Sig) (n p : ℕ) (r : Read (List ℕ)) → read_row (read_term s ws) n p ≡ ok r → (drop p ws ≡ r.value ++ drop r.at ws) × (length r.value ≡ n)
  terms_spelled s n p r e =
      let k = row_spelled single (read_term s ws) (word_spelled (is_term s)) n p r e in
      (k.0 ∙ ap (λ (l : List ℕ). l ++ drop r.at ws) (words_of_single r.value), k.1)

  -- ---- atoms

  -- a kind 3 word is spelled by its head and its count
  head_spelled : (s : Sig) (w n : ℕ) → is_head_word (heads s) w ≡ true → n ≡ count_of w → head_word (head_of w) n ≡ w
  head_spelled s w n e c = let r = within_true head_base (heads s * limit16) w e in omega arith

  module _ (s : Sig) where
    pair_spelled : (p : ℕ) (r : Read Atom) → drop p ws ≡ equality_word ∷ drop (suc p) ws → read_atom_shape s ws is_pair (get_or ws p 0) p ≡ ok r
        → drop p ws ≡ atom_words r.value ++ drop r.at ws
    pair_spelled p r here e =
        let a = bind_ok (read_term s ws (suc p)) _ r e in
        let b = bind_ok (read_term s ws a.0.at) _ r a.2 in
        let x = word_spelled (is_term s) (suc p) a.0 a.1 in
        let y = word_spelled (is_term s) a.0.at b.0 b.1 in
        subst (λ (q : Read Atom). drop p ws ≡ atom_words q.value ++ drop q.at ws) (ok_inj _ _ b.2) (cc)

    table_spelled : (p : ℕ) (r : Read Atom) → drop p ws ≡ get_or ws p 0 ∷ drop (suc p) ws → is_head_word (heads s) (get_or ws p 0) ≡ true → ¬ (count_of (get_or ws p 0) ≡ 0)
        → read_atom_shape s ws is_table (get_or ws p 0) p ≡ ok r → drop p ws ≡ atom_words r.value ++ drop r.at ws
    table_spelled p r here head some e =
        let w = get_or ws p 0 in
        let a = bind_ok (read_row (read_term s ws) (count_of w - 1) (suc p)) _ r e in
        let b = bind_ok (read_term s ws a.0.at) _ r a.2 in
        let x = terms_spelled s (count_of w - 1) (suc p) a.0 a.1 in
        let y = word_spelled (is_term s) a.0.at b.0 b.1 in
        let word = head_spelled s w (suc (length a.0.value)) head (omega arith) in
        subst (λ (q : Read Atom). drop p ws ≡ atom_words q.value ++ drop q.at ws) (ok_inj _ _ b.2)
        (here ∙ (λ i. sym word i ∷ (x.0 ∙ ap (λ (l : List ℕ). a.0.value ++ l) y ∙ sym (append_assoc a.0.value (b.0.value ∷ []) (drop b.0.at ws))) i))

    pub atom_spelled : Spelled atom_words ws (read_atom s ws)
    atom_spelled p r e =
        go (ltb p (length ws)) refl (is_equality_word (get_or ws p 0)) (eqb (get_or ws p 0) equality_word) refl (is_head_word (heads s) (get_or ws p 0)) refl (eqb (count_of (get_or ws p 0)) 0) refl e
      where
        go : (i : Bool) → ltb p (length ws) ≡ i → (q two : Bool) → eqb (get_or ws p 0) equality_word ≡ two → (h : Bool) → is_head_word (heads s) (get_or ws p 0) ≡ h
            → (n : Bool) → eqb (count_of (get_or ws p 0)) 0 ≡ n
            → read_atom_shape s ws (cond i (cond q (cond two is_pair is_odd) (cond h (cond n is_empty is_table) is_none)) is_none) (get_or ws p 0) p ≡ ok r
            → drop p ws ≡ atom_words r.value ++ drop r.at ws
        go true i true true t h eh n en k = pair_spelled p r (drop-cons ws p 0 (ltb-true p (length ws) i) ∙ ap (λ x. x ∷ drop (suc p) ws) (eqb-true (get_or ws p 0) equality_word t)) k
        go true i true false t h eh n en k = let z : ◌≡◌ {A = ℕ} 0 1 = cc in absurd (omega arith)
        go true i false two t true eh true en k = let z : ◌≡◌ {A = ℕ} 0 1 = cc in absurd (omega arith)
        go true i false two t true eh false en k = table_spelled p r (drop-cons ws p 0 (ltb-true p (length ws) i)) eh (eqb-false (count_of (get_or ws p 0)) 0 en) k
        go true i false two t false eh n en k = let z : ◌≡◌ {A = ℕ} 0 1 = cc in absurd (omega arith)
        go false i q two t h eh n en k = let z : ◌≡◌ {A = ℕ} 0 1 = cc in absurd (omega arith)

-- ---- actions

-- the word of each code; a word without one may be any
abbrev Coded : ℕ → Code → Type 0
Coded w a_let = w ≡ action_word 1
Coded w a_set = w ≡ action_word 2
Coded w a_delete = w ≡ action_word 3
Coded w a_subsume = w ≡ action_word 4
Coded w a_union = w ≡ action_word 5
Coded w a_panic = w ≡ action_word 6
Coded w a_call = w ≡ action_word 7
Coded w an_expression = w ≡ action_word 8
Coded w no_code = w ≡ w

coded : (w : ℕ) → Coded w (code_of w)
coded w =
    go 1 a_let _ (λ e. e) (go 2 a_set _ (λ e. e) (go 3 a_delete _ (λ e. e) (go 4 a_subsume _ (λ e. e) (go 5 a_union _ (λ e. e)
    (go 6 a_panic _ (λ e. e) (go 7 a_call _ (λ e. e) (go 8 an_expression no_code (λ e. e) refl)))))))
  where
    go : (n : ℕ) (c rest : Code) → (w ≡ action_word n → Coded w c) → Coded w rest → Coded w (cond (eqb w (action_word n)) c rest)
    go n c rest f k = by (eqb w (action_word n)) refl
      where
        by : (b : Bool) → eqb w (action_word n) ≡ b → Coded w (cond b c rest)
        by true e = f (eqb-true w (action_word n) e)
        by false e = k

module _ (s : Sig) (ws : List ℕ) where
  -- a kind 3 word and its terms
  terms_of_spelled : Spelled (λ t. head_word t.head (length t.terms) ∷ t.terms) ws (read_terms s ws)
  terms_of_spelled p r e =
      let a = bind_ok (read_word ws (is_head_word (heads s)) p) _ r e in
      let b = bind_ok (read_row (read_term s ws) (count_of a.0.value) a.0.at) _ r a.2 in
      let k = word_read ws (is_head_word (heads s)) p a.0 a.1 in
      let x = terms_spelled ws s (count_of a.0.value) a.0.at b.0 b.1 in
      let count : length b.0.value ≡ count_of (get_or ws p 0) = x.1 ∙ ap count_of k.0 in
      let word : head_word (head_of a.0.value) (length b.0.value) ≡ get_or ws p 0 =
      ap (λ n. head_word (head_of n) (length b.0.value)) k.0 ∙ head_spelled ws s (get_or ws p 0) (length b.0.value) k.2 count in
      let next : drop (suc p) ws ≡ drop a.0.at ws = ap (λ n. drop n ws) (sym k.1) in
      subst (λ (q : Read Terms). drop p ws ≡ (head_word q.value.head (length q.value.terms) ∷ q.value.terms) ++ drop q.at ws) (ok_inj _ _ b.2)
      (k.3 ∙ (λ i. sym word i ∷ (next ∙ x.0) i))

  -- the action whose word is here, by its code
  module _ (p : ℕ) (r : Read CoreAction) (here : drop p ws ≡ get_or ws p 0 ∷ drop (suc p) ws) where
    abbrev Here : Read CoreAction → Type 0
    Here q = drop p ws ≡ action_words q.value ++ drop q.at ws

    code_spelled : (k : Code) → Coded (get_or ws p 0) k → read_core_code s ws p k (suc p) ≡ ok r → Here r
    code_spelled a_let c e =
        let a = bind_ok (read_word ws (is_target s) (suc p)) _ r e in
        let b = bind_ok (read_term s ws a.0.at) _ r a.2 in
        let x = word_spelled ws (is_target s) (suc p) a.0 a.1 in
        let y = word_spelled ws (is_term s) a.0.at b.0 b.1 in
        subst Here (ok_inj _ _ b.2) (cc)
    code_spelled a_set c e =
        let a = bind_ok (read_terms s ws (suc p)) _ r e in
        let b = bind_ok (read_term s ws a.0.at) _ r a.2 in
        let x = terms_of_spelled (suc p) a.0 a.1 in
        let y = word_spelled ws (is_term s) a.0.at b.0 b.1 in
        let t = a.0.value in
        let z = append_assoc t.terms (b.0.value ∷ []) (drop b.0.at ws) in
        subst Here (ok_inj _ _ b.2)
        (here ∙ (λ i. c i ∷ (x ∙ ap (λ (l : List ℕ). head_word t.head (length t.terms) ∷ (t.terms ++ l)) y ∙ ap (λ (l : List ℕ). head_word t.head (length t.terms) ∷ l) (sym z)) i))
    code_spelled a_delete c e =
        let a = bind_ok (read_terms s ws (suc p)) _ r e in
        let x = terms_of_spelled (suc p) a.0 a.1 in
        subst Here (ok_inj _ _ a.2) (here ∙ (λ i. c i ∷ x i))
    code_spelled a_subsume c e =
        let a = bind_ok (read_terms s ws (suc p)) _ r e in
        let x = terms_of_spelled (suc p) a.0 a.1 in
        subst Here (ok_inj _ _ a.2) (here ∙ (λ i. c i ∷ x i))
    code_spelled a_union c e =
        let a = bind_ok (read_term s ws (suc p)) _ r e in
        let b = bind_ok (read_term s ws a.0.at) _ r a.2 in
        let x = word_spelled ws (is_term s) (suc p) a.0 a.1 in
        let y = word_spelled ws (is_term s) a.0.at b.0 b.1 in
        subst Here (ok_inj _ _ b.2) (cc)
    code_spelled a_panic c e =
        let a = bind_ok (read_word ws is_literal_word (suc p)) _ r e in
        let x = word_spelled ws is_literal_word (suc p) a.0 a.1 in
        subst Here (ok_inj _ _ a.2) (cc)
    code_spelled a_call c e =
        let a = bind_ok (read_word ws (is_target s) (suc p)) _ r e in
        let b = bind_ok (read_terms s ws a.0.at) _ r a.2 in
        let x = word_spelled ws (is_target s) (suc p) a.0 a.1 in
        let y = terms_of_spelled a.0.at b.0 b.1 in
        subst Here (ok_inj _ _ b.2) (here ∙ (λ i. c i ∷ (x ∙ ap (λ (l : List ℕ). a.0.value ∷ l) y) i))
    code_spelled an_expression c e = let z : ◌≡◌ {A = ℕ} 0 1 = cc in absurd (omega arith)
    code_spelled no_code c e = let z : ◌≡◌ {A = ℕ} 0 1 = cc in absurd (omega arith)

  pub action_spelled : Spelled action_words ws (read_core_action s ws)
  action_spelled p r e = go (ltb p (length ws)) refl e
    where
      go : (i : Bool) → ltb p (length ws) ≡ i → read_core_code s ws p (cond i (code_of (get_or ws p 0)) no_code) (suc p) ≡ ok r → drop p ws ≡ action_words r.value ++ drop r.at ws
      go true i k = code_spelled p r (drop-cons ws p 0 (ltb-true p (length ws) i)) (code_of (get_or ws p 0)) (coded (get_or ws p 0)) k
      go false i k = let z : ◌≡◌ {A = ℕ} 0 1 = cc in absurd (omega arith)

  -- ---- a whole rule

  header_spelled : (w m n : ℕ) → is_header_word w ≡ true → m ≡ facts_of w → n ≡ actions_of w → header_word m n ≡ w
  header_spelled w m n e a b = let r = within_true header_base (limit12 * limit12) w e in omega arith

  pub flat_spelled : (r : FlatRule) → read_flat s ws ≡ ok r
      → ws ≡ header_word (length r.atoms) (length r.actions) ∷ words_of atom_words r.atoms ++ words_of action_words r.actions
  flat_spelled r e =
      let h = bind_ok (read_word ws is_header_word 0) _ r e in
      let a = bind_ok (read_row (read_atom s ws) (facts_of h.0.value) h.0.at) _ r h.2 in
      let x = bind_ok (read_row (read_core_action s ws) (actions_of h.0.value) a.0.at) _ r a.2 in
      let k = word_read ws is_header_word 0 h.0 h.1 in
      let y = row_spelled ws atom_words (read_atom s ws) (atom_spelled ws s) (facts_of h.0.value) h.0.at a.0 a.1 in
      let z = row_spelled ws action_words (read_core_action s ws) action_spelled (actions_of h.0.value) a.0.at x.0 x.1 in
      let read : FlatRule = record { atoms = a.0.value; actions = x.0.value } in
      let last = demand_ok (leb (length ws) x.0.at) unfit x.0.at read r x.2 in
      let none : drop x.0.at ws ≡ [] = drop_of_length-le ws (leb-true (length ws) x.0.at last.0) in
      let next : drop 1 ws ≡ drop h.0.at ws = ap (λ n. drop n ws) (sym k.1) in
      let word = header_spelled (get_or ws 0 0) (length a.0.value) (length x.0.value) k.2 (y.1 ∙ ap facts_of k.0) (z.1 ∙ ap actions_of k.0) in
      let actions = z.0 ∙ ap (λ (l : List ℕ). words_of action_words x.0.value ++ l) none ∙ append-nil (words_of action_words x.0.value) in
      subst (λ (q : FlatRule). ws ≡ header_word (length q.atoms) (length q.actions) ∷ words_of atom_words q.atoms ++ words_of action_words q.actions) last.1
      (k.3 ∙ (λ i. sym word i ∷ (next ∙ y.0 ∙ ap (λ (l : List ℕ). words_of atom_words a.0.value ++ l) actions) i))
