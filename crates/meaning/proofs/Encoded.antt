-- What is written reads back: the words of a well-formed flat rule are read as that rule, each atom with the place where it stands.
-- Assumes nothing.
use Prim.Native.Nat.{ℕ, zero, suc, ◌+◌, ◌-◌, ◌*◌, ◌≤◌, ◌<◌}
use native.Mathlib.Omega.{arith}
use mathlib.Core.Path.{◌≡◌, refl, sym, ◌∙◌, ap, ap₂, subst}
use mathlib.Core.Bool.{Bool, true, false, cond, ◌&&◌}
use mathlib.Core.List.{List, [], ◌∷◌, ◌++◌, append_assoc, append-nil}
use lib.ListN.{length, get_or, drop, length-append}
use lib.Dec.{leb, ltb, eqb}
use borrow.Author.Tests.{lt-ltb, le-leb, ne_eqb, le-ltb}
use Rattle.rules.specs.Words.{limit12, limit16, head_base, equality_base, header_base, head_word, header_word, equality_word, action_word, within, is_literal_word}
use Rattle.rules.specs.Words.{is_head_word, is_equality_word, is_header_word, head_of, count_of, facts_of, actions_of, Code, code_of, no_code}
use Rattle.rules.specs.Refusals.{Res, ok, ◌>>=◌, demand, unfit}
use Rattle.rules.specs.Signature.{Sig, heads}
use Rattle.rules.specs.Written.{Read, Reader, read_word, read_row, code_at}
use Rattle.rules.specs.Flat.{Tab, Atom, tab, CoreAction, Let, Set, Delete, Subsume, Union, Panic, Call, tab_words, action_words, words_of}
use Rattle.rules.specs.Flat.{encode, is_target, is_term, read_term, is_table, is_none, is_pair, is_odd, is_empty, AtomShape, atom_shape}
use Rattle.rules.specs.Flat.{atom_shape_at, read_atom_shape, read_atom, read_terms, read_core_code, read_core_action, read_flat}
use Rattle.meaning.specs.Meaning.{All}

-- ---- a place in a list, by what stands there and behind it

module _ (ws : List ℕ) where
  -- one word on
  pub here : (p x : ℕ) (rest : List ℕ) → drop p ws ≡ x ∷ rest → (p < length ws) × (get_or ws p 0 ≡ x) × (drop (suc p) ws ≡ rest)
  here p x rest e = go ws p e
    where
      go : (l : List ℕ) (p : ℕ) → drop p l ≡ x ∷ rest → (p < length l) × (get_or l p 0 ≡ x) × (drop (suc p) l ≡ rest)
      go [] zero e = let z : ◌≡◌ {A = List ℕ} [] (x ∷ rest) = e in absurd (let y : ◌≡◌ {A = ℕ} 0 1 = cc in omega arith)
      go [] (suc p) e = let z : ◌≡◌ {A = List ℕ} [] (x ∷ rest) = e in absurd (let y : ◌≡◌ {A = ℕ} 0 1 = cc in omega arith)
      go (y ∷ l) zero e = (omega arith, cc, cc)
      go (y ∷ l) (suc p) e = let t = go l p e in (let h = t.0 in omega arith, t.1, t.2)

  -- some words on
  pub behind : (xs : List ℕ) (p q : ℕ) (rest : List ℕ) → drop p ws ≡ xs ++ rest → q ≡ p + length xs → drop q ws ≡ rest
  behind [] p q rest e k = subst (λ (n : ℕ). drop n ws ≡ rest) (let z : p ≡ q = omega arith in z) e
  behind (x ∷ xs) p q rest e k = behind xs (suc p) q rest (here p x (xs ++ rest) e).2 (omega arith)

-- a step whose result is known
pub step : {A B : Type 0} (m : Res A) (a : A) (k : A → Res B) (r : Res B) → m ≡ ok a → k a ≡ r → ◌>>=◌ m k ≡ r
step m a k r e f = ap (λ (x : Res _). ◌>>=◌ x k) e ∙ f

-- a test that holds lets its value through
pub let_through : {A : Type 0} (b : Bool) (n p : ℕ) (x : A) → b ≡ true → demand b n p x ≡ ok x
let_through b n p x e = ap (λ (c : Bool). demand c n p x) e

both : (a b : Bool) → a ≡ true → b ≡ true → (a && b) ≡ true
both a b e f = ap₂ ◌&&◌ e f

-- ---- words by their range

pub within_is : (low size w : ℕ) → low ≤ w → w < low + size → within low size w ≡ true
within_is low size w a b = both (leb low w) (ltb w (low + size)) (le-leb low w a) (lt-ltb w (low + size) b)

module _ (h n : ℕ) (few : n < limit16) where
  head_of_lem : head_of (head_word h n) ≡ h
  head_of_lem = omega arith

  count_of_lem : count_of (head_word h n) ≡ n
  count_of_lem = omega arith

  head_word_lem : (H : ℕ) → h < H → is_head_word H (head_word h n) ≡ true
  head_word_lem H l = within_is head_base (H * limit16) (head_word h n) (omega arith) (omega arith)

  no_equality : is_equality_word (head_word h n) ≡ false
  no_equality = ap₂ ◌&&◌ (le-leb equality_base (head_word h n) (omega arith)) (le-ltb (head_word h n) (equality_base + equality_base) (omega arith))

module _ (a b : ℕ) (l : a < limit12) (m : b < limit12) where
  header_word_lem : is_header_word (header_word a b) ≡ true
  header_word_lem = within_is header_base (limit12 * limit12) (header_word a b) (omega arith) (omega arith)

  facts_of_lem : facts_of (header_word a b) ≡ a
  facts_of_lem = omega arith

  actions_of_lem : actions_of (header_word a b) ≡ b
  actions_of_lem = omega arith

-- ---- well-formed flat rules

abbrev pub TermWord : Sig → ℕ → Type 0
TermWord s w = is_term s w ≡ true

-- a head of the signature with terms that its count can count
pub record FitTerms (s : Sig) (h : ℕ) (ts : List ℕ) : Type 0 where
  pub head : h < heads s
  pub few : suc (length ts) < limit16
  pub terms : All (TermWord s) ts

pub record FitTab (s : Sig) (t : Tab) : Type 0 where
  pub ins : FitTerms s t.head t.ins
  pub out : TermWord s t.out

abbrev pub FitAction : Sig → CoreAction → Type 0
FitAction s (Let x t) = (is_target s x ≡ true) × TermWord s t
FitAction s (Set h ts v) = FitTerms s h ts × TermWord s v
FitAction s (Delete h ts) = FitTerms s h ts
FitAction s (Subsume h ts) = FitTerms s h ts
FitAction s (Union a b) = TermWord s a × TermWord s b
FitAction s (Panic l) = is_literal_word l ≡ true
FitAction s (Call x h ts) = (is_target s x ≡ true) × FitTerms s h ts

-- ---- rows

-- what is read of each of a row, by the place where it stands
abbrev pub placed : {A B : Type 0} → (A → List ℕ) → (ℕ → A → B) → ℕ → List A → List B
placed enc f p [] = []
placed enc f p (x ∷ xs) = f p x ∷ placed enc f (p + length (enc x)) xs

pub placed_same : {A : Type 0} (enc : A → List ℕ) (p : ℕ) (xs : List A) → placed enc (λ q x. x) p xs ≡ xs
placed_same enc p [] = refl
placed_same enc p (x ∷ xs) = ap (λ (l : List _). x ∷ l) (placed_same enc (p + length (enc x)) xs)

module _ {A B : Type 0} (ws : List ℕ) (enc : A → List ℕ) (f : ℕ → A → B) (P : A → Type 0) (one : Reader B)
    (back : (x : A) (p q : ℕ) (rest : List ℕ) → P x → drop p ws ≡ enc x ++ rest → q ≡ p + length (enc x) → one p ≡ ok (record { value = f p x; at = q })) where
  row_back : (xs : List A) (p q : ℕ) (rest : List ℕ) → All P xs → drop p ws ≡ words_of enc xs ++ rest → q ≡ p + length (words_of enc xs)
      → read_row one (length xs) p ≡ ok (record { value = placed enc f p xs; at = q })
  row_back [] p q rest a e k = let z : p ≡ q = omega arith in λ i. ok (record { value = []; at = z i })
  row_back (x ∷ xs) p q rest a e k =
      let n : ℕ = p + length (enc x) in
      let e' : drop p ws ≡ enc x ++ (words_of enc xs ++ rest) = e ∙ append_assoc (enc x) (words_of enc xs) rest in
      step (one p) _ _ _ (back x p n (words_of enc xs ++ rest) a.0 e' refl)
      (step (read_row one (length xs) n) _ _ _
      (row_back xs n q rest a.1 (behind ws (enc x) p n (words_of enc xs ++ rest) e' refl) (omega (arith, length-append (enc x) (words_of enc xs))))
      refl)

-- a term's words are itself
abbrev alone : ℕ → List ℕ
alone t = t ∷ []

words_alone : (ts : List ℕ) → words_of alone ts ≡ ts
words_alone [] = refl
words_alone (t ∷ ts) = ap (λ (l : List ℕ). t ∷ l) (words_alone ts)

-- an atom as it is read at a place
abbrev pub tab_at : ℕ → Tab → Atom
tab_at p t = tab (record { place = p; head = t.head; ins = t.ins; out = t.out })

-- ---- readers

module _ (s : Sig) (ws : List ℕ) where
  word_back : (fits : ℕ → Bool) (x p q : ℕ) (rest : List ℕ) → fits x ≡ true → drop p ws ≡ x ∷ rest → q ≡ suc p → read_word ws fits p ≡ ok (record { value = x; at = q })
  word_back fits x p q rest g e k =
      let t = here ws p x rest e in
      ap (λ (y : ℕ). demand (ltb p (length ws) && fits y) unfit p (record { value = y; at = suc p })) t.1
      ∙ let_through (ltb p (length ws) && fits x) unfit p (record { value = x; at = suc p }) (both (ltb p (length ws)) (fits x) (lt-ltb p (length ws) t.0) g)
      ∙ (λ i. ok (record { value = x; at = sym k i }))

  terms_back : (ts : List ℕ) (p q : ℕ) (rest : List ℕ) → All (TermWord s) ts → drop p ws ≡ ts ++ rest → q ≡ p + length ts
      → read_row (read_term s ws) (length ts) p ≡ ok (record { value = ts; at = q })
  terms_back ts p q rest a e k =
      row_back ws alone (λ r t. t) (TermWord s) (read_term s ws) (λ x r n l g d c. word_back (is_term s) x r n l g d (omega arith)) ts p q rest a
      (e ∙ ap (λ (l : List ℕ). l ++ rest) (sym (words_alone ts))) (k ∙ ap (λ (l : List ℕ). p + length l) (sym (words_alone ts)))
      ∙ (λ i. ok (record { value = placed_same alone p ts i; at = q }))

  -- a kind 3 word and its terms
  called_back : (h : ℕ) (ts : List ℕ) (p q : ℕ) (rest : List ℕ) → FitTerms s h ts → drop p ws ≡ head_word h (length ts) ∷ ts ++ rest → q ≡ p + suc (length ts)
      → read_terms s ws p ≡ ok (record { value = record { head = h; terms = ts }; at = q })
  called_back h ts p q rest a e k =
      let few : length ts < limit16 = let f = a.few in omega arith in
      let w = head_word h (length ts) in
      step (read_word ws (is_head_word (heads s)) p) _ _ _ (word_back (is_head_word (heads s)) w p (suc p) (ts ++ rest) (head_word_lem h (length ts) few (heads s) a.head) e refl)
      (step (read_row (read_term s ws) (count_of w) (suc p)) _ _ _
      (ap (λ (n : ℕ). read_row (read_term s ws) n (suc p)) (count_of_lem h (length ts) few)
      ∙ terms_back ts (suc p) q rest a.terms (here ws p w (ts ++ rest) e).2 (omega arith))
      (λ i. ok (record { value = record { head = head_of_lem h (length ts) few i; terms = ts }; at = q })))

  -- ---- atoms

  shape_is : (h n p : ℕ) (rest : List ℕ) → h < heads s → suc n < limit16 → drop p ws ≡ head_word h (suc n) ∷ rest → atom_shape_at s ws p ≡ is_table
  shape_is h n p rest l few e =
      let t = here ws p (head_word h (suc n)) rest e in
      ap₂ (λ (b : Bool) (w : ℕ). cond b (atom_shape s w) is_none) (lt-ltb p (length ws) t.0) t.1
      ∙ ap₂ (λ (a b : Bool). cond a (cond (eqb (head_word h (suc n)) equality_word) is_pair is_odd) (cond b (cond (eqb (count_of (head_word h (suc n))) 0) is_empty is_table) is_none))
      (no_equality h (suc n) few) (head_word_lem h (suc n) few (heads s) l)
      ∙ ap (λ (c : Bool). cond c is_empty is_table) (ne_eqb (count_of (head_word h (suc n))) 0 (λ z. let c = count_of_lem h (suc n) few in omega arith))

  tab_back : (t : Tab) (p q : ℕ) (rest : List ℕ) → FitTab s t → drop p ws ≡ tab_words t ++ rest → q ≡ p + length (tab_words t)
      → read_atom s ws p ≡ ok (record { value = tab_at p t; at = q })
  tab_back t p q rest a e k =
      let n : ℕ = length t.ins in
      let few : suc n < limit16 = a.ins.few in
      let w : ℕ = head_word t.head (suc n) in
      let tail : List ℕ = t.ins ++ (t.out ∷ rest) in
      let e' : drop p ws ≡ w ∷ tail = e ∙ ap (λ (l : List ℕ). w ∷ l) (append_assoc t.ins (t.out ∷ []) rest) in
      let h = here ws p w tail e' in
      let m : ℕ = suc p + n in
      ap₂ (λ (c : AtomShape) (x : ℕ). read_atom_shape s ws c x p) (shape_is t.head n p tail a.ins.head few e') h.1
      ∙ step (read_row (read_term s ws) (count_of w - 1) (suc p)) _ _ _
      (ap (λ (c : ℕ). read_row (read_term s ws) c (suc p)) (let c = count_of_lem t.head (suc n) few in let z : count_of w - 1 ≡ n = omega arith in z)
      ∙ terms_back t.ins (suc p) m (t.out ∷ rest) a.ins.terms h.2 refl)
      (step (read_term s ws m) _ _ _
      (word_back (is_term s) t.out m q rest a.out (behind ws t.ins (suc p) m (t.out ∷ rest) h.2 refl) (omega (arith, length-append t.ins (t.out ∷ []))))
      (λ i. ok (record { value = tab (record { place = p; head = head_of_lem t.head (suc n) few i; ins = t.ins; out = t.out }); at = q })))

  -- ---- actions

  code_is : (p x : ℕ) (rest : List ℕ) → drop p ws ≡ x ∷ rest → code_at ws p ≡ code_of x
  code_is p x rest e =
      let t = here ws p x rest e in
      ap₂ (λ (b : Bool) (w : ℕ). cond b (code_of w) no_code) (lt-ltb p (length ws) t.0) t.1

  -- an action with this word and words behind it
  coded : (x p : ℕ) (rest : List ℕ) (r : Res (Read CoreAction)) → drop p ws ≡ x ∷ rest → read_core_code s ws p (code_of x) (suc p) ≡ r → read_core_action s ws p ≡ r
  coded x p rest r e f = ap (λ (c : Code). read_core_code s ws p c (suc p)) (code_is p x rest e) ∙ f

  action_back : (a : CoreAction) (p q : ℕ) (rest : List ℕ) → FitAction s a → drop p ws ≡ action_words a ++ rest → q ≡ p + length (action_words a)
      → read_core_action s ws p ≡ ok (record { value = a; at = q })
  action_back (Let x t) p q rest a e k =
      let h = here ws p (action_word 1) (x ∷ t ∷ rest) e in
      let j = here ws (suc p) x (t ∷ rest) h.2 in
      coded (action_word 1) p (x ∷ t ∷ rest) _ e
      (step (read_word ws (is_target s) (suc p)) _ _ _ (word_back (is_target s) x (suc p) (suc (suc p)) (t ∷ rest) a.0 h.2 refl)
      (step (read_term s ws (suc (suc p))) _ _ _ (word_back (is_term s) t (suc (suc p)) q rest a.1 j.2 (omega arith)) refl))
  action_back (Set g ts v) p q rest a e k =
      let w = head_word g (length ts) in
      let e' : drop p ws ≡ action_word 2 ∷ w ∷ ts ++ (v ∷ rest) = e ∙ ap (λ (l : List ℕ). action_word 2 ∷ w ∷ l) (append_assoc ts (v ∷ []) rest) in
      let h = here ws p (action_word 2) (w ∷ ts ++ (v ∷ rest)) e' in
      let j = here ws (suc p) w (ts ++ (v ∷ rest)) h.2 in
      let m : ℕ = suc p + suc (length ts) in
      coded (action_word 2) p (w ∷ ts ++ (v ∷ rest)) _ e'
      (step (read_terms s ws (suc p)) _ _ _ (called_back g ts (suc p) m (v ∷ rest) a.0 h.2 refl)
      (step (read_term s ws m) _ _ _
      (word_back (is_term s) v m q rest a.1 (behind ws ts (suc (suc p)) m (v ∷ rest) j.2 (omega arith)) (omega (arith, length-append ts (v ∷ [])))) refl))
  action_back (Delete g ts) p q rest a e k =
      let h = here ws p (action_word 3) (head_word g (length ts) ∷ ts ++ rest) e in
      coded (action_word 3) p (head_word g (length ts) ∷ ts ++ rest) _ e
      (step (read_terms s ws (suc p)) _ _ _ (called_back g ts (suc p) q rest a h.2 (omega arith)) refl)
  action_back (Subsume g ts) p q rest a e k =
      let h = here ws p (action_word 4) (head_word g (length ts) ∷ ts ++ rest) e in
      coded (action_word 4) p (head_word g (length ts) ∷ ts ++ rest) _ e
      (step (read_terms s ws (suc p)) _ _ _ (called_back g ts (suc p) q rest a h.2 (omega arith)) refl)
  action_back (Union x y) p q rest a e k =
      let h = here ws p (action_word 5) (x ∷ y ∷ rest) e in
      let j = here ws (suc p) x (y ∷ rest) h.2 in
      coded (action_word 5) p (x ∷ y ∷ rest) _ e
      (step (read_term s ws (suc p)) _ _ _ (word_back (is_term s) x (suc p) (suc (suc p)) (y ∷ rest) a.0 h.2 refl)
      (step (read_term s ws (suc (suc p))) _ _ _ (word_back (is_term s) y (suc (suc p)) q rest a.1 j.2 (omega arith)) refl))
  action_back (Panic l) p q rest a e k =
      let h = here ws p (action_word 6) (l ∷ rest) e in
      coded (action_word 6) p (l ∷ rest) _ e
      (step (read_word ws is_literal_word (suc p)) _ _ _ (word_back is_literal_word l (suc p) q rest a h.2 (omega arith)) refl)
  action_back (Call x g ts) p q rest a e k =
      let w = head_word g (length ts) in
      let h = here ws p (action_word 7) (x ∷ w ∷ ts ++ rest) e in
      let j = here ws (suc p) x (w ∷ ts ++ rest) h.2 in
      coded (action_word 7) p (x ∷ w ∷ ts ++ rest) _ e
      (step (read_word ws (is_target s) (suc p)) _ _ _ (word_back (is_target s) x (suc p) (suc (suc p)) (w ∷ ts ++ rest) a.0 h.2 refl)
      (step (read_terms s ws (suc (suc p))) _ _ _ (called_back g ts (suc (suc p)) q rest a.1 j.2 (omega arith)) refl))

-- ---- a rule

module _ (s : Sig) (ts : List Tab) (xs : List CoreAction) (ft : All (FitTab s) ts) (fx : All (FitAction s) xs) (few : length ts < limit12) (some : length xs < limit12) where
  pub reads_back : read_flat s (encode ts xs) ≡ ok (record { atoms = placed tab_words tab_at 1 ts; actions = xs })
  reads_back =
      let ws : List ℕ = encode ts xs in
      let w : ℕ = header_word (length ts) (length xs) in
      let m : ℕ = 1 + length (words_of tab_words ts) in
      let n : ℕ = m + length (words_of action_words xs) in
      let acts : List ℕ = words_of action_words xs in
      let end : drop m ws ≡ acts ++ [] = behind ws (words_of tab_words ts) 1 m (acts ++ []) (ap (λ (l : List ℕ). words_of tab_words ts ++ l) (sym (append-nil acts))) refl in
      step (read_word ws is_header_word 0) _ _ _ (word_back s ws is_header_word w 0 1 (words_of tab_words ts ++ acts) (header_word_lem (length ts) (length xs) few some) refl refl)
      (step (read_row (read_atom s ws) (facts_of w) 1) _ _ _
      (ap (λ (k : ℕ). read_row (read_atom s ws) k 1) (facts_of_lem (length ts) (length xs) few some)
      ∙ row_back ws tab_words tab_at (FitTab s) (read_atom s ws) (tab_back s ws) ts 1 m acts ft refl refl)
      (step (read_row (read_core_action s ws) (actions_of w) m) _ _ _
      (ap (λ (k : ℕ). read_row (read_core_action s ws) k m) (actions_of_lem (length ts) (length xs) few some)
      ∙ row_back ws action_words (λ p x. x) (FitAction s) (read_core_action s ws) (action_back s ws) xs m n [] fx end refl)
      (let_through (leb (length ws) n) unfit n _ (le-leb (length ws) n (omega (arith, length-append (words_of tab_words ts) acts)))
      ∙ (λ i. ok (record { atoms = placed tab_words tab_at 1 ts; actions = placed_same action_words m xs i })))))
