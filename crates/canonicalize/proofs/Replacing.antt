-- Replacing in words, atom by atom, is the sweep over atoms, which is `replace_all`. Assumes nothing.
use mathlib.Core.Bool.{Bool, false, true}
use mathlib.Core.List.{List, [], ◌++◌, ◌∷◌, append_assoc, append-nil, map}
use mathlib.Core.Option.{Option, none, some}
use mathlib.Core.Path.{◌∙◌, ◌≡◌, ap, refl, subst, sym}
use Prim.Native.Nat.{◌*◌, ◌+◌, ◌-◌, ◌<◌, ◌≤◌, suc, ℕ}
use native.Mathlib.Omega.{arith}
use lib.Dec.{eqb}
use lib.ListN.{get_or, length, length-append, length-map}
use borrow.Author.Tests.{eq-eqb, ne_eqb}
use Rattle.octets.proofs.Places.{at_after, at_before, at_first, at_join, at_left, at_nil, at_right, at_splice, at_word, only_same, only_splice, only_then, only_wide}
use Rattle.octets.specs.Regions.{At, Only, part, splice, swap}
use Rattle.rules.specs.Canonicalize.{Body, Replacement, replace_all, replace_atom, replace_term, replacement_of}
use Rattle.rules.specs.Flat.{Atom, atom_words, eqn, tab, words_of}
use Rattle.rules.specs.Signature.{Sig, is_var, same_term}
use Rattle.rules.specs.Words.{equality_word, head_word}
use Rattle.meaning.proofs.Encodable.{replaced_encodable}
use Rattle.meaning.proofs.Lists.{all_right, length_words_append, map_append, words_append}
use Rattle.meaning.proofs.MergePass.{IsEqn}
use Rattle.meaning.proofs.Sweep.{Sweeping, asked_var, sweep_end, sweep_past, sweep_replaced, sweep_start}
use Rattle.meaning.proofs.WordLaws.{bindings_words, length_replaced, replace_words, two_atom}
use Rattle.meaning.specs.Meaning.{All}
use Rattle.meaning.specs.ReadBack.{Encodable}
use Rattle.meaning.proofs.Sweep.{asks}
use Rattle.words.proofs.AtomLaws.{atom_equality, is_var_term, sign_word, term_var, termed}
use Rattle.words.specs.Atom.{AtomSays, BeginsGood, TermSays, equality_size, lead_size, right_from, term_word, terms_from}
use Rattle.words.specs.declared.Atom as word
use Rattle.words.specs.declared.Term.{Term}
use Rattle.words.specs.declared.Term.TheVariants.{Var, Global, Literal}
use Rattle.words.specs.declared.HeadOrEq.TheVariants.{Eq}
use Rattle.bodies.specs.Standing.{AtomsAt, atoms_in, left_at, right_at, size_at}
use Rattle.bodies.specs.Terms.{sig}
use Rattle.bodies.specs.declared.terms.Sign.{Sign}
use Rattle.bodies.proofs.Standing.{bare_replaced, begins_atom, next_at_lem, size_atom}
use Rattle.canonicalize.specs.declared.Replacement as code
use Rattle.std.specs.Prelude as prelude
use Rattle.std.specs.Prelude.{unwrap_or}
use Rattle.canonicalize.specs.Canonicalize.{ReplaceAsks, Replaced, StepAsks, Stepped, Swept}
use Rattle.canonicalize.specs.Canonicalize.{ask_at, ask_for, asked_of, binding_size, binding_words, place_after, place_of}
use Rattle.canonicalize.specs.Spans.{Spanned}
use Rattle.canonicalize.specs.Spans as span
use Rattle.canonicalize.proofs.SpanLaws.{spanned_before}

-- ---- what an answer says

pub asked_some : (o : Option Replacement) (t : code.Replacement) → prelude.Some t ≡ asked_of o → o ≡ some (record { old = t.old; new = t.new })
asked_some none t e = cc
asked_some (some r) t e =
    let is : t ≡ record { old = r.old; new = r.new } = cc in
    ap (λ (u : code.Replacement). some (record { old = u.old; new = u.new })) (sym is)

pub asked_none : (o : Option Replacement) → prelude.None ≡ asked_of o → o ≡ none
asked_none none e = refl
asked_none (some r) e = cc

-- ---- an atom at a place

no_equality : (h n : ℕ) → head_word h n ≡ equality_word → ⊥
no_equality h n e = omega arith

pub ask_is : (s : Sig) (x : Atom) (l : List ℕ) (p : ℕ) → At (atom_words x) l p → ask_at s l p ≡ asks s x
unfolding ask_at
ask_is s (eqn r a b) l p k =
    let e₀ : get_or l p 0 ≡ equality_word = at_first k in
    let e₁ : left_at l p ≡ a = at_word lead_size k (omega arith) in
    let e₂ : right_at l p ≡ b = at_word (lead_size + 1) k (omega arith) in
    λ i. ask_for (eqb (e₀ i) equality_word) s (e₁ i) (e₂ i)
ask_is s (tab t) l p k =
    let w = head_word t.head (suc (length t.ins)) in
    ap (λ (c : Bool). ask_for c s (left_at l p) (right_at l p))
    (ap (λ (v : ℕ). eqb v equality_word) (at_first k) ∙ ne_eqb w equality_word (no_equality t.head (suc (length t.ins))))

-- the first word tells an equality, and so how many words it has
pub eqn_met : (x : Atom) {l : List ℕ} {p : ℕ} → At (atom_words x) l p → get_or l p 0 ≡ equality_word → IsEqn x
eqn_met (eqn r a b) s e = tt
eqn_met (tab t) s e = absurd (no_equality t.head (suc (length t.ins)) (sym (at_first s) ∙ e))

pub eqn_word : (x : Atom) {l : List ℕ} {p : ℕ} → IsEqn x → At (atom_words x) l p → get_or l p 0 ≡ equality_word
eqn_word (eqn r a b) h s = at_first s
eqn_word (tab t) h s = absurd h

pub eqn_size : (x : Atom) → IsEqn x → length (atom_words x) ≡ equality_size
eqn_size (tab t) h = absurd h
eqn_size (eqn p a b) h = refl

-- ---- an equality that was read at a place: its terms stand behind its first word, and there are two of them

pub record Equality (l : List ℕ) (p : ℕ) (r : word.Atom) : Type 0 where
  pub word : get_or l p 0 ≡ equality_word
  pub left : r.terms ≡ terms_from p
  pub right : r.terms + 1 ≡ right_from p
  pub next : r.next ≡ p + equality_size

pub equality_read : {l : List ℕ} {p : ℕ} {r : word.Atom} → get_or l p 0 ≡ equality_word → AtomSays r (get_or l p 0) p → Equality l p r
equality_read {l} {p} {r} e a =
    let n = (atom_equality a (omega (arith, e))).1 in
    record { word = e; left = a.terms_at; right = omega (arith, a.terms_at); next = omega (arith, a.next_at, n, e) }

-- the atom at p was read as an equality
pub met : {l : List ℕ} {at n p d table buckets : ℕ} {r : word.Atom} → StepAsks l at n p d table buckets → AtomSays r (get_or l p 0) p
    → r.head ≡ Eq → Equality l p r
met asks says is = equality_read (sign_word asks.begins.first says is) says

-- ---- what two terms ask for

-- what the definition says of them
abbrev pub Asks : Sign → (a b : ℕ) → prelude.Option code.Replacement → Type 0
Asks q a b r = r ≡ asked_of (replacement_of (same_term a b) (is_var (sig q) a) (is_var (sig q) b) a b)

-- what is no `Var` is no variable
pub no_var : (t : Term) → ((v : ℕ) → t ≡ Var v → ⊥) → is_var_term t ≡ false
no_var (Var v) other = absurd (other v refl)
no_var (Global v) other = refl
no_var (Literal v) other = refl

-- they are two, and the left one is read as the case t
pub record Two (q : Sign) (a b : ℕ) (t : Term) : Type 0 where
  pub apart : false ≡ same_term a b
  pub left : TermSays t q.globals a

told : (q : Sign) {w : ℕ} {t : Term} → TermSays t q.globals w → is_var_term t ≡ is_var (sig q) w
told q {w} says = ap is_var_term (termed says) ∙ term_var (sig q) w

module _ {q : Sign} {a b : ℕ} {t : Term} (k : Two q a b t) where
  by_left : (x : Bool) → is_var_term t ≡ x → Asks q a b (asked_of (replacement_of false x (is_var (sig q) b) a b))
  by_left x e = let ea = sym e ∙ told q k.left in λ i. asked_of (replacement_of (k.apart i) (ea i) (is_var (sig q) b) a b)

  -- it is a variable
  pub asks_left : {v : ℕ} → t ≡ Var v → Asks q a b (prelude.Some (record { old = v; new = b }))
  asks_left {v} e =
      let is : v ≡ a = ap term_word (sym e) ∙ k.left.word_is in
      subst (λ (x : ℕ). Asks q a b (prelude.Some (record { old = x; new = b }))) (sym is) (by_left true (ap is_var_term e))

  -- it is none, and the right one is read as the case u
  module _ (n : is_var_term t ≡ false) {u : Term} (right : TermSays u q.globals b) where
    by_right : (x : Bool) → is_var_term u ≡ x → Asks q a b (asked_of (replacement_of false false x a b))
    by_right x e = ap (λ (y : Bool). asked_of (replacement_of false false y a b)) (sym e ∙ told q right) ∙ by_left false n

    pub asks_right : {v : ℕ} → u ≡ Var v → Asks q a b (prelude.Some (record { old = v; new = a }))
    asks_right {v} e =
        let is : v ≡ b = ap term_word (sym e) ∙ right.word_is in
        subst (λ (x : ℕ). Asks q a b (prelude.Some (record { old = x; new = a }))) (sym is) (by_right true (ap is_var_term e))

    pub asks_none : is_var_term u ≡ false → Asks q a b prelude.None
    asks_none e = by_right false e

-- ---- one replacement

pub bindings_append : (qs rs : List Replacement) → binding_words (qs ++ rs) ≡ binding_words qs ++ binding_words rs
bindings_append [] rs = refl
bindings_append (q ∷ qs) rs = ap (λ (l : List ℕ). binding_words (q ∷ []) ++ l) (bindings_append qs rs)

-- how many words bindings have
pub bindings_size : (rs : List Replacement) → length (binding_words rs) ≡ binding_size * length rs
bindings_size rs = bindings_words rs

-- one replacement made in atoms that stand in n words at p, with its binding put before those at d
pub record Made (r : Replacement) (xs : List Atom) (rs : List Replacement) (m m₂ : List ℕ) (p n d table buckets : ℕ) : Type 0 where
  pub atoms : AtomsAt (map (replace_atom r) xs) m₂ p n
  pub binds : At (binding_words (r ∷ rs)) m₂ (d - binding_size)
  pub only : Only m m₂ p d
  pub between : (ws : List ℕ) (q : ℕ) → At ws m q → table + 2 * buckets ≤ q → q + length ws ≤ d - binding_size → At ws m₂ q
  pub spanned : Spanned m₂ p n table buckets

module _ (s : Sig) {r : Replacement} {xs : List Atom} (rs : List Replacement) {m m₂ : List ℕ} {p n d table buckets : ℕ} (v : is_var s r.old ≡ true)
    (a : AtomsAt xs m p n) (b : At (binding_words rs) m d) (h : table + 2 * buckets + binding_size ≤ d) (w : Swept r m m₂ p n d table buckets) where
  -- three rows are written, in this order: the atoms anew, the table, the binding
  abbrev ys : List Atom
  ys = map (replace_atom r) xs

  abbrev bind : List ℕ
  bind = binding_words (r ∷ [])

  abbrev anew : List ℕ
  anew = splice m p (words_of atom_words ys)

  abbrev tabled : List ℕ
  tabled = splice anew table w.spans

  abbrev bound : List ℕ
  bound = splice tabled (d - binding_size) bind

  clear : p + n ≤ table
  clear = w.spanned.beyond

  size : length (words_of atom_words ys) ≡ n
  size = length_replaced r xs ∙ sym a.size

  anew_only : Only m anew p (p + n)
  anew_only = only_splice m p (words_of atom_words ys) (p + n) (omega (arith, size)) (omega (arith, clear, b.within))

  tabled_only : Only anew tabled table (table + 2 * buckets)
  tabled_only = only_splice anew table w.spans (table + 2 * buckets) (omega (arith, w.size)) (omega (arith, anew_only.size, b.within))

  bound_only : Only tabled bound (d - binding_size) d
  bound_only = only_splice tabled (d - binding_size) bind d (omega arith) (omega (arith, anew_only.size, tabled_only.size, b.within))

  bound_is : m₂ ≡ bound
  bound_is =
      let replaced : map (replace_term r) (part m p n) ≡ words_of atom_words ys =
      ap (map (replace_term r)) (ap (part m p) a.size ∙ a.at.words) ∙ replace_words s r v xs a.fits in
      w.words ∙ ap (λ (x : List ℕ). splice (splice (splice m p x) table w.spans) (d - binding_size) bind) replaced

  atoms_there_lem : At (words_of atom_words ys) bound p
  atoms_there_lem =
      at_before bound_only
      (at_before tabled_only (at_splice m p (words_of atom_words ys) (omega (arith, size, a.within))) (omega (arith, size, clear)))
      (omega (arith, size, clear))

  binds_there : At (binding_words (r ∷ rs)) bound (d - binding_size)
  binds_there =
      let new : At bind bound (d - binding_size) = at_splice tabled (d - binding_size) bind (omega (arith, anew_only.size, tabled_only.size, b.within)) in
      let old : At (binding_words rs) tabled d = at_after tabled_only (at_after anew_only b (omega (arith, clear))) (omega arith) in
      at_join new (at_after bound_only old (omega arith)) (omega arith)

  pub made : Made r xs rs m m₂ p n d table buckets
  made =
      subst (λ (x : List ℕ). Made r xs rs m x p n d table buckets) (sym bound_is)
      (record {
        atoms = record {
          fits = replaced_encodable r xs a.fits;
          bare = bare_replaced r xs a.bare;
          size = sym size;
          at = atoms_there_lem;
          within = omega (arith, bound_only.size, tabled_only.size, anew_only.size, a.within);
        };
        binds = binds_there;
        only = only_then (only_wide p d anew_only (omega arith) (omega (arith, clear)))
            (only_then (only_wide p d tabled_only (omega (arith, clear)) (omega arith)) (only_wide p d bound_only (omega (arith, clear)) (omega arith)));
        between = λ us q z low high. let g : p + n ≤ q = omega (arith, clear) in
            at_before bound_only (at_after tabled_only (at_after anew_only z g) low) high;
        spanned = subst (λ (x : List ℕ). Spanned x p n table buckets) bound_is w.spanned;
      })

-- ---- `replace_step`: the atom at p is tried

-- what the contract says of an answer
abbrev pub StepAnswers : Sig → (l m : List ℕ) (at n p d table buckets : ℕ) → prelude.Option ℕ → Type 0
StepAnswers s l m at n p d table buckets r = (r ≡ place_of (ask_at s l p) d) × Stepped (ask_at s l p) l m at n d table buckets

-- where the bindings begin then
placed : (o : Option Replacement) (d : ℕ) → unwrap_or (place_of o d) d ≡ place_after o d
placed none d = refl
placed (some r) d = refl

-- its terms are a and b, and t says what they ask for
pub asks_terms : (s : Sig) {l : List ℕ} {p a b : ℕ} {r : word.Atom} {t : prelude.Option code.Replacement} → Equality l p r
    → a ≡ get_or l r.terms 0 → b ≡ get_or l (r.terms + 1) 0
    → t ≡ asked_of (replacement_of (same_term a b) (is_var s a) (is_var s b) a b) → t ≡ asked_of (ask_at s l p)
unfolding ask_at
asks_terms s {l} {p} q ea eb et =
    let c : true ≡ eqb (get_or l p 0) equality_word = sym (eq-eqb (get_or l p 0) equality_word q.word) in
    let x = ea ∙ ap (λ (k : ℕ). get_or l k 0) q.left in
    let y = eb ∙ ap (λ (k : ℕ). get_or l k 0) q.right in
    et ∙ (λ i. asked_of (ask_for (c i) s (x i) (y i)))

module _ (s : Sig) {l : List ℕ} {at n p d table buckets : ℕ} (c : StepAsks l at n p d table buckets) where
  asked_nothing : ask_at s l p ≡ none → StepAnswers s l l at n p d table buckets prelude.None
  asked_nothing e =
      (ap (λ (o : Option Replacement). place_of o d) (sym e), subst (λ (o : Option Replacement). Stepped o l l at n d table buckets) (sym e) refl)

  -- no equality
  pub step_other : (get_or l p 0 ≡ equality_word → ⊥) → StepAnswers s l l at n p d table buckets prelude.None
  unfolding ask_at
  step_other h = asked_nothing (ap (λ (b : Bool). ask_for b s (left_at l p) (right_at l p)) (ne_eqb (get_or l p 0) equality_word h))

  -- one that asks for nothing
  pub step_none : prelude.None ≡ asked_of (ask_at s l p) → StepAnswers s l l at n p d table buckets prelude.None
  step_none e = asked_nothing (asked_none (ask_at s l p) e)

  -- one whose replacement is made, which leaves m₁, and bound
  pub step_some : {t : code.Replacement} {m₁ m : List ℕ} → prelude.Some t ≡ asked_of (ask_at s l p) → span.Replacing l m₁ at n t.old t.new table buckets
      → length m₁ ≡ length l → m ≡ splice m₁ (d - binding_size) (binding_words (record { old = t.old; new = t.new } ∷ []))
      → StepAnswers s l m at n p d table buckets (prelude.Some (d - binding_size))
  unfolding swap
  step_some {t} {m₁} {m} e k size em =
      let r : Replacement = record { old = t.old; new = t.new } in
      let is : some r ≡ ask_at s l p = sym (asked_some (ask_at s l p) t e) in
      let bind : List ℕ = binding_words (r ∷ []) in
      let o : Only m₁ (splice m₁ (d - binding_size) bind) (d - binding_size) d = only_splice m₁ (d - binding_size) bind d (omega (arith, c.room)) (omega (arith, c.top)) in
      let o₂ : Only m₁ m (d - binding_size) d = subst (λ (x : List ℕ). Only m₁ x (d - binding_size) d) (sym em) o in
      let w : Swept r l m at n d table buckets =
      record {
        spans = k.spans;
        words = em ∙ ap (λ (x : List ℕ). splice x (d - binding_size) bind) k.words;
        size = k.size;
        spanned = spanned_before o₂ k.spanned (omega (arith, c.room));
      } in
      (ap (λ (x : Option Replacement). place_of x d) is, subst (λ (x : Option Replacement). Stepped x l m at n d table buckets) is w)

-- ---- `replace_all`: p is the place of the next atom, d where the bindings begin

pub record Replacing (s : Sig) (l m : List ℕ) (at n d₀ table buckets p d : ℕ) : Type 0 where
  pub done : List Atom
  pub todo : List Atom
  pub rs : List Replacement
  pub atoms : AtomsAt (done ++ todo) m at n
  pub here : p ≡ at + length (words_of atom_words done)
  pub binds : At (binding_words rs) m d
  pub count : d + binding_size * length rs ≡ d₀
  pub room : table + 2 * buckets + binding_size * length todo + binding_size ≤ d
  pub only : Only l m at d₀
  pub between : (ws : List ℕ) (q : ℕ) → At ws l q → table + 2 * buckets ≤ q → q + length ws ≤ d → At ws m q
  pub spanned : Spanned m at n table buckets
  pub sweep : Sweeping s (atoms_in l at n) [] done todo rs

-- the atom that is next
pub record Next {s : Sig} {l m : List ℕ} {at n d₀ table buckets p d : ℕ} (w : Replacing s l m at n d₀ table buckets p d) : Type 0 where
  pub atom : Atom
  pub rest : List Atom
  pub is : w.todo ≡ atom ∷ rest
  pub stands : At (atom_words atom) m p
  pub size : size_at m p ≡ length (atom_words atom)
  pub inside : p + size_at m p ≤ at + n
  pub some : 1 ≤ size_at m p
  pub next : {r : word.Atom} → AtomSays r (get_or m p 0) p → r.next ≡ p + size_at m p
  pub asks : StepAsks m at n p d table buckets

pub replacing_start : {s : Sig} {l : List ℕ} {at n d₀ table buckets : ℕ} → ReplaceAsks l at n d₀ table buckets → Replacing s l l at n d₀ table buckets at d₀
replacing_start {s} {l} {at} {n} {d₀} c =
    record {
      done = [];
      todo = atoms_in l at n;
      rs = [];
      atoms = c.atoms;
      here = omega arith;
      binds = at_nil l d₀ c.top;
      count = omega arith;
      room = c.room;
      only = only_same l at d₀;
      between = λ ws q z low high. z;
      spanned = c.spanned;
      sweep = sweep_start s (atoms_in l at n) [];
    }

module _ {s : Sig} {l m : List ℕ} {at n d₀ table buckets p d : ℕ} (w : Replacing s l m at n d₀ table buckets p d) where
  left : {ys : List Atom} → w.todo ≡ ys → n ≡ length (words_of atom_words w.done) + length (words_of atom_words ys)
  left {ys} e =
      w.atoms.size ∙ length_words_append atom_words w.done w.todo
      ∙ ap (λ (zs : List Atom). length (words_of atom_words w.done) + length (words_of atom_words zs)) e

  pub next_atom : p < at + n → Next w
  next_atom h = go w.todo refl
    where
      tail : At (words_of atom_words w.todo) m p
      tail =
          at_right (words_of atom_words w.done) p
          (subst (λ (ws : List ℕ). At ws m at) (words_append atom_words w.done w.todo) w.atoms.at) w.here

      go : (ys : List Atom) → w.todo ≡ ys → Next w
      go [] e = absurd (omega (arith, left e, w.here))
      go (x ∷ xs) e =
          let f : Encodable x = (all_right Encodable w.done (x ∷ xs) (subst (λ (ys : List Atom). All Encodable (w.done ++ ys)) e w.atoms.fits)).0 in
          let k : At (atom_words x) m p = at_left (words_of atom_words xs) (subst (λ (ys : List Atom). At (words_of atom_words ys) m p) e tail) in
          let size : size_at m p ≡ length (atom_words x) = size_atom x f m p k in
          let begins : BeginsGood m p = begins_atom x f k in
          let whole : get_or m p 0 ≡ equality_word → p + equality_size ≤ length m = λ q. subst (λ (z : ℕ). p + z ≤ length m) (eqn_size x (eqn_met x k q)) k.within in
          record {
            atom = x;
            rest = xs;
            is = e;
            stands = k;
            size = size;
            inside = omega (arith, left e, w.here, length-append (atom_words x) (words_of atom_words xs));
            some = omega (arith, two_atom x);
            next = λ a. next_at_lem begins a;
            asks = record {
              begins = begins;
              whole = whole;
              spanned = w.spanned;
              room = omega (arith, w.room);
              top = omega (arith, w.binds.within);
            };
          }

  nothing_left : at + n ≤ p → w.todo ≡ []
  nothing_left h = go w.todo refl
    where
      go : (ys : List Atom) → w.todo ≡ ys → ys ≡ []
      go [] e = refl
      go (x ∷ xs) e = absurd (omega (arith, left e, w.here, length-append (atom_words x) (words_of atom_words xs), two_atom x))

  module _ (t : Next w) {o : ℕ} (eo : o ≡ p + size_at m p) where
    abbrev x : Atom
    x = t.atom

    abbrev xs : List Atom
    xs = t.rest

    swept : Sweeping s (atoms_in l at n) [] w.done (x ∷ xs) w.rs
    swept = subst (λ (ys : List Atom). Sweeping s (atoms_in l at n) [] w.done ys w.rs) t.is w.sweep

    there : AtomsAt (w.done ++ x ∷ xs) m at n
    there = subst (λ (ys : List Atom). AtomsAt (w.done ++ ys) m at n) t.is w.atoms

    done_size : length (words_of atom_words (w.done ++ x ∷ [])) ≡ length (words_of atom_words w.done) + size_at m p
    done_size =
        length_words_append atom_words w.done (x ∷ [])
        ∙ ap (λ (ws : List ℕ). length (words_of atom_words w.done) + length ws) (append-nil (atom_words x))
        ∙ ap (λ (k : ℕ). length (words_of atom_words w.done) + k) (sym t.size)

    past : asks s x ≡ none → Replacing s l m at n d₀ table buckets o d
    past e =
        record {
          done = w.done ++ x ∷ [];
          todo = xs;
          rs = w.rs;
          atoms = subst (λ (ys : List Atom). AtomsAt ys m at n) (sym (append_assoc w.done (x ∷ []) xs)) there;
          here = omega (arith, w.here, done_size);
          binds = w.binds;
          count = w.count;
          room = omega (arith, w.room, ap length t.is);
          only = w.only;
          between = w.between;
          spanned = w.spanned;
          sweep = sweep_past s (atoms_in l at n) [] w.done x xs w.rs swept e;
        }

    replaced : {m₂ : List ℕ} {r : Replacement} → asks s x ≡ some r → Swept r m m₂ at n d table buckets → Replacing s l m₂ at n d₀ table buckets o (d - binding_size)
    replaced {m₂} {r} e em =
        let room : table + 2 * buckets + binding_size * suc (length xs) + binding_size ≤ d = omega (arith, w.room, ap length t.is) in
        let k = made s w.rs (asked_var s x r e) there w.binds (omega arith) em in
        let whole : map (replace_atom r) (w.done ++ x ∷ []) ++ map (replace_atom r) xs ≡ map (replace_atom r) (w.done ++ x ∷ xs) =
        sym (map_append (replace_atom r) (w.done ++ x ∷ []) xs) ∙ ap (map (replace_atom r)) (append_assoc w.done (x ∷ []) xs) in
        record {
          done = map (replace_atom r) (w.done ++ x ∷ []);
          todo = map (replace_atom r) xs;
          rs = r ∷ w.rs;
          atoms = subst (λ (zs : List Atom). AtomsAt zs m₂ at n) (sym whole) k.atoms;
          here = omega (arith, w.here, length_replaced r (w.done ++ x ∷ []), done_size);
          binds = k.binds;
          count = omega (arith, w.count);
          room = omega (arith, length-map xs (replace_atom r));
          only = only_then w.only (only_wide at d₀ k.only (omega arith) (omega (arith, w.count)));
          between = λ us q y low high. let top : q + length us ≤ d = omega arith in k.between us q (w.between us q y low top) low high;
          spanned = k.spanned;
          sweep = sweep_replaced s (atoms_in l at n) [] w.done x xs w.rs r swept e;
        }

    -- a turn of the loop
    pub replacing_next : {m₂ : List ℕ} {d₂ : ℕ} {b : prelude.Option ℕ} → d₂ ≡ unwrap_or b d → b ≡ place_of (ask_at s m p) d
        → Stepped (ask_at s m p) m m₂ at n d table buckets
        → Replacing s l m₂ at n d₀ table buckets o d₂
    replacing_next {m₂} {d₂} {b} er eb em =
        let q = ask_is s x m p t.stands in
        let ed : d₂ ≡ place_after (ask_at s m p) d = er ∙ ap (λ (o : prelude.Option ℕ). unwrap_or o d) eb ∙ placed (ask_at s m p) d in
        go (asks s x) refl (ed ∙ ap (λ (g : Option Replacement). place_after g d) q)
        (subst (λ (g : Option Replacement). Stepped g m m₂ at n d table buckets) q em)
      where
        go : (g : Option Replacement) → asks s x ≡ g → d₂ ≡ place_after g d → Stepped g m m₂ at n d table buckets
            → Replacing s l m₂ at n d₀ table buckets o d₂
        go none e e₁ e₂ =
            subst (λ (v : List ℕ). Replacing s l v at n d₀ table buckets o d₂) (sym e₂)
            (subst (λ (k : ℕ). Replacing s l m at n d₀ table buckets o k) (sym e₁) (past e))
        go (some r) e e₁ e₂ = subst (λ (k : ℕ). Replacing s l m₂ at n d₀ table buckets o k) (sym e₁) (replaced e e₂)

  pub replacing_end : at + n ≤ p → Replaced s l m at n d₀ table buckets d
  replacing_end h =
      let e = nothing_left h in
      let c : record { atoms = w.done; repls = w.rs } ≡ replace_all s (atoms_in l at n) [] =
      sweep_end s (atoms_in l at n) [] w.done w.rs (subst (λ (ys : List Atom). Sweeping s (atoms_in l at n) [] w.done ys w.rs) e w.sweep) in
      record {
        atoms = subst (λ (ys : List Atom). AtomsAt ys m at n)
            (ap (λ (ys : List Atom). w.done ++ ys) e ∙ append-nil w.done ∙ ap (λ (b : Body). b.atoms) c) w.atoms;
        binds = subst (λ (b : Body). At (binding_words b.repls) m d) c w.binds;
        count = subst (λ (b : Body). d + binding_size * length b.repls ≡ d₀) c w.count;
        only = w.only;
        between = w.between;
        spanned = w.spanned;
      }
