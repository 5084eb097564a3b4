-- What the functions of `canonicalize` ask and give, in the definitions' words. Assumes nothing: these are definitions.
use Rattle.std.specs.Prelude.{Bool, false, true, List, [], ◌++◌, ◌∷◌, map, ◌≡◌, ◌*◌, ◌+◌, ◌-◌, ◌<◌, ◌≤◌, ℕ, eqb, get_or, length}
use Rattle.std.specs.Prelude as prelude
use Rattle.std.proofs.Math.Option.{Option, none, some}
use Rattle.octets.specs.Regions.{At, Only, part, splice}
use Rattle.rules.specs.Canonicalize.{Replacement, bindings, canonicalize, replace_all, replace_term, replacement_of, resolve}
use Rattle.rules.specs.Flat.{Atom, Tab, action_words, eqn, tab, tab_words, words_of}
use Rattle.rules.specs.Signature.{Sig, is_var, same_term}
use Rattle.rules.specs.Words.{equality_word, head_word, unit}
use Rattle.meaning.proofs.MergePass.{IsEqn}
use Rattle.meaning.specs.Meaning.{All}
use Rattle.meaning.specs.Weight.{weight}
use Rattle.words.specs.Atom.{BeginsGood}
use Rattle.bodies.specs.Standing.{AtomsAt, TabsAt, atoms_in}
use Rattle.canonicalize.specs.declared.Replacement as code
use Rattle.canonicalize.specs.declared.Canonical.{Canonical}
use Rattle.canonicalize.specs.Spans.{Spanned}

-- the words of the bindings, the last one first
abbrev pub binding_words : List Replacement → List ℕ
binding_words rs = words_of action_words (bindings rs)

-- how many words a binding takes where settling keeps it
abbrev pub binding_size : ℕ
binding_size = 3

-- ---- one replacement

-- it, as the code says it
abbrev pub asked_of : Option Replacement → prelude.Option code.Replacement
asked_of none = prelude.None
asked_of (some r) = prelude.Some (record { old = r.old; new = r.new })

-- what the atom at p asks for
abbrev pub ask_for : (isEqn : Bool) → Sig → ℕ → ℕ → Option Replacement
ask_for true s a b = replacement_of (same_term a b) (is_var s a) (is_var s b) a b
ask_for false s a b = none

unfoldable pub ask_at : Sig → List ℕ → ℕ → Option Replacement
ask_at s l p = ask_for (eqb (get_or l p 0) equality_word) s (get_or l (p + 1) 0) (get_or l (p + 2) 0)

-- where the bindings begin after it
abbrev pub place_after : Option Replacement → ℕ → ℕ
place_after none d = d
place_after (some r) d = d - 3

-- where its own binding stands, if it has one
abbrev pub place_of : Option Replacement → ℕ → prelude.Option ℕ
place_of none d = prelude.None
place_of (some r) d = prelude.Some (d - 3)

-- a replacement is made in the n words at `at`, and its binding stands before those at d. The table of spans at `table` changed as well, since
-- now the new term may stand where the old one did
pub record Swept (r : Replacement) (l m : List ℕ) (at n d table buckets : ℕ) : Type 0 where
  pub spans : List ℕ
  pub words : m ≡ splice (splice (splice l at (map (replace_term r) (part l at n))) table spans) (d - 3) (binding_words (r ∷ []))
  pub size : length spans ≡ 2 * buckets
  pub spanned : Spanned m at n table buckets

-- what an atom that asks for a replacement, or for none, leaves
abbrev pub Stepped : Option Replacement → List ℕ → List ℕ → (at n d table buckets : ℕ) → Type 0
Stepped none l m at n d table buckets = m ≡ l
Stepped (some r) l m at n d table buckets = Swept r l m at n d table buckets

pub record StepAsks (l : List ℕ) (at n p d table buckets : ℕ) : Type 0 where
  pub begins : BeginsGood l p
  pub whole : get_or l p 0 ≡ equality_word → p + 3 ≤ length l
  pub spanned : Spanned l at n table buckets
  pub room : table + 2 * buckets + 3 ≤ d
  pub top : d ≤ length l

-- ---- all of them

pub record ReplaceAsks (l : List ℕ) (at n d table buckets : ℕ) : Type 0 where
  pub atoms : AtomsAt (atoms_in l at n) l at n
  pub spanned : Spanned l at n table buckets
  pub room : table + 2 * buckets + 3 * length (atoms_in l at n) + 3 ≤ d
  pub top : d ≤ length l

-- the atoms with all replacements made stand where they were, the bindings from r to d, and but for the table nothing else changed
pub record Replaced (s : Sig) (l m : List ℕ) (at n d table buckets r : ℕ) : Type 0 where
  pub atoms : AtomsAt (replace_all s (atoms_in l at n) []).atoms m at n
  pub binds : At (binding_words (replace_all s (atoms_in l at n) []).repls) m r
  pub count : r + 3 * length (replace_all s (atoms_in l at n) []).repls ≡ d
  pub only : Only l m at d
  pub between : (ws : List ℕ) (q : ℕ) → At ws l q → table + 2 * buckets ≤ q → q + length ws ≤ r → At ws m q
  pub spanned : Spanned m at n table buckets

-- ---- what becomes of the atoms

abbrev pub resolve_terms : (same : Bool) → Sig → ℕ → ℕ → List ℕ
resolve_terms true s a b = []
resolve_terms false s a b = head_word s.value_eq 3 ∷ a ∷ b ∷ unit ∷ []

-- the words that the equality at p becomes
unfoldable pub resolve_at : Sig → List ℕ → ℕ → List ℕ
resolve_at s l p = resolve_terms (same_term (get_or l (p + 1) 0) (get_or l (p + 2) 0)) s (get_or l (p + 1) 0) (get_or l (p + 2) 0)

pub record ResolveOneAsks (s : Sig) (l : List ℕ) (p to : ℕ) : Type 0 where
  pub equality : get_or l p 0 ≡ equality_word
  pub whole : p + 3 ≤ length l
  pub room : to + length (resolve_at s l p) ≤ length l

-- the atoms in front of the first equality, which stay as they are
unfoldable pub until_eqn : List Atom → List Tab
until_eqn [] = []
until_eqn (eqn p a b ∷ xs) = []
until_eqn (tab t ∷ xs) = t ∷ until_eqn xs

-- how many of the n words at `from` are theirs
abbrev pub others_in : List ℕ → (from n : ℕ) → ℕ
others_in l from n = length (words_of tab_words (until_eqn (atoms_in l from n)))

pub record ResolveAsks (s : Sig) (l : List ℕ) (from n to : ℕ) : Type 0 where
  pub atoms : AtomsAt (atoms_in l from n) l from n
  pub clear : from + n ≤ to
  pub room : to + length (words_of tab_words (resolve s (atoms_in l from n))) ≤ length l

pub record Resolved (s : Sig) (l m : List ℕ) (from n to r : ℕ) : Type 0 where
  pub tabs : TabsAt (resolve s (atoms_in l from n)) m to r
  pub only : Only l m to (to + r)

-- ---- equalities in front

-- what is asked of the equalities in e words at `at`, with other atoms in k words behind them
pub record FrontAsks (l : List ℕ) (at e k to d table buckets : ℕ) : Type 0 where
  pub eqs : AtomsAt (atoms_in l at e) l at e
  pub equalities : All IsEqn (atoms_in l at e)
  pub others : AtomsAt (atoms_in l (at + e) k) l (at + e) k
  pub spanned : Spanned l at (e + k) table buckets
  pub clear : table + 2 * buckets ≤ to
  pub room : to + weight (atoms_in l at e ++ atoms_in l (at + e) k) + 3 * length (atoms_in l at e ++ atoms_in l (at + e) k) + 3 ≤ d
  pub top : d ≤ length l

-- the equalities in front of the atoms in n words at `at` have r words, and behind them no further one follows
pub record Leads (l : List ℕ) (at n r : ℕ) : Type 0 where
  pub inside : r ≤ n
  pub last : r < n → get_or l (at + r) 0 ≡ equality_word → ⊥
  pub eqs : AtomsAt (atoms_in l at r) l at r
  pub equalities : All IsEqn (atoms_in l at r)
  pub others : AtomsAt (atoms_in l (at + r) (n - r)) l (at + r) (n - r)
  pub whole : atoms_in l at n ≡ atoms_in l at r ++ atoms_in l (at + r) (n - r)

-- how far the atoms in n words at `at` are equalities, or other atoms
abbrev pub Runs : (equalities : Bool) → List ℕ → (at n r : ℕ) → Type 0
Runs true l at n r = Leads l at n r
Runs false l at n r = r ≡ others_in l at n

-- one of them, at p with n words from it to the end: it is resolved, or its replacement is made behind it
abbrev pub FrontStep : Option Replacement → Sig → List ℕ → List ℕ → (p n to d table buckets : ℕ) → Canonical → Type 0
FrontStep none s l m p n to d table buckets r = (r.words ≡ length (resolve_at s l p)) × (r.binds ≡ d) × (m ≡ splice l to (resolve_at s l p))
FrontStep (some q) s l m p n to d table buckets r = (r.words ≡ 0) × (r.binds ≡ d - 3) × Swept q l m (p + 3) (n - 3) d table buckets

pub record FrontOneAsks (s : Sig) (l : List ℕ) (p n to d table buckets : ℕ) : Type 0 where
  pub equality : get_or l p 0 ≡ equality_word
  pub whole : 3 ≤ n
  pub spanned : Spanned l (p + 3) (n - 3) table buckets
  pub clear : table + 2 * buckets ≤ to
  pub room : to + length (resolve_at s l p) ≤ length l
  pub binds : table + 2 * buckets + 3 ≤ d
  pub top : d ≤ length l

pub record FrontOne (s : Sig) (l m : List ℕ) (p n to d table buckets : ℕ) (r : Canonical) : Type 0 where
  pub step : FrontStep (ask_at s l p) s l m p n to d table buckets r

-- all of them: some atoms are written, and what is left is canonicalized as if the equalities had never been
pub record Fronted (s : Sig) (xs ys : List Atom) (l m : List ℕ) (at e k to d table buckets : ℕ) (r : Canonical) : Type 0 where
  pub written : List Tab
  pub rs : List Replacement
  pub rest : List Atom
  pub tabs : TabsAt written m to r.words
  pub others : AtomsAt rest m (at + e) k
  pub spanned : Spanned m (at + e) k table buckets
  pub binds : At (binding_words rs) m r.binds
  pub count : r.binds + 3 * length rs ≡ d
  pub room : to + r.words + weight rest + 3 * length rest + 3 ≤ r.binds
  pub all_tabs : (canonicalize s (xs ++ ys) []).tabs ≡ written ++ (canonicalize s rest []).tabs
  pub all_repls : (canonicalize s (xs ++ ys) []).repls ≡ (canonicalize s rest []).repls ++ rs
  pub only : Only l m at d

-- ---- the whole

pub record CanonicalizeAsks (l : List ℕ) (at n to d : ℕ) : Type 0 where
  pub atoms : AtomsAt (atoms_in l at n) l at n
  pub some : 1 ≤ n
  pub small : at + n < 0x1_0000_0000
  pub clear : at + 3 * n ≤ to
  pub room : to + weight (atoms_in l at n) + 3 * length (atoms_in l at n) + 3 ≤ d
  pub top : d ≤ length l

-- the atoms that are left stand at `to`, the bindings before d, and nothing changed but from `at` to d
pub record CanonicalAt (s : Sig) (xs : List Atom) (l m : List ℕ) (at to d : ℕ) (r : Canonical) : Type 0 where
  pub tabs : TabsAt (canonicalize s xs []).tabs m to r.words
  pub binds : At (binding_words (canonicalize s xs []).repls) m r.binds
  pub count : r.binds + 3 * length (canonicalize s xs []).repls ≡ d
  pub only : Only l m at d
