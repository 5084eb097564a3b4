-- The test of a word of the head, from what the code has learnt of the word: which term it is, whether the word before it binds, and whether it was seen.
-- Assumes nothing.
use Prim.Native.Nat.{ℕ, ◌+◌, ◌-◌, ◌<◌}
use native.Mathlib.Omega.{arith}
use mathlib.Core.Bool.{Bool, true, false, not, ◌&&◌, ◌||◌, and-false}
use mathlib.Core.List.{List, []}
use mathlib.Core.Path.{◌≡◌, refl, sym, ap, ap₂, ◌∙◌}
use lib.ListN.{get_or}
use borrow.Author.Tests.{lt-leb}
use Rattle.octets.specs.Regions.{part}
use Rattle.rules.specs.Signature.{elem}
use Rattle.rules.specs.Words.{name_base, fresh_base}
use Rattle.words.proofs.AtomLaws.{term_of, is_var_term, termed, term_var}
use Rattle.words.specs.Atom.{term_word, TermSays}
use Rattle.words.specs.declared.Term.TheVariants.{Var, Global, Literal}
use Rattle.words.specs.declared.Term.{Term}
use Rattle.free_vars.specs.First.{binds, is_var_word, first_free, first_free_at}

-- the other branch of `let Term::Var(..) = t else`
not_var : (t : Term) → ((v : ℕ) → t ≡ Var v → ⊥) → is_var_term t ≡ false
not_var (Var w) h = absurd (h w refl)
not_var (Global w) h = refl
not_var (Literal w) h = refl

is_var_lem : (G w : ℕ) → is_var_term (term_of G w) ≡ is_var_word G w
is_var_lem G w = term_var (record { globals = G; value_eq = 0; flag = false; kinds = [] }) w

-- word i of the head is the variable v, and `bound` says whether the word before binds it
pub record Variable (G : ℕ) (ws : List ℕ) (from i v : ℕ) (bound : Bool) : Type 0 where
  pub is : v ≡ get_or ws (from + i) 0
  pub var : is_var_word G v ≡ true
  pub told : binds (get_or ws (from + i - 1) 0) ≡ bound

pub variable : {G : ℕ} {ws : List ℕ} {from i w v : ℕ} {t : Term} {bound : Bool} → w ≡ get_or ws (from + i) 0 → TermSays t G w → t ≡ Var v
    → bound ≡ binds (get_or ws (from + i - 1) 0) → Variable G ws from i v bound
variable {G} {ws} {from} {i} {w} {v} read is e says =
    let same : v ≡ w = ap term_word (sym e) ∙ is.word_is in
    record { is = same ∙ read; var = ap (is_var_word G) same ∙ sym (is_var_lem G w) ∙ ap is_var_term (sym (termed is) ∙ e); told = sym says }

-- a word below the names is no variable
pub low_none : (G w : ℕ) → w < name_base → is_var_word G w ≡ false
low_none G w h = ap₂ ◌||◌ (lt-leb fresh_base w (omega arith)) (lt-leb (name_base + G) w (omega arith))

module _ (G : ℕ) (ws : List ℕ) (from i : ℕ) where
  -- nor is a term of another kind
  pub no_variable : {w : ℕ} {t : Term} → w ≡ get_or ws (from + i) 0 → TermSays t G w → ((v : ℕ) → t ≡ Var v → ⊥)
      → is_var_word G (get_or ws (from + i) 0) ≡ false
  no_variable {w} {t} read is h = ap (is_var_word G) (sym read) ∙ sym (is_var_lem G w) ∙ ap is_var_term (sym (termed is)) ∙ not_var t h

  pub none_free : is_var_word G (get_or ws (from + i) 0) ≡ false → first_free_at G ws from i ≡ false
  unfolding first_free
  none_free e = ap (λ (b : Bool). b && (not (binds (get_or ws (from + i - 1) 0)) && not (elem (get_or ws (from + i) 0) (part ws from i)))) e

module _ {G : ℕ} {ws : List ℕ} {from i v : ℕ} {bound : Bool} (x : Variable G ws from i v bound) where
  pub word_var : is_var_word G (get_or ws (from + i) 0) ≡ true
  word_var = ap (is_var_word G) (sym x.is) ∙ x.var

  -- a target is not free, and another variable is if it was not seen
  pub bound_free : bound ≡ true → first_free_at G ws from i ≡ false
  unfolding first_free
  bound_free h =
      let w : ℕ = get_or ws (from + i) 0 in
      ap (λ (b : Bool). is_var_word G w && (not b && not (elem w (part ws from i)))) (x.told ∙ h) ∙ and-false (is_var_word G w)

  pub var_free : bound ≡ false → first_free_at G ws from i ≡ not (elem v (part ws from i))
  unfolding first_free
  var_free h =
      (λ j. word_var j && (not ((x.told ∙ h) j) && not (elem (get_or ws (from + i) 0) (part ws from i)))) ∙ ap (λ (w : ℕ). not (elem w (part ws from i))) (sym x.is)
