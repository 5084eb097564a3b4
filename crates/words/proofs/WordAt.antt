-- The word at an index, as the code is told it: `There` is a word that is there and says something, `NotKind` one of another kind, or none. Assumes nothing.
use mathlib.Core.Path.{◌≡◌, refl, sym, ◌∙◌}
use mathlib.Core.Bool.{Bool, true, false, not, cond}
use mathlib.Core.List.{List}
use Prim.Native.Nat.{ℕ, ◌<◌}
use lib.ListN.{length, get_or}
use Rattle.std.specs.Prelude.{Option, Some, None}
use lib.Dec.{T, ltb, eqb, lit<}
use borrow.Author.Tests.{ltb-true, lt-ltb}
use types.Run.{OneOf}
use mir.Val.{has_key}
use denote.Enum.Declared.{tag_of}
use Rattle.words.specs.Word.{numbers, kind, numbers_of, WordSays}
use Rattle.words.specs.declared.Word.{Word}
use Rattle.words.proofs.Tags.{others, other_kind}
use Rattle.words.specs.contracts.Word.{the_type}
use Rattle.words.proofs.WordLaws.{word_of, answered, answers, unfit_low}

unfoldable pub word_at : List ℕ → ℕ → Option Word
word_at ws p = cond (ltb p (length ws)) (word_of (get_or ws p 0)) None

-- the one with the numbers there
pub word_is_lem : {ws : List ℕ} {p : ℕ} {x : Option Word} → WordSays x ws p → x ≡ word_at ws p
unfolding word_at
word_is_lem {ws} {p} {x} says = go (ltb p (length ws)) says.numbers_are
  where
    go : (b : Bool) → numbers x ≡ cond b (numbers_of (get_or ws p 0)) (numbers None) → x ≡ cond b (word_of (get_or ws p 0)) None
    go true e = answered (get_or ws p 0) e
    go false e = answered 0 (e ∙ answers 0 (unfit_low 0 (lit< tt))) ∙ unfit_low 0 (lit< tt)

-- w is the word at p
pub record Here (ws : List ℕ) (p w : ℕ) : Type 0 where
  pub inside : p < length ws
  pub is : w ≡ get_or ws p 0

-- the word at p is there, and says x
pub record There (ws : List ℕ) (p : ℕ) (x : Word) : Type 0 where
  pub inside : p < length ws
  pub says : word_of (get_or ws p 0) ≡ Some x

-- it is of another kind than k, if it is there
pub record NotKind (ws : List ℕ) (p k : ℕ) : Type 0 where
  pub other : p < length ws → eqb (kind (word_of (get_or ws p 0))) k ≡ false

-- w is what the code was told of it
module _ {ws : List ℕ} {p : ℕ} {w : Option Word} (read : WordSays w ws p) where
  pub there : {x : Word} → w ≡ Some x → There ws p x
  unfolding word_at
  there {x} is = go (ltb p (length ws)) refl (sym (word_is_lem read) ∙ is)
    where
      go : (b : Bool) → ltb p (length ws) ≡ b → cond b (word_of (get_or ws p 0)) None ≡ Some x → There ws p x
      go true t e = record { inside = ltb-true p (length ws) t; says = e }
      go false t e = cc

  other_than : (k : ℕ) → eqb (kind w) k ≡ false → NotKind ws p k
  unfolding word_at
  other_than k o = record { other = λ l. rw (lt-ltb p (length ws) l) at (rw (word_is_lem read) at o) }

  -- The other branch of a `let Some(Word::K(..)) = w else`: nothing that says something is there, or (`not_kind`) it is of another kind
  pub none_there : (k : ℕ) → eqb 8 k ≡ false → w ≡ None → NotKind ws p k
  none_there k t e = other_than k (rw e t)

-- at a numeral k the premise between is `tt`
pub not_kind : {ws : List ℕ} {p : ℕ} {x : Word} → WordSays (Some x) ws p → (k : ℕ) → T (not (has_key (others k) k)) → OneOf (others k) (tag_of the_type x)
    → NotKind ws p k
not_kind {x = x} read k t h = other_than read k (other_kind k x t h)
