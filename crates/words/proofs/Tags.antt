-- What the other branch of a `let Some(Word::K(..)) = w else` says of a word: the word's kind is not K's. Assumes nothing.
use mathlib.Core.Path.{◌≡◌, refl, subst, ◌∙◌}
use mathlib.Core.Bool.{false, not, cond}
use mathlib.Core.List.{List, [], ◌∷◌}
use Prim.Native.Nat.{ℕ}
use lib.Dec.{T, eqb}
use Rattle.std.specs.Prelude.{Some}
use borrow.Author.Tests.{ne_eqb}
use types.Run.{OneOf, miss}
use mir.Val.{has_key}
use denote.Enum.Declared.{tag_of}
use Rattle.words.specs.Word.{kind}
use Rattle.words.specs.declared.Word.{Word}
use Rattle.words.specs.declared.Word.TheVariants.{Fresh, Name, Literal, Head, Equality, Header, Action, Signature}
use Rattle.words.specs.declared.Term.{Term}
use Rattle.words.specs.declared.Term.TheVariants as case
use Rattle.words.proofs.AtomLaws.{is_var_term}
use Rattle.words.specs.contracts.Term as term
use Rattle.words.specs.contracts.Word.{the_type}

-- the variants stand in the order of the kinds
pub tag_is_kind : (w : Word) → tag_of the_type w ≡ kind (Some w)
tag_is_kind (Fresh h n) = refl
tag_is_kind (Name n) = refl
tag_is_kind (Literal n) = refl
tag_is_kind (Head h n) = refl
tag_is_kind (Equality n) = refl
tag_is_kind (Header a b) = refl
tag_is_kind (Action n) = refl
tag_is_kind (Signature n) = refl

abbrev without : ℕ → List ℕ → List ℕ
without k [] = []
without k (j ∷ js) = cond (eqb j k) (without k js) (j ∷ without k js)

-- every kind but k, as an `else` names them
abbrev pub others : ℕ → List ℕ
others k = without k (0 ∷ 1 ∷ 2 ∷ 3 ∷ 4 ∷ 5 ∷ 6 ∷ 7 ∷ [])

-- at a numeral k the first premise is `tt`
pub other_kind : (k : ℕ) (w : Word) → T (not (has_key (others k) k)) → OneOf (others k) (tag_of the_type w) → eqb (kind (Some w)) k ≡ false
other_kind k w t h = ne_eqb (kind (Some w)) k (λ e. miss (others k) k t (subst (OneOf (others k)) (tag_is_kind w ∙ e) h))

-- the other branch of `let Term::Var(..) = t else`, or the other arm of a `match` with this one
pub no_variable : (t : Term) → OneOf (1 ∷ 2 ∷ []) (tag_of term.the_type t) → is_var_term t ≡ false
no_variable (case.Var w) h = absurd (miss (1 ∷ 2 ∷ []) 0 tt h)
no_variable (case.Global w) h = refl
no_variable (case.Literal w) h = refl
