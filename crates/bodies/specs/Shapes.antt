-- What a walk over a body tells of each atom: whether it is an equality, and how many words it has. Assumes nothing. The lower part is no definition but a
-- proof, `body_prop`, which stands here since the type of the walk names it: its ghost field says that its words are a body, and may say so in one way alone.
use Rattle.std.specs.Prelude.{Bool, false, true, List, [], ◌∷◌, ℕ, map, length}
use mathlib.Core.HLevel.{×_prop, Unit-prop}
use denote.Struct.Props.{props}
use Rattle.meaning.specs.Meaning.{All}
use Rattle.bodies.specs.Standing.{Bare, Body, atoms_in}
use Rattle.rules.specs.Flat.{Atom, eqn, tab, atom_words}
use Rattle.meaning.specs.ReadBack.{Encodable}
use Rattle.words.specs.declared.Atom as word
use Rattle.words.specs.declared.HeadOrEq.{HeadOrEq}
use Rattle.words.specs.declared.HeadOrEq.TheVariants.{Head, Eq}

abbrev pub is_eq : HeadOrEq → Bool
is_eq Eq = true
is_eq (Head h) = false

abbrev pub is_eqn : Atom → Bool
is_eqn (eqn p a b) = true
is_eqn (tab t) = false

-- of an atom as it is read where a body begins
abbrev pub seen : word.Atom → Bool × ℕ
seen a = (is_eq a.head, a.next)

-- of an atom as it is
abbrev pub shape : Atom → Bool × ℕ
shape x = (is_eqn x, length (atom_words x))

-- of all atoms that are read in some words
unfoldable pub shapes : List ℕ → List (Bool × ℕ)
shapes ws = map shape (atoms_in ws 0 (length ws))

-- ---- there is one way in which words are a body

all_prop : {A : Type 0} (P : A → Type 0) → ((x : A) → IsProp (P x)) → (xs : List A) → IsProp (All P xs)
all_prop P p [] = Unit-prop
all_prop P p (x ∷ xs) = ×_prop (p x) (all_prop P p xs)

encodable_prop : (x : Atom) → IsProp (Encodable x)
encodable_prop (eqn p a b) = Unit-prop
encodable_prop (tab t) = hlevel props

bare_prop : (x : Atom) → IsProp (Bare x)
bare_prop (eqn p a b) = hlevel props
bare_prop (tab t) = hlevel props

pub body_prop : (ws : List ℕ) → IsProp (Body ws)
body_prop ws =
    let fits = all_prop Encodable encodable_prop (atoms_in ws 0 (length ws)) in
    let bare = all_prop Bare bare_prop (atoms_in ws 0 (length ws)) in
    hlevel (props, fits, bare)
