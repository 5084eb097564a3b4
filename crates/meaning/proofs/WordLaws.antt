-- How many words atoms and bindings have, and what a replacement does to the words of a body: it may run over all of them, the first words of atoms
-- too, since none of those is a variable.
-- Assumes nothing.
use Prim.Native.Nat.{ℕ, suc, ◌+◌, ◌*◌, ◌≤◌, ◌<◌}
use native.Mathlib.Omega.{arith}
use mathlib.Core.Path.{◌≡◌, refl, sym, ◌∙◌, ap, ap₂}
use mathlib.Core.Bool.{Bool, true, false, cond, ◌||◌}
use mathlib.Core.List.{List, [], ◌∷◌, ◌++◌, map}
use lib.ListN.{length, length-map, length-append}
use lib.Dec.{leb}
use borrow.Author.Tests.{leb-true, ne_eqb}
use Rattle.rules.specs.Words.{fresh_base, name_base, head_word, equality_word}
use Rattle.rules.specs.Signature.{Sig, is_var, is_fresh}
use Rattle.rules.specs.Flat.{Tab, Atom, eqn, tab, tab_words, atom_words, CoreAction, Let, Set, Delete, Subsume, Union, Panic, Call, action_words, words_of}
use Rattle.rules.specs.Canonicalize.{Replacement, replace_term, replace_tab, replace_atom, bindings}
use Rattle.meaning.specs.Meaning.{All}
use Rattle.meaning.specs.ReadBack.{Encodable}
use Rattle.meaning.proofs.Lists.{map_append}

-- ---- sizes

pub length_tab : (t : Tab) → length (tab_words t) ≡ length t.ins + 2
length_tab t = omega (arith, length-append t.ins (t.out ∷ []))

pub two_tab : (t : Tab) → 2 ≤ length (tab_words t)
two_tab t = omega (arith, length_tab t)

pub two_atom : (x : Atom) → 2 ≤ length (atom_words x)
two_atom (eqn p a b) = omega arith
two_atom (tab t) = two_tab t

pub two_action : (x : CoreAction) → 2 ≤ length (action_words x)
two_action (Let x t) = omega arith
two_action (Set h ts v) = omega arith
two_action (Delete h ts) = omega arith
two_action (Subsume h ts) = omega arith
two_action (Union a b) = omega arith
two_action (Panic l) = omega arith
two_action (Call x h ts) = omega arith

pub length_bindings : (rs : List Replacement) → length (bindings rs) ≡ length rs
length_bindings [] = refl
length_bindings (r ∷ rs) = ap suc (length_bindings rs)

pub bindings_words : (rs : List Replacement) → length (words_of action_words (bindings rs)) ≡ 3 * length rs
bindings_words [] = refl
bindings_words (r ∷ rs) = omega (arith, bindings_words rs)

pub tabs_words : (ts : List Tab) → words_of atom_words (map tab ts) ≡ words_of tab_words ts
tabs_words [] = refl
tabs_words (t ∷ ts) = ap (λ (l : List ℕ). tab_words t ++ l) (tabs_words ts)

-- ---- replacing in words

-- it changes no length
pub length_replaced : (r : Replacement) (xs : List Atom) → length (words_of atom_words (map (replace_atom r) xs)) ≡ length (words_of atom_words xs)
length_replaced r [] = refl
length_replaced r (eqn p a b ∷ xs) = omega (arith, length_replaced r xs)
length_replaced r (tab t ∷ xs) =
    omega (
      arith,
      length_replaced r xs,
      length_tab t,
      length_tab (replace_tab r t),
      length-map t.ins (replace_term r),
      length-append (tab_words t) (words_of atom_words xs),
      length-append (tab_words (replace_tab r t)) (words_of atom_words (map (replace_atom r) xs)),
    )

-- a variable is above all words of other kinds
pub var_high : (s : Sig) (w : ℕ) → is_var s w ≡ true → name_base ≤ w
var_high s w e = go (is_fresh w) refl e
  where
    go : (b : Bool) → is_fresh w ≡ b → (b || leb (name_base + s.globals) w) ≡ true → name_base ≤ w
    go true f k = let h = leb-true fresh_base w f in omega arith
    go false f k = let h = leb-true (name_base + s.globals) w k in omega arith

low_kept : (s : Sig) (r : Replacement) → is_var s r.old ≡ true → (w : ℕ) → w < name_base → replace_term r w ≡ w
low_kept s r v w l = ap (λ (c : Bool). cond c r.new w) (ne_eqb w r.old (λ e. let h = var_high s r.old v in omega arith))

replace_atom_words : (s : Sig) (r : Replacement) → is_var s r.old ≡ true → (x : Atom) → Encodable x
    → map (replace_term r) (atom_words x) ≡ atom_words (replace_atom r x)
replace_atom_words s r v (eqn p a b) h =
    ap (λ (w : ℕ). w ∷ replace_term r a ∷ replace_term r b ∷ []) (low_kept s r v equality_word (omega arith))
replace_atom_words s r v (tab t) h =
    ap₂ ◌∷◌
    (low_kept s r v (head_word t.head (suc (length t.ins))) (omega arith) ∙ ap (λ (n : ℕ). head_word t.head (suc n)) (sym (length-map t.ins (replace_term r))))
    (map_append (replace_term r) t.ins (t.out ∷ []))

pub replace_words : (s : Sig) (r : Replacement) → is_var s r.old ≡ true → (xs : List Atom) → All Encodable xs
    → map (replace_term r) (words_of atom_words xs) ≡ words_of atom_words (map (replace_atom r) xs)
replace_words s r v [] h = refl
replace_words s r v (x ∷ xs) h =
    map_append (replace_term r) (atom_words x) (words_of atom_words xs) ∙ ap₂ ◌++◌ (replace_atom_words s r v x h.0) (replace_words s r v xs h.1)
