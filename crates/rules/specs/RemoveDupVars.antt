-- 01, "Settling": merge passes, the source's `remove_dup_vars`, and settling as a whole.
--
--     canonical  (f y @f.0) (f y @f.1)      settled  (f y @f.1), and @f.0 is bound to @f.1
--
-- Assumes nothing: these are definitions.
use Rattle.std.specs.Prelude.{ℕ, zero, suc, Bool, false, ◌||◌, ◌&&◌, cond, not, List, [], ◌∷◌, ◌++◌, map, length, eqb}
use Rattle.rules.specs.Signature.{Sig, same_term, same_terms}
use Rattle.rules.specs.Flat.{Tab, Atom, eqn, tab}
use Rattle.rules.specs.Canonicalize.{Replacement, canonicalize}

-- ---- a merge pass

-- alike in head and inputs: the atoms of a group
abbrev pub alike : Tab → Tab → Bool
alike a b = eqb a.head b.head && same_terms a.ins b.ins

abbrev pub seen : Tab → List Tab → Bool
seen a [] = false
seen a (b ∷ bs) = alike b a || seen a bs

-- the first atom of each group stays; `firsts` are those of the groups met before
abbrev pub keep : List Tab → List Tab → List Tab
keep firsts [] = []
keep firsts (a ∷ xs) =
    let old = keep firsts xs in
    let new = a ∷ keep (a ∷ firsts) xs in
    cond (seen a firsts) old new

-- each later output of a's group that is unlike a's gives an equality of both. It has no place of its own: 0, as the Rust gives it the rule's span
abbrev pub clashes : Tab → List Tab → List Atom
clashes a [] = []
clashes a (b ∷ xs) =
    cond (alike a b && not (same_term a.out b.out)) (eqn 0 a.out b.out ∷ clashes a xs) (clashes a xs)

-- the equalities of all groups, which follow their first atoms
abbrev pub merged : List Tab → List Tab → List Atom
merged firsts [] = []
merged firsts (a ∷ xs) =
    let old = merged firsts xs in
    let new = clashes a xs ++ merged (a ∷ firsts) xs in
    cond (seen a firsts) old new

-- ---- passes, until one gives no equality

-- a settled body: atoms of heads, the replacements, the last one first, and the passes made
pub record Settled : Type 0 where
  pub tabs : List Tab
  pub repls : List Replacement
  pub passes : ℕ

-- what follows a pass that gave these equalities and kept ts: they go in front, canonicalize runs, and another pass follows
abbrev pub after_pass : Sig → List Atom → List Tab → List Replacement → ℕ → (List Tab → List Replacement → ℕ → Settled) → Settled
after_pass s [] ts rs k go = record { tabs = ts; repls = rs; passes = suc k }
after_pass s (e ∷ es) ts rs k go =
    let c = canonicalize s (e ∷ es ++ map tab ts) rs in
    go c.tabs c.repls (suc k)

-- at most n passes, k having been made before
abbrev pub remove_dup_vars : Sig → ℕ → List Tab → List Replacement → ℕ → Settled
remove_dup_vars s zero ts rs k = record { tabs = ts; repls = rs; passes = k }
remove_dup_vars s (suc n) ts rs k = after_pass s (merged [] ts) (keep [] ts) rs k (λ us qs j. remove_dup_vars s n us qs j)

-- ---- the whole: no more passes than the atoms and one are ever made, which is proved where the laws of settling are

abbrev pub settle : Sig → List Atom → Settled
settle s xs =
    let c = canonicalize s xs [] in
    remove_dup_vars s (suc (length xs)) c.tabs c.repls 0
