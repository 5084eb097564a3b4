-- The least and the greatest of the variables that are targets. A variable that an action has bound lies between them: `row_unseen` in
-- `proofs/Bounds` says that no other needs to be looked for.
-- Assumes nothing: these are definitions.
use Rattle.std.specs.Prelude.{ℕ, zero, suc, ◌+◌, ◌-◌, min, max, Bool, ◌&&◌, cond, List, ◌≡◌, leb, get_or}
use Rattle.free_vars.specs.First.{binds, is_var_word}

-- v lies from low to high
abbrev pub between : (low high : ℕ) → ℕ → Bool
between low high v = leb low v && leb v high

-- word i of the head that starts at `from` is a target, and a variable
abbrev pub target_at : (G : ℕ) → List ℕ → (from i : ℕ) → Bool
target_at G ws from i = is_var_word G (get_or ws (from + i) 0) && binds (get_or ws (from + i - 1) 0)

-- the least of those among the first n words, and the greatest; where there is none, the greatest word and 0, so that nothing lies between
unfoldable pub least : (G : ℕ) → List ℕ → (from n : ℕ) → ℕ
least G ws from zero = 0xffff_ffff
least G ws from (suc n) = cond (target_at G ws from n) (min (get_or ws (from + n) 0) (least G ws from n)) (least G ws from n)

unfoldable pub greatest : (G : ℕ) → List ℕ → (from n : ℕ) → ℕ
greatest G ws from zero = 0
greatest G ws from (suc n) = cond (target_at G ws from n) (max (get_or ws (from + n) 0) (greatest G ws from n)) (greatest G ws from n)

-- low and high are these two
pub record Targets (G : ℕ) (ws : List ℕ) (from n : ℕ) (low high : ℕ) : Type 0 where
  pub bottom : low ≡ least G ws from n
  pub top : high ≡ greatest G ws from n
