-- 01, "Around it": the room in which the program works. Assumes nothing: these are definitions.
use Rattle.std.specs.Prelude.{◌≡◌, List, ℕ, ◌+◌, ◌*◌, ◌<◌, length, get_or}
use Rattle.rules.specs.Words.{scratch_words}

-- the longest answer: `ok`, three numbers of up to twenty digits, each behind a space, a line feed, and nine bytes for each word of the output
abbrev pub text_bytes : ℕ
text_bytes = 66 + scratch_words * 9

-- n bytes, all zero
pub record Zeros (n : ℕ) (l : List ℕ) : Type 0 where
  pub size : length l ≡ n
  pub zeros : (i : ℕ) → i < n → get_or l i 0 ≡ 0
