-- What the promise on digits (02, Req 03) comes to for whole texts, as a statement. It is proved in proofs/RoundTrip.antt, and can be read with Program of
-- `rules` alone. Assumes nothing.
use Rattle.std.specs.Prelude.{ℕ, ◌^◌, ◌≤◌, ◌<◌, ◌≡◌, ◌↔◌, List, length}
use Rattle.rules.specs.Words.{max_lines}
use Rattle.rules.specs.Refusals.{ok}
use Rattle.rules.specs.Flat.{words_of}
use Rattle.rules.specs.Program.{word_line, read_lines}
use Rattle.meaning.specs.Meaning.{All}

-- bytes are read as words exactly if they are these words printed, a line each, and the words are of 32 bits and no more than the lines that are read. So what
-- is printed reads back, no word has a second spelling, and no other text is taken
abbrev pub TextOfWords : Type 0
TextOfWords =
    (input ws : List ℕ) → All (λ (b : ℕ). b < 256) input
    → (read_lines input ≡ ok ws) ↔ ((length ws ≤ max_lines) × All (λ (w : ℕ). w < 2 ^ 32) ws × (input ≡ words_of word_line ws))
