-- The trial rules of 01 as theorems of the definitions: one proof for the call on bytes, and one for the program. They stand here, and not beside the
-- trials, so that a wrong definition is refused by them. Assumes nothing.
use Rattle.std.specs.Prelude.{◌≡◌, refl, [], ◌∷◌, ◌++◌, map}
use Rattle.octets.specs.Words.{words, bytes_of}
use Rattle.rules.specs.Flat.{words_of}
use Rattle.rules.specs.Calls.{lower}
use Rattle.rules.specs.Program.{word_line, program}
use Rattle.rules.specs.Trials.{took, turned_back, zeros, trials, given, wanted, prints, for_program}

-- ---- the call on bytes

pub all_trials : map given trials ≡ map (λ t. wanted t t.expected) trials
unfolding lower words bytes_of
all_trials = refl

-- ---- the program, for the trials whose counters are at zero and whose output is not short

pub all_printed : map (λ t. program (words_of word_line (t.signature ++ t.rule))) (for_program trials) ≡ map (λ t. prints t.expected) (for_program trials)
unfolding program
all_printed = refl

-- letter by letter: `ok 1 0 1` and the line `04000000` for P2, `refused 7 3` for P8
pub p2_text : prints (took (0x0400_0000 ∷ []) 0 1 zeros)
    ≡ 111 ∷ 107 ∷ 32 ∷ 49 ∷ 32 ∷ 48 ∷ 32 ∷ 49 ∷ 10 ∷ 48 ∷ 52 ∷ 48 ∷ 48 ∷ 48 ∷ 48 ∷ 48 ∷ 48 ∷ 10 ∷ []
p2_text = refl

pub p8_text : prints (turned_back 7 3) ≡ 114 ∷ 101 ∷ 102 ∷ 117 ∷ 115 ∷ 101 ∷ 100 ∷ 32 ∷ 55 ∷ 32 ∷ 51 ∷ 10 ∷ []
p8_text = refl
