-- 01, demand 3, of the exported call: whatever bytes `tulgarent_lower` answers with number 0 are a lowered rule that is faithful to the written one. It is
-- said of all that the contract allows. Assumes nothing: this is a definition.
use Rattle.std.specs.Prelude.{ℕ, ◌*◌, ◌≡◌, List, take}
use Rattle.octets.specs.Words.{words}
use Rattle.rules.specs.Calls.{lower}
use Rattle.meaning.specs.Demand3.{CarriedFaithfully}
use Rattle.answers.specs.declared.Answer.{Answer}
use Rattle.answers.specs.Answers.{GivesBoth}

-- the first n words of the output l are a lowered rule, faithful to the written one, with so many replacements
abbrev pub Carried : (signature rule counters l : List ℕ) → (n replacements : ℕ) → Type 1
Carried signature rule counters l n k = CarriedFaithfully (words signature) (words rule) (words counters) (words (take (4 * n) l)) k

abbrev pub LoweredFaithful : Type 1
LoweredFaithful =
    (signature rule counters output : List ℕ) (scratch : ℕ) (r : Answer) (output' counters' : List ℕ)
    → GivesBoth (lower signature rule counters output scratch) r output' counters' → r.number ≡ 0
    → Carried signature rule counters output' r.words r.replacements
