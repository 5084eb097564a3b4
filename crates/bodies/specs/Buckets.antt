-- Buckets of words and of atoms, in the definitions' words. Assumes nothing: these are definitions.
use Rattle.std.specs.Prelude.{List, [], ◌∷◌, ℕ, suc, ◌+◌, ◌*◌, ◌/◌, ◌%◌, length}
use Rattle.rules.specs.Words.{head_word}
use Rattle.rules.specs.Flat.{Tab}

-- a key with one word more
unfoldable pub mix : ℕ → ℕ → ℕ
mix k w = (k * 0x9e37_79b1 + w) % 0x1_0000_0000

-- a key with more words, in their order
unfoldable pub mix_all : ℕ → List ℕ → ℕ
mix_all k [] = k
mix_all k (w ∷ ws) = mix_all (mix k w) ws

-- the key of an atom's first word and inputs: the first word, with the others mixed into it
unfoldable pub key_of : List ℕ → ℕ
key_of [] = 0
key_of (w ∷ ws) = mix_all w ws

-- the bucket of a word, of so many
unfoldable pub bucket_of : (count w : ℕ) → ℕ
bucket_of count w = mix w 0 * count / 0x1_0000_0000

-- the bucket of an atom
unfoldable pub bucket_in : ℕ → Tab → ℕ
bucket_in count t = bucket_of count (key_of (head_word t.head (suc (length t.ins)) ∷ t.ins))
