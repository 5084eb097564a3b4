-- What the proofs of this crate share, and what those above it cite: the laws of `word_of`, of terms and atoms, what an `else` tells of a word, and the word at an index.
pub mod Ranges
pub mod WordLaws
pub mod AtomLaws
pub mod Tags
pub mod WordAt
