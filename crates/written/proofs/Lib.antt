-- What the proofs of this crate share, and what those above it cite: walks that follow readings, an expected word, where a reading ends, and rows.
pub mod Walking
pub mod Expected
pub mod Ends
pub mod Laws
pub mod Rows
