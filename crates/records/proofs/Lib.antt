-- What the proofs of this crate share, and what those above it cite.
pub mod Items
pub mod WrittenWhole
pub mod FlatWhole
pub mod FlatWords
