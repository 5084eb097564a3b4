-- Laws that the proofs of this crate share with those above it, in reading order.
pub mod Pieces
pub mod Acting
pub mod Lets
pub mod Pairs
pub mod Closing
pub mod Changes
pub mod NameSets
