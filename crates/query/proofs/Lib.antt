-- Laws that the proofs of this crate share with those above it, in reading order.
pub mod Pieces
pub mod Spots
pub mod Direct
pub mod Exprs
pub mod Arguments
pub mod Calls
pub mod Facts
pub mod FactRows
