-- Laws that the proofs of this crate share with those above it, in reading order.
pub mod Scopes
pub mod Body
pub mod Pieces
pub mod Sites
pub mod Expressions
pub mod Arguments
pub mod Calls
pub mod Binding
pub mod Fronts
