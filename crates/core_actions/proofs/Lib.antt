-- Laws that the proofs of this crate share with those above it, in reading order.
pub mod Forests
pub mod SetSides
pub mod UnionAsSet
pub mod ReadActions
pub mod ByCode
pub mod ActionRows
pub mod HeadRows
