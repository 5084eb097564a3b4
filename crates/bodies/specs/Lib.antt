-- What contracts of this crate, and of those above it, cite: terms, atoms where they stand, buckets, and what a walk over a body tells.
pub mod Terms
pub mod Standing
pub mod Buckets
pub mod Shapes
