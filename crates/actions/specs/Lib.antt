-- What contracts of this crate, and of those above it, cite.
pub mod Acts
pub mod Lowers
