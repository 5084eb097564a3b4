-- What contracts of this crate, and of those above it, cite.
pub mod Scopes
pub mod Sites
pub mod Lowered
