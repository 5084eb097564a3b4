-- What contracts of this crate, and of those above it, cite.
pub mod Log
pub mod Steps
pub mod Leaves
