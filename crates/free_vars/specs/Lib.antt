-- What contracts of this crate, and of those above it, cite: first what is asked and answered, then how it is found.
pub mod Head
pub mod First
pub mod Free
pub mod Targets
pub mod Row
pub mod Marks
pub mod Spans
