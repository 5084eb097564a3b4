-- What the contracts of `canonicalize`, and those of settling, cite: one file a module.
pub mod Spans
pub mod Canonicalize
