-- Laws of `canonicalize` on a scratch, in reading order: spans, then from one replacement to the whole.
pub mod SpanLaws
pub mod SpansBuilt
pub mod SpansUsed
pub mod Replacing
pub mod Runs
pub mod Resolving
pub mod Fronts
pub mod Fronting
pub mod Canonicalizing
pub mod Walking
