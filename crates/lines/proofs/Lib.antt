-- Laws that the proofs of this crate share, and for callers: a line, all lines, the signature's length, and what is printed.
pub mod Chunks
pub mod Spelling
pub mod AllLines
pub mod Answers
pub mod Enough
pub mod SignatureLengths
pub mod Texts
pub mod RoundTrip
