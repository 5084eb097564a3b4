-- What proofs about refusals share.
pub mod Passing
