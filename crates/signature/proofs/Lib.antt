-- What the proofs of this crate share, and the laws of a signature that later code cites.
pub mod Laws
