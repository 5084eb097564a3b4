-- Laws that the proofs of this crate share with those above it: variables, atoms where they stand and compared there, buckets.
pub mod Standing
pub mod Alike
pub mod BucketLaws
pub mod Shapes
