-- Laws that the proofs of this crate use, in reading order.
pub mod SignatureWords
pub mod RuleWords
pub mod BodySizes
pub mod Joined
