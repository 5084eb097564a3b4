-- Laws that the proofs of this program share: how the words are cut, what lowering tells, and what is then printed.
pub mod Cut
pub mod Cutting
pub mod Telling
pub mod Whole
