-- Laws that the proofs of this crate share with those above it, in reading order.
pub mod Log
pub mod Frames
pub mod Steps
pub mod Uses
pub mod Read
pub mod Rows
pub mod Words
pub mod Asks
pub mod Turns
pub mod LeavesUpTo
