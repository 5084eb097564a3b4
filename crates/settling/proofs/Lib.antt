-- Laws of settling on a scratch, in reading order: one equality of a pass, a group of them, all groups, and what they leave put in order; settling.
pub mod JoinOne
pub mod Replaced
pub mod JoinGroup
pub mod GroupWords
pub mod JoinAll
pub mod JoinAgain
pub mod Settling
