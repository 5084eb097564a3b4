-- Laws of a merge pass on a scratch, in reading order: from links to the whole, and its groups for what follows it.
pub mod ChainLaws
pub mod Linking
pub mod Links
pub mod Marks
pub mod Groups
pub mod Following
pub mod Runs
pub mod MergingOne
pub mod MergingAll
pub mod PassGroups
