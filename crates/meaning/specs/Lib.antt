pub mod Meaning
pub mod Demand3
pub mod FreshVars
-- What is promised of settling and of the sizes of results
pub mod Bounds
pub mod Weight
-- For code that settles where the words stand
pub mod ReadBack
pub mod Signatures
pub mod Numbers
