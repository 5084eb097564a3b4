pub mod Lists
pub mod SameTerms
pub mod Results
pub mod Fresh
pub mod Query
pub mod Settling
pub mod Unions
pub mod CoreActions
pub mod Reading
pub mod CoreRule
pub mod Encoded
pub mod Fits
pub mod FreshVars
pub mod SignatureLaws
-- Settling comes to its end
pub mod CanonicalizeEnds
pub mod MergePass
pub mod RemoveDupVarsEnds
pub mod Terms
pub mod DistinctWords
pub mod Replacements
pub mod SettledTerms
-- The sizes of what is read, lowered and settled
pub mod WordLaws
pub mod Sizes
pub mod Room
pub mod SmallAtoms
pub mod SmallAtomsMerged
pub mod ReadSizes
pub mod ReadFlatSizes
pub mod BodySizes
pub mod LoweredBody
pub mod HeadSizes
pub mod ResultBounds
-- Counters
pub mod PastHeads
-- For code that settles where the words stand
pub mod ReadBack
pub mod Unplaced
pub mod Encodable
pub mod Signatures
pub mod Sweep
pub mod Passes
-- Numbers of refusals
pub mod Numbers
-- Demand 3
pub mod Demand3
pub mod Demand3Bytes
pub mod Example
pub mod Strength
