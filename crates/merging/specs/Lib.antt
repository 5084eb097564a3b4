-- What the contracts of a merge pass, and those of settling, cite: one file a module.
pub mod Chains
pub mod RemoveDupVars
