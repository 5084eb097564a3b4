-- What the contracts of the programs' input cite.
pub mod Counts
