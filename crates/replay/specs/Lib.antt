-- What the contracts of this program cite.
pub mod Differences
pub mod Cases
pub mod Fronts
