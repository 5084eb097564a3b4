-- What the contracts of settling cite: one file a module.
pub mod Joining
pub mod Settle
