pub mod Word
pub mod Atom
