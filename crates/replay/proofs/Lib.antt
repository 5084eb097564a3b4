-- Laws of the comparison.
pub mod Alike
