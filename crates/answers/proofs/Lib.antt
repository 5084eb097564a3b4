pub mod Whole
pub mod Slices
pub mod Tests
pub mod Ends
pub mod Lent
pub mod Calls
