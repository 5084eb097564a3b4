-- Laws of tests, and what is promised of the definitions
pub mod Tests
pub mod Digits
pub mod Trials
