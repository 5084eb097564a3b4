-- What the contracts of this crate cite, beside the definitions of 01.
pub mod Reading
pub mod Printing
-- What is promised of reading and printing together
pub mod RoundTrip
