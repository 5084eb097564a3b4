-- What the contracts of this program cite, beside the definitions of 01.
pub mod Answers
pub mod Room
