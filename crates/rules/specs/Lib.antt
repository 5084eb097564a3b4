-- Document 01, in its order
pub mod Words
pub mod Signature
pub mod Written
pub mod Flat
pub mod ToQuery
pub mod ToCoreActions
pub mod Canonicalize
pub mod RemoveDupVars
pub mod FreeVars
pub mod Refusals
pub mod Calls
pub mod Program
-- The trial rules of 01
pub mod Trials
-- What document 02 asks to be shown of these definitions: Req 03
pub mod Digits
