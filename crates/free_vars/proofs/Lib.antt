-- Laws. Sets and Free are about 01's definition; Reading, Found, Bounds and Atoms about the words of a rule; Terms, Moving, Searching, Adding and Writing
-- about the steps of the row; Bits, Listing, Gathering, Marking, Spanning and Sweeping about those of the spans.
pub mod Sets
pub mod Free
pub mod Reading
pub mod Found
pub mod Bounds
pub mod Atoms
pub mod Terms
pub mod Moving
pub mod Searching
pub mod Adding
pub mod Writing
pub mod Bits
pub mod Listing
pub mod Gathering
pub mod Marking
pub mod Spanning
pub mod Sweeping
