pub mod Lowering
pub mod LowerCall
