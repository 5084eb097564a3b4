pub mod SettleGood
pub mod Settled
