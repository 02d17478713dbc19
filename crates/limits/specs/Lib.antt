pub mod Lent
pub mod HighestBit
