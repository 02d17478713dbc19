pub mod Starts
pub mod Differences
pub mod BlockCount
