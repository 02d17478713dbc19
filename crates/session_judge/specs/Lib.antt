pub mod Checks
pub mod Passed
