pub mod Changes
pub mod Judging
pub mod Faults
pub mod Fits
pub mod Hangs
