pub mod Updates
pub mod Held
