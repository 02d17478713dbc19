pub mod Boundary
pub mod Ways
