pub mod Stored
pub mod StoreLaws
pub mod RunLaws
