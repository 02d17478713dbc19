pub mod BatchLaws
pub mod Reads
pub mod Moving
pub mod Reports
