pub mod Told
pub mod Settles
pub mod Rows
