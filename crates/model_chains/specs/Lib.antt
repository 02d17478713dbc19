pub mod Ranged
pub mod Filled
pub mod Reaching
pub mod Numbering
pub mod Stored
pub mod Numbers
