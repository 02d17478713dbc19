pub mod Lines
pub mod DecimalLaws
pub mod Copies
pub mod Signs
pub mod Lengths
pub mod Penned
