pub mod Started
pub mod LeanersFew
pub mod Course
pub mod Phase
pub mod PutRow
pub mod LookRow
pub mod Levels
pub mod Rounds
