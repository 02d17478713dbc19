pub mod Rooms
pub mod RowLoops
pub mod Filled
pub mod Queued
