pub mod Looks
pub mod Pairs
pub mod Places
pub mod Outwards
