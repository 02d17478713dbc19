pub mod Program
pub mod ShortLines
pub mod Steps
pub mod Running
pub mod Whole
