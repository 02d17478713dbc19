pub mod Spelled
pub mod SpelledLaws
