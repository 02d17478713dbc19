-- The refusals by their numbers; and refusals 5 and 16, exactly: when they are given, and at which byte.
pub mod Numbered
pub mod SignsRefused
pub mod FivePlace
pub mod SixteenPlace
