-- The list of moves: which states have a move, what a batch makes of the list and of the stamp, and which states it leaves without.
pub mod Hanging
pub mod Edits
pub mod Emptied
