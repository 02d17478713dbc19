-- How the solution moves when leanings change: which pairs shift and which settle, what the marks tell, how many visits that takes, which
-- pairs can turn at all; last, that the moved values are the new solution.
pub mod Marks
pub mod SettleRule
pub mod ShiftRule
pub mod UpTo
pub mod Visits
pub mod MarkTurns
pub mod TurnsLead
pub mod MoveSolution
