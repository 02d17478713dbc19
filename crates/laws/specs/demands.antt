-- The owner's three demands: the values of a load and of a question; what a batch accepts, edits and turns, and that it equals a fresh load;
-- that a refusal changes nothing; and that one outcome fits each call.
pub mod ValuesSolve
pub mod LoadSolves
pub mod AskSolves
pub mod BatchAccepts
pub mod BatchEdits
pub mod BatchTurns
pub mod BatchReload
pub mod Refusals
pub mod OneOutcome
