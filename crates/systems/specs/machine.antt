-- The step machine that moves the values, by one look or one turn at a time; last, that it ends where the rule does, for an update and
-- for a load.
pub mod Worklist
pub mod WorklistEnds
pub mod Machine
pub mod Leaners
pub mod HardPairs
pub mod Looks
pub mod Phases
pub mod PhaseKeeps
pub mod UnitKeeps
pub mod BlockEnds
pub mod Course
pub mod RunKeeps
pub mod Dues
pub mod MachineMoves
pub mod LoadSolves
