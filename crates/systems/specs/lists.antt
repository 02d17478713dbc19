-- The machine on lists, as code has it: places that are sought, rows that are looked at at once, loops; last, that a run on lists is a run
-- of the machine.
pub mod ListMachine
pub mod Seeks
pub mod ListUnits
pub mod ListCourse
pub mod SeekStands
pub mod ListKeeps
pub mod HardVisits
pub mod Steady
pub mod Places
pub mod Rows
pub mod RowLaws
pub mod RowRuns
pub mod Midst
pub mod Loops
pub mod ListsMove
