-- A model as a system of Boolean equations: the rule's words and the system's say the same, and the machine gives the rule's answers.
pub mod ModelSystem
pub mod Seeds
pub mod UpdateMoves
pub mod ModelLeaners
pub mod LookTest
pub mod MachineRules
pub mod ModelRows
pub mod LiveApart
pub mod Rewritten
