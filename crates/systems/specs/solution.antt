-- What the solution of a system is, that there is one and only one, and that finer blocks have the same.
pub mod System
pub mod Operands
pub mod Put
pub mod Top
pub mod SolveSolution
pub mod FinerBlocks
