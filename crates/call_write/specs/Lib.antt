pub mod WriteLaws
pub mod Leaves
