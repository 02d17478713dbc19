-- Systems of Boolean equations in blocks, from what their solution is to how an update may be cut anywhere. A folder leans on those
-- before it.
pub mod solution
pub mod moving
pub mod machine
pub mod lists
pub mod slices
