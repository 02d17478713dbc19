pub mod Reading
pub mod Going
pub mod ChangeTurns
pub mod GoingLaws
pub mod Passing
pub mod PassingLaws
pub mod CodedBatch
