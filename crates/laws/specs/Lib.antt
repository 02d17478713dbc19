-- The owner's demands, proved of the rules. The theorems that matter stand in the last folder, `demands`; the others lead there.
pub mod bytes
pub mod chains
pub mod moves
pub mod model
pub mod session
pub mod refusals
pub mod demands
