-- When lent rooms hold a model, and what they hold after an accepted call.
pub mod SessionHolds
pub mod Accepted
pub mod BatchSolved
