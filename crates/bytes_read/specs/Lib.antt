pub mod Places
pub mod PartsAt
