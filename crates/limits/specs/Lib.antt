pub mod Limits
pub mod Claims
