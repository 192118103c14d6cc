pub mod Promise
pub mod Passes
pub mod Claims
