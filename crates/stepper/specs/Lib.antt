pub mod Promise
pub mod Claims
