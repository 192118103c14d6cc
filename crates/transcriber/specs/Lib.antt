pub mod Promise
pub mod Claims
pub mod Answering
