pub mod Steps
pub mod Room
pub mod Claims
