pub mod Points
pub mod Ahead
