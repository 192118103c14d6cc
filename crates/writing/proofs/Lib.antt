pub mod Joined
pub mod Writing
