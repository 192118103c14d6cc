pub mod Machine
pub mod Unique
