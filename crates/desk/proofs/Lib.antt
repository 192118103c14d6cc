pub mod Unique
pub mod Demands
