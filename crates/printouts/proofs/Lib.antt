pub mod Lines
pub mod Lengths
pub mod Claims
