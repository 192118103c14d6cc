pub mod Becoming
pub mod Counts
pub mod Turns
pub mod Lengths
