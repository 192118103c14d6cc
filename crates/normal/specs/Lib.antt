pub mod Counts
pub mod Copies
