pub mod Table
pub mod Joining
pub mod Sequences
pub mod Fronts
pub mod Claims
pub mod Inverse
