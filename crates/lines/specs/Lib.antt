pub mod Lines
pub mod Held
pub mod Chunks
pub mod Claims
