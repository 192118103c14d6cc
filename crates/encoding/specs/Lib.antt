pub mod Encoding
pub mod Claims
