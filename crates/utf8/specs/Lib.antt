pub mod Decoding
pub mod Claims
