pub mod Seeing
pub mod Answering
pub mod Visiting
pub mod Claims
