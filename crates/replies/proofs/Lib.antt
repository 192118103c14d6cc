pub mod Replies
pub mod Lengths
pub mod Claims
