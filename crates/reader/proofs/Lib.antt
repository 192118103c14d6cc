pub mod Whole
pub mod Parts
pub mod Copying
pub mod OneCell
pub mod Answering
pub mod Claims
