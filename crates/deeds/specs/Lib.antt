pub mod Acts
pub mod Deeds
pub mod Stages
pub mod Numbers
pub mod Claims
