pub mod States
pub mod SignWords
pub mod Entries
pub mod Chosen
pub mod Numbers
