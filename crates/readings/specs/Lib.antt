pub mod Modes
pub mod Acts
pub mod Deeds
pub mod Fields
pub mod Words
pub mod Readings
pub mod Left
pub mod Print
