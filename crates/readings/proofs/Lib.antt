pub mod Words
pub mod Sight
pub mod Settling
pub mod Tested
pub mod Turning
pub mod Numbers
pub mod Print
