pub mod Printed
pub mod Pages
pub mod Claims
