pub mod Printed
pub mod Digits
pub mod Lengths
pub mod Claims
