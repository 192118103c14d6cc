pub mod Passes
pub mod Middle
