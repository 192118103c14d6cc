pub mod Shows
pub mod Demands
