pub mod Going
pub mod Drawing
pub mod Carrying
pub mod Supposing
pub mod Fitting
