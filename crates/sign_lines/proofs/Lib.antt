pub mod Signs
pub mod Walk
pub mod Claims
