pub mod Forms
pub mod Points
pub mod Leads
pub mod Claims
