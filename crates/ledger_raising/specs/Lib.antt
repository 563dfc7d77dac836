pub mod Raised
pub mod Updates
