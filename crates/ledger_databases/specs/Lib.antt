pub mod Targets
pub mod Managed
pub mod Laws
