pub mod Agreement
pub mod Lookups
pub mod Observing
pub mod Starting
