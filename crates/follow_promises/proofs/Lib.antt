pub mod Fours
pub mod Laters
mod Peering
mod Runs
