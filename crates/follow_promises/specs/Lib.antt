pub mod Four
pub mod Runs
