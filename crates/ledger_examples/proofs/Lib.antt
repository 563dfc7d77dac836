pub mod Batching
pub mod Making
pub mod Agreeing
pub mod Runs
