pub mod Batches
pub mod Meaning
pub mod Logs
