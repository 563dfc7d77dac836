pub mod Floors
pub mod Varints
pub mod Indexing
pub mod Logs
pub mod Living
