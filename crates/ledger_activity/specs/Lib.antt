pub mod Active
pub mod Chunks
