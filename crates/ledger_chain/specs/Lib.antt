pub mod Writes
pub mod Chain
pub mod Changes
pub mod Faults
