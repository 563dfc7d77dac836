pub mod Ends
pub mod Growing
pub mod Kept
pub mod States
pub mod Batches
