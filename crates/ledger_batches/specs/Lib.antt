pub mod Batches
pub mod Slots
pub mod Sealing
pub mod Applying
pub mod Shown
