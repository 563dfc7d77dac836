pub mod Names
pub mod Tests
pub mod Batches
pub mod Laws
