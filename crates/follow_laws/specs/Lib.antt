pub mod Alike
pub mod Chained
pub mod Cut
pub mod Raised
pub mod Replayed
