pub mod Reading
pub mod Strays
pub mod Adding
pub mod Compacts
