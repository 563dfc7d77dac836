pub mod Generated
pub mod Runs
pub mod Sizes
pub mod Text
pub mod Words
