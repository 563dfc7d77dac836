pub mod Taking
pub mod Sharing
pub mod Texts
pub mod Causing
pub mod Calm
