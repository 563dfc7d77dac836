pub mod History
pub mod Rule
pub mod Turns
pub mod Passes
pub mod Seated
