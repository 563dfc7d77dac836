pub mod Lines
pub mod Links
pub mod Growing
pub mod Serving
pub mod Ending
pub mod Outcomes
