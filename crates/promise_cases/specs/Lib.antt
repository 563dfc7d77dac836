pub mod Cases
pub mod Served
pub mod Sessions
pub mod Texts
