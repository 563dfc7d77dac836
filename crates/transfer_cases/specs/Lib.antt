pub mod Fives
pub mod Payments
pub mod Promised
