pub mod Making
pub mod Names
pub mod Opening
pub mod Settled
pub mod Sums
pub mod Turns
pub mod Calm
