pub mod Settled
pub mod Newest
pub mod Behind
pub mod Changing
