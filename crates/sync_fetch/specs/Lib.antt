pub mod Exchange
pub mod Told
pub mod Served
pub mod States
