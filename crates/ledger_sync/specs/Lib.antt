pub mod Brought
pub mod Compacts
pub mod Forms
pub mod Logs
pub mod Served
