pub mod Endings
pub mod Serves
