pub mod Answering
pub mod Waiting
pub mod Fetched
pub mod Single
pub mod Serving
pub mod Owed
pub mod States
