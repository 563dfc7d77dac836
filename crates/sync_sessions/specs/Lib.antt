pub mod Ends
pub mod Hearing
pub mod Steps
pub mod Replying
pub mod Sessions
pub mod Turns
pub mod Compact
pub mod Running
