pub mod Dialing
pub mod Listening
