pub mod Answering
pub mod Pendings
pub mod Short
pub mod PlainData
pub mod Requests
pub mod Limits
