pub mod Counting
pub mod Targets
pub mod Framing
pub mod Serving
pub mod Tapes
pub mod Texts
