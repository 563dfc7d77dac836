pub mod Alone
pub mod Repeating
pub mod Stable
pub mod Tails
pub mod Texts
pub mod Varints
