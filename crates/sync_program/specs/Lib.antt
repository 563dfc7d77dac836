pub mod Fresh
pub mod Run
pub mod Text
