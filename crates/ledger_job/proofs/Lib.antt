pub mod Numbers
pub mod Cuts
pub mod Fields
pub mod Targets
pub mod Behind
pub mod Offences
