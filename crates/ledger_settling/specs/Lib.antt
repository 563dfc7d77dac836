pub mod Blocks
pub mod Reports
pub mod Faults
pub mod Slots
pub mod Rounds
