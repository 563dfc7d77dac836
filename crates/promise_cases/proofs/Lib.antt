pub mod Adding
pub mod Fetches
pub mod States
pub mod Trackers
pub mod Trees
mod Refusals
pub mod Sessions
mod Parts
mod Pruned
mod Raises
mod Texts
