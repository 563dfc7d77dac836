pub mod Syncing
mod Fresh
