pub mod Synced
