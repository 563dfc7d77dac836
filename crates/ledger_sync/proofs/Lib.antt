pub mod Reading
pub mod Opening
pub mod Serving
pub mod Compacting
pub mod Numbering
pub mod Bringing
pub mod Counts
