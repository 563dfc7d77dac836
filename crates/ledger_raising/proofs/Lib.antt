pub mod Rising
pub mod Replay
pub mod Admitted
pub mod Laws
pub mod Grown
pub mod Steps
