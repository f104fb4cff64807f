pub mod Replays
pub mod Rests
pub mod Watch
pub mod Watches
