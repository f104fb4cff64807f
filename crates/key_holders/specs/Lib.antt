pub mod Counts
pub mod Holders
