pub mod Seen
pub mod Turns
pub mod Examples
pub mod Counting
pub mod Best
pub mod Theorem
pub mod Readings
