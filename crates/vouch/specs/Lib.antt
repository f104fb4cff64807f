pub mod Answers
pub mod Choices
pub mod Checks
pub mod Seen
pub mod Theorem
pub mod Readings
