pub mod Runs
pub mod Journals
pub mod Theorem
