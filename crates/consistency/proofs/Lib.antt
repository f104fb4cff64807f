pub mod Worlds
pub mod Kept
pub mod Journals
pub mod Theorem
pub mod Refusals
