pub mod Types
pub mod Ranges
pub mod Rules
pub mod Example
