pub mod Orders
pub mod Decision
pub mod Logs
pub mod Verdict
pub mod Sorting
