pub mod Views
pub mod Restarts
