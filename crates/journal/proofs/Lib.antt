pub mod Watches
pub mod Examples
