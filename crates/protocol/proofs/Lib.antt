pub mod Entries
pub mod FormerWrite
pub mod Refuted
pub mod Sessions
pub mod Exchanges
pub mod TwoSizes
pub mod Restarts
pub mod Laws
