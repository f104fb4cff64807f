pub mod Holders
pub mod Delivers
