pub mod Takes
pub mod Gathered
