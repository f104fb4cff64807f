pub mod Fresh
pub mod Premise
pub mod Steps
pub mod Worlds
