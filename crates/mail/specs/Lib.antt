pub mod Images
pub mod Stored
pub mod Puts
