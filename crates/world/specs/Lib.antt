pub mod Begins
pub mod Performs
