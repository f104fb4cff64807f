pub mod Turns
pub mod Loop
