pub mod Drawing
pub mod Passes
pub mod Samples
