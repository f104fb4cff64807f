pub mod Bits
pub mod Sizes
pub mod Tallies
