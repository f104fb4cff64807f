pub mod Ends
pub mod Promise
