pub mod Lists
pub mod Invariants
pub mod Carried
pub mod Operations
pub mod Precedence
pub mod Order
pub mod Theorem
