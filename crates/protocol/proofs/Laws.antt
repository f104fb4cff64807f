-- The laws of the definitions: callers use these and not the definitions' text.
pub mod Tests
pub mod Counts
pub mod Lists
pub mod Formed
pub mod Bits
pub mod Sizes
pub mod Entries
pub mod Worlds
pub mod Change
pub mod Sound
pub mod Kinds
pub mod Moves
pub mod Turns
pub mod Fresh
pub mod Refusals
