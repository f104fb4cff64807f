pub mod Tests
pub mod Links
pub mod Formed
pub mod Chains
pub mod Readable
pub mod Scan
pub mod Beyond
pub mod Walks
