pub mod Taking
pub mod Lists
pub mod Same
pub mod Along
pub mod Examples
