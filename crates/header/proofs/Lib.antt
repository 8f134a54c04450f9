pub mod Clearing
pub mod Entries
pub mod Sizing
