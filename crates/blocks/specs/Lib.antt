pub mod Blocks
pub mod Promises
pub mod Stops
