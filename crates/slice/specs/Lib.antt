pub mod Slices
pub mod Promises
pub mod Stops
