pub mod Macroblocks
pub mod Promises
pub mod Stops
