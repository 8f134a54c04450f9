pub mod Increments
pub mod Predictions
pub mod Heads
pub mod Promises
pub mod Stops
