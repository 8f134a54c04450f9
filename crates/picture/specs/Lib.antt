pub mod Pictures
pub mod Promises
pub mod CodeResults
pub mod Stops
