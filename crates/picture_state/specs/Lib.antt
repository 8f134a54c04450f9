pub mod State
pub mod Flags
pub mod Possible
pub mod Result
pub mod Stop
pub mod Promises
