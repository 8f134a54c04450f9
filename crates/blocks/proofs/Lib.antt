pub mod BlockEnds
pub mod BlockLoop
pub mod Lengths
pub mod Ready
pub mod Results
pub mod Stores
pub mod Stops
