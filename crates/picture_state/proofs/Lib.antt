pub mod Possible
pub mod Kept
pub mod Signed
pub mod Exits
pub mod Results
pub mod Ready
pub mod Runs
