pub mod Bits
pub mod Bounds
pub mod Programs
pub mod Runs
