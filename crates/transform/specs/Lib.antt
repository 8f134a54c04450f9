pub mod Bounds
pub mod Steps
pub mod Butterfly
pub mod Idct
pub mod Exact
