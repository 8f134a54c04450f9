pub mod Each
pub mod Signed
pub mod Sizes
pub mod Stores
pub mod Loops
