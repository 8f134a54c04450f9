pub mod OwnNumbers
pub mod Checking
pub mod Openings
pub mod Converting
pub mod Starts
pub mod Fits
pub mod Decoding
pub mod Cleared
