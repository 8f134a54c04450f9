pub mod Blocks
pub mod Bytes
pub mod Noise
pub mod Numbers
pub mod Tallies
