pub mod DisjointBlocks
pub mod Blocks
pub mod Planes
pub mod Predict
pub mod Samples
pub mod Standard
pub mod Writers
