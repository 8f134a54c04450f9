pub mod Pixel
pub mod Planes
pub mod Scaled
