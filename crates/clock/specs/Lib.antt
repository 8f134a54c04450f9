pub mod Nearest
pub mod Times
