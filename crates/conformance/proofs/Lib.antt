pub mod Reading
pub mod Summing
