pub mod Summing
pub mod Sums
