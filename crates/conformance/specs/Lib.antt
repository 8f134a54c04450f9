pub mod Cases
pub mod Floats
pub mod Lent
pub mod Records
pub mod Sums
