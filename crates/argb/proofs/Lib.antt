pub mod Cases
pub mod Columns
pub mod Pairs
pub mod Places
pub mod Pointwise
pub mod Rows
pub mod Store
