pub mod Leaves
pub mod Checks
