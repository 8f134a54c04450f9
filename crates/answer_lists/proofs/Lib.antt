pub mod Signs
pub mod Tallies
