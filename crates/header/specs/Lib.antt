pub mod State
pub mod Possible
pub mod Store
pub mod Sequences
