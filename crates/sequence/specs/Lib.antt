pub mod Sequence
pub mod Display
