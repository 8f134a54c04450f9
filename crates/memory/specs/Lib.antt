pub mod Fields
pub mod Memory
