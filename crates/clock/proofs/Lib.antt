pub mod Wholes
pub mod Rounded
pub mod Times
pub mod Rates
pub mod Steps
pub mod Calls
pub mod Run
pub mod Example
