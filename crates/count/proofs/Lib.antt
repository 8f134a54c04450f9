pub mod Counting
pub mod CountRun
