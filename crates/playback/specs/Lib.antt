pub mod State
pub mod Search
pub mod Display
pub mod Steps
pub mod StepResults
pub mod Fit
pub mod Cases
