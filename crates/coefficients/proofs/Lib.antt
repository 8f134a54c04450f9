pub mod Bounds
pub mod Cases
pub mod Kept
pub mod Placing
pub mod Sizes
pub mod Standard
pub mod DcTable
