pub mod Blocks
pub mod Coefficients
pub mod Dequantise
pub mod DcTable
pub mod Dcs
pub mod Standard
pub mod Syntax
