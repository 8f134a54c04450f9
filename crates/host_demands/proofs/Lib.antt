pub mod Behind
pub mod Opening
pub mod Decode
pub mod Conversion
